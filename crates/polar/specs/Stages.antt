-- Proof side: a frame in two stages, rows of symbols by the inner code and columns of their bits by the outer one. Assumes nothing.
use Rattle.std.specs.Prelude.{Bool, List, [], ◌∷◌, ◌++◌, map, ℕ, zero, suc, ◌+◌, ◌*◌, ◌/◌, ◌%◌, take, drop}
use Rattle.polar.specs.Code.{Code, Costs, pay, least, score}

-- The first k rows of n symbols.
unfoldable pub rows : ℕ → ℕ → List Bool → List (List Bool)
rows n zero u = []
rows n (suc k) u = take n u ∷ rows n k (drop n u)

-- Bit j of the word of each row.
abbrev pub column : Code → List (List Bool) → ℕ → List Bool
column A U j = map (λ v. A.word v j) U

-- Each row of symbols makes a word of A, and each column of these bits a word of B.
abbrev pub staged : Code → Code → Code
staged A B = record {
  size = B.size * A.size;
  places = A.places * B.places;
  word = λ u i. B.word (column A (rows A.size B.size u) (i / B.places)) (i % B.places);
}

-- The costs of block j, of w places.
abbrev pub block : ℕ → Costs → ℕ → Costs
block w m j t = m (w * j + t)

-- What place j of the inner word pays for bit b after the rows U: the least of outer word j, if its symbols begin with column j and b.
unfoldable pub pairs : Code → Code → Costs → List (List Bool) → Costs
pairs A B m U j b = least B (block B.places m j) (column A U j ++ (b ∷ []))

-- The soft values of the inner word after the rows U: the score of outer word j after its column.
abbrev pub soft : Code → Code → Costs → List (List Bool) → Costs
soft A B m U j = pay (score B (block B.places m j) (column A U j))
