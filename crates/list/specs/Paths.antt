-- List decoding: the paths that are kept after each phase. Assumes nothing.
use Rattle.std.specs.Prelude.{Bool, true, false, List, [], ◌∷◌, ◌++◌, map, ℕ, zero, suc, ◌+◌, ◌/◌, take, get_or}
use Rattle.base.specs.Bit.{digit, odd}
use Rattle.polar.specs.Code.{Code, Costs, least}
use Rattle.list.specs.Sort.{sort}

-- Every path splits in two: by the parent's position, then symbol 0 before 1.
unfoldable pub split : List (List Bool) → List (List Bool)
split [] = []
split (p ∷ ps) = (p ++ (false ∷ [])) ∷ (p ++ (true ∷ [])) ∷ split ps

-- At a marked phase every path splits in two. The L of least penalty stay, or all where there are no more than L, ordered by penalty,
-- then by the parent's position, then symbol 0 before 1. At an unmarked phase each path goes on with 0 and keeps its position.
unfoldable pub phase : (List Bool → ℕ) → ℕ → Bool → List (List Bool) → List (List Bool)
phase penalty L true ps = take L (sort penalty (split ps))
phase penalty L false ps = map (λ p. p ++ (false ∷ [])) ps

-- The paths after the first n phases, of a list of L. The penalty of a path is the least total of the words that agree with it.
unfoldable pub paths : Code → Costs → (ℕ → Bool) → ℕ → ℕ → List (List Bool)
paths C m mark L zero = [] ∷ []
paths C m mark L (suc n) = phase (least C m) L (mark n) (paths C m mark L n)

-- Candidate c of a marked phase: path number c / 2, followed by symbol 1 where c is odd, else by 0.
abbrev pub candidate : List (List Bool) → ℕ → List Bool
candidate ps c = get_or ps (c / 2) [] ++ (odd c ∷ [])

-- How many of the phases below n are marked.
unfoldable pub marks : (ℕ → Bool) → ℕ → ℕ
marks mark zero = 0
marks mark (suc n) = marks mark n + digit (mark n)
