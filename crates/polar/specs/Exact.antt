-- Demand 3 in the paper's words: which score and which penalty are exact at a phase, and which bit a score decides. Assumes nothing.
use Rattle.std.specs.Prelude.{◌≡◌, Bool, true, false, List, [], ◌∷◌, ◌++◌, ℕ, suc, ◌≤◌, length, take, ℤ, pos, ◌-ℤ◌, ◌≤ℤ◌, ◌<ℤ◌}
use Rattle.polar.specs.Code.{Code, Costs, total, IsBest}

-- The score x of phase i is exact for the symbols u: it is the best score of the words that agree with the first i symbols and
-- have 0 next, less the best score of those that have 1 next.
pub record ExactScore (C : Code) (m : Costs) (u : List Bool) (i : ℕ) (x : ℤ) : Type 0 where
  pub x0 : ℤ
  pub x1 : ℤ
  pub best0 : IsBest C m (take i u ++ (false ∷ [])) x0
  pub best1 : IsBest C m (take i u ++ (true ∷ [])) x1
  pub less : x ≡ x0 -ℤ x1

-- The penalty n of phase i is exact for the symbols u: a word that agrees with the first i + 1 symbols pays it in total, and no such
-- word pays less.
pub record ExactPenalty (C : Code) (m : Costs) (u : List Bool) (i : ℕ) (n : ℕ) : Type 0 where
  pub paid : (t : List Bool) × (length (take (suc i) u ++ t) ≡ C.size) × (total C m (take (suc i) u ++ t) ≡ n)
  pub no_less : (t : List Bool) → length (take (suc i) u ++ t) ≡ C.size → n ≤ total C m (take (suc i) u ++ t)

-- The bit b is the sign of the score x: 0 where it is 0 or more, so also on a tie, else 1.
pub record IsSign (x : ℤ) (b : Bool) : Type 0 where
  pub is_zero : pos 0 ≤ℤ x → b ≡ false
  pub is_one : x <ℤ pos 0 → b ≡ true
