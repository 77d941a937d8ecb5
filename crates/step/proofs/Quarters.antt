-- The first two folds in the quarters where a half is known, its bits read from place 0 on. Assumes nothing.
use mathlib.Core.Path.{◌≡◌, ap, ◌∙◌, fun_ext}
use mathlib.Core.Bool.{Bool}
use Prim.Native.Nat.{ℕ, ◌+◌, ◌*◌, ◌/◌, ◌%◌, ◌≤◌, ◌<◌}
use native.Mathlib.Omega.{arith}
use Rattle.polar.specs.Code.{Costs}
use Rattle.polar.specs.Fold.{free_fold, known_fold, level}
use Rattle.windows.proofs.Levels.{quarter-1, quarter-2, quarter-3}

-- The bits from place 0 on.
start : (y : ℕ → Bool) → (λ i. y (0 + i)) ≡ y
start y = fun_ext (λ i. ap y (omega arith))

module _ (n : ℕ) (y : ℕ → Bool) (m : Costs) where
  -- What the first two levels leave.
  abbrev left : Costs
  left = level 4 (n % 8) (λ i. y (n / 8 * 8 + i)) (level 8 n y m)

  pub free-known : 4 ≤ n → n < 8 → known_fold 4 (λ i. y (0 + i)) (free_fold 8 m) ≡ left
  free-known k l = ap (λ x. known_fold 4 x (free_fold 8 m)) (start y) ∙ quarter-1 n y m k l

  pub known-free : 8 ≤ n → n < 12 → free_fold 4 (known_fold 8 (λ i. y (0 + i)) m) ≡ left
  known-free k l = ap (λ x. free_fold 4 (known_fold 8 x m)) (start y) ∙ quarter-2 n y m k l

  pub known-known : 12 ≤ n → n < 16 → known_fold 4 (λ i. y (8 + i)) (known_fold 8 (λ i. y (0 + i)) m) ≡ left
  known-known k l = ap (λ x. known_fold 4 (λ i. y (8 + i)) (known_fold 8 x m)) (start y) ∙ quarter-3 n y m k l
