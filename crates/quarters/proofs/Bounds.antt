-- How large folded values are. Assumes nothing.
use mathlib.Core.Path.{◌≡◌, sym, ◌∙◌}
use mathlib.Core.Bool.{Bool}
use mathlib.Core.List.{List}
use Prim.Native.Nat.{ℕ, ◌+◌, ◌≤◌}
use native.Mathlib.Omega.{arith}
use lib.IntN.{ℤ, pos}
use lib.ListN.{length, get_or}
use Rattle.folds.specs.Range.{value_limit, first_outside}
use Rattle.folds.proofs.Range.{outside-none}
use Rattle.values.specs.Value.{Small}
use Rattle.value_folds.proofs.Sizes.{free-small, known_small}
use Rattle.phase_scores.specs.Quarter.{FreeHalf, KnownHalf, FreeQuarter, KnownQuarter}

-- What is small is so by any greater bound.
pub wider : (m n k : ℕ) (xs : List ℤ) → m ≤ n → Small m k xs → Small n k xs
wider m n k xs l h i li = omega (arith, h i li)

-- Values within the limit are small.
pub limit-small : (ys : List ℤ) → length ys ≡ 16 → first_outside value_limit ys ≡ 16 → Small value_limit 16 ys
limit-small ys e f i l = outside-none value_limit ys (f ∙ sym e) i

module _ (n : ℕ) (ys e : List ℤ) (small : Small n 16 ys) where
  pub free-half-small : FreeHalf ys e → Small n 8 e
  free-half-small h i l = rw (h i l) (free-small (get_or ys i (pos 0)) (get_or ys (8 + i) (pos 0)) n (small i (omega arith)) (small (8 + i) (omega arith)))

  pub known-half-small : (w : ℕ → Bool) → KnownHalf ys w e → Small (n + n) 8 e
  known-half-small w h i l = rw (h i l) (known_small (w i) (get_or ys i (pos 0)) (get_or ys (8 + i) (pos 0)) n n (small i (omega arith)) (small (8 + i) (omega arith)))

module _ (n : ℕ) (e t : List ℤ) (small : Small n 8 e) where
  pub free-quarter-small : FreeQuarter e t → Small n 4 t
  free-quarter-small h i l = rw (h i l) (free-small (get_or e i (pos 0)) (get_or e (4 + i) (pos 0)) n (small i (omega arith)) (small (4 + i) (omega arith)))

  pub known-quarter-small : (w : ℕ → Bool) → KnownQuarter e w t → Small (n + n) 4 t
  known-quarter-small w h i l = rw (h i l) (known_small (w i) (get_or e i (pos 0)) (get_or e (4 + i) (pos 0)) n n (small i (omega arith)) (small (4 + i) (omega arith)))
