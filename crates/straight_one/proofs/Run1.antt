-- The beginning of kernel 1's run, from what the code holds. Assumes nothing.
use mathlib.Core.Path.{◌≡◌, sym, ap, ◌∙◌}
use mathlib.Core.Bool.{Bool}
use mathlib.Core.List.{List}
use Prim.Native.Nat.{ℕ, ◌+◌, ◌<◌}
use native.Mathlib.Nat.{zero-add}
use native.Mathlib.Omega.{arith}
use lib.IntN.{ℤ}
use lib.ListN.{length}
use Rattle.polar.specs.Code.{channel, score}
use Rattle.kernel.specs.Kernels.{kernel_code}
use Rattle.values.specs.Arikan.{arikan_score}
use Rattle.phase_scores.specs.Quarter.{at, FreeHalf, FreeQuarter}
use Rattle.phase_scores.proofs.Kernel1.{score1-0, score1-1, score1-2}
use Rattle.phase_scores.proofs.Quarters.{first-quarter}
use Rattle.quarters.specs.Part.{Follows}
use Rattle.quarters.proofs.Few.{few-3}
use Rattle.quarters.proofs.Following.{follows-as}

-- Of four phases the first three.
three-of : (sc : List Bool → ℤ) (f g : ℕ → Bool) (xs : List ℤ) (us : List Bool) → Follows sc f g 4 xs us → Follows sc f g 3 xs us
three-of sc f g xs us h = record { score-at = λ i l. h.score-at i (omega arith); symbol-at = λ i l. h.symbol-at i (omega arith) }

-- Phases 0 to 2 are the first three of four values.
pub first_three : (ys e t : List ℤ) → FreeHalf ys e → FreeQuarter e t → (f g : ℕ → Bool) (xs : List ℤ) (us : List Bool)
    → Follows (arikan_score 2 (at t)) (λ i. f (0 + i)) (λ i. g (0 + i)) 4 xs us → Follows (score (kernel_code 1) (channel ys)) f g 3 xs us
first_three ys e t he ht f g xs us h =
    follows-as (arikan_score 2 (at t)) (score (kernel_code 1) (channel ys)) (λ i. f (0 + i)) f (λ i. g (0 + i)) g 3 xs us
    (λ p l. sym (alone p l ∙ first-quarter ys e t he ht p (omega arith))) (λ i. ap f (zero-add i)) (λ i. ap g (zero-add i)) (three-of _ _ _ xs us h)
  where
    alone : (p : List Bool) → length p < 3 → score (kernel_code 1) (channel ys) p ≡ arikan_score 4 (at ys) p
    alone = few-3 _ (score1-0 ys) (score1-1 ys) (score1-2 ys)
