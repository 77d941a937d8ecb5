-- Kernel follow where all sixteen values are 0 or all are 1: the scores are 0, or the partial distances. Assumes nothing.
use mathlib.Core.Path.{◌≡◌, refl, sym, ap, ◌∙◌}
use mathlib.Core.Bool.{true, false, not}
use mathlib.Core.List.{List, ◌++◌}
use Prim.Native.Nat.{ℕ, ◌≤◌, ◌<◌}
use borrow.Author.Tests.{lt-ltb, le-ltb}
use lib.IntN.{ℤ, pos}
use lib.ListN.{length, drop, replicate}
use Rattle.base.specs.Bit.{tabulate}
use Rattle.bits.specs.Packed.{bits}
use Rattle.bits.proofs.Packed.{length-bits}
use Rattle.answer.specs.Verdict.{done, is_accepted, settle}
use Rattle.answer.proofs.Settle.{settle-none}
use Rattle.polar.specs.Code.{channel}
use Rattle.polar.specs.Distance.{partial_distance}
use Rattle.polar.proofs.Distance.{scores-distance, scores-zero}
use Rattle.folds.specs.Range.{value_limit, first_outside}
use Rattle.kernel.specs.Kernels.{kernel_code}
use Rattle.kernel.specs.Jobs.{is_kernel}
use Rattle.kernel.proofs.Checks.{kernel-below}
use Rattle.kernel.proofs.Distances.{kernel-zero}
use Rattle.follow.specs.Jobs.{kernel_follow_checks, kernel_follow}
use Rattle.follow.proofs.Accepted.{accepted-job}

module _ (k : ℕ) (out : List ℤ) (lk : k < 3) (room : 16 ≤ length out) where
  known : not (is_kernel k) ≡ false
  known = ap not (sym (kernel-below k) ∙ lt-ltb k 3 lk)

  zeros-accepted : is_accepted (settle (kernel_follow_checks k (replicate 16 (pos 0)) (length out)) done) ≡ true
  unfolding kernel_follow_checks value_limit first_outside
  zeros-accepted =
      ap is_accepted (settle-none (kernel_follow_checks k (replicate 16 (pos 0)) (length out)) done (known, (refl, (le-ltb (length out) 16 room, (refl, tt)))))

  ones-accepted : is_accepted (settle (kernel_follow_checks k (replicate 16 (pos 1)) (length out)) done) ≡ true
  unfolding kernel_follow_checks value_limit first_outside
  ones-accepted =
      ap is_accepted (settle-none (kernel_follow_checks k (replicate 16 (pos 1)) (length out)) done (known, (refl, (le-ltb (length out) 16 room, (refl, tt)))))

  -- All values 0: all scores 0, whatever the symbols. What lies past the scores stays.
  pub all-zero : (symbols : ℕ) → kernel_follow k (replicate 16 (pos 0)) symbols out ≡ (done, replicate 16 (pos 0) ++ drop 16 out)
  all-zero symbols =
      let values = replicate 16 (pos 0) in
      accepted-job k values symbols out zeros-accepted (channel values) (λ j b l. refl) (replicate 16 (pos 0)) (replicate 16 (pos 0) ++ drop 16 out)
      (sym (scores-zero (kernel_code k) 16 (bits 16 symbols) ∙ ap (λ n. replicate n (pos 0)) (length-bits 16 symbols))) refl

  -- All values 1, symbols 0: the partial distances of the sixteen rows.
  pub all_one : kernel_follow k (replicate 16 (pos 1)) 0 out ≡ (done, tabulate 16 (λ s. pos (partial_distance (kernel_code k) s)) ++ drop 16 out)
  unfolding bits
  all_one =
      let values = replicate 16 (pos 1) in
      let found = tabulate 16 (λ s. pos (partial_distance (kernel_code k) s)) in
      accepted-job k values 0 out ones-accepted (channel values) (λ j b l. refl) found (found ++ drop 16 out)
      (sym (scores-distance (kernel_code k) (kernel-zero k))) refl
