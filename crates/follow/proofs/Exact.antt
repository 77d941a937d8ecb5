-- Demand 3 for kernel follow, as one theorem about its definition; and how far its scores go. Assumes nothing.
use mathlib.Core.Path.{◌≡◌, refl, sym, ap, ◌∙◌}
use mathlib.Core.List.{List}
use Prim.Native.Nat.{ℕ, ◌*◌, ◌≤◌, ◌<◌}
use native.Mathlib.Omega.{arith}
use lib.IntN.{ℤ, pos, nat_abs}
use lib.ListN.{length, get_or, take}
use Rattle.bits.specs.Packed.{bits}
use Rattle.bits.proofs.Packed.{length-bits}
use Rattle.answer.specs.Verdict.{done, is_accepted}
use Rattle.answer.proofs.Written.{after-at, after-room, after-rest}
use Rattle.polar.specs.Code.{channel}
use Rattle.polar.specs.Follow.{scores}
use Rattle.polar.proofs.Minima.{sum-le, sum-const}
use Rattle.polar.proofs.Values.{score-size}
use Rattle.polar.proofs.Follow.{length-scores, scores-at}
use Rattle.polar.proofs.Exact.{score-exact}
use Rattle.folds.specs.Range.{value_limit}
use Rattle.folds.proofs.Range.{outside-none}
use Rattle.kernel.specs.Kernels.{kernel_code}
use Rattle.follow.specs.Jobs.{kernel_follow}
use Rattle.follow.specs.Exact.{KernelExact}
use Rattle.follow.proofs.Accepted.{accepted}

-- For every kernel, values, symbols and buffer: where the request is accepted, the scores that it leaves are exact at all phases.
pub kernel-follow-exact : (k : ℕ) (values : List ℤ) (symbols : ℕ) (out : List ℤ) → (kernel_follow k values symbols out).0 ≡ done
    → KernelExact k values symbols out (kernel_follow k values symbols out).1
unfolding kernel_follow
kernel-follow-exact k values symbols out a =
    let C = kernel_code k in
    let m = channel values in
    let u = bits 16 symbols in
    let n : length (scores C m u) ≡ 16 = length-scores C m u ∙ length-bits 16 symbols in
    record {
      score-exact = λ i l. rw (after-at _ out (scores C m u) 16 n a i (pos 0) l) (score-exact C m u i (length-bits 16 symbols) l (pos 0));
      room = after-room _ out (scores C m u) 16 n a;
      rest = after-rest _ out (scores C m u) 16 n a;
    }

-- No score that it leaves is in size beyond sixteen times the limit of a value: it is at most the sum of the sizes of the values.
pub kernel-follow-bound : (k : ℕ) (values : List ℤ) (symbols : ℕ) (out : List ℤ) → (kernel_follow k values symbols out).0 ≡ done
    → (i : ℕ) → i < 16 → nat_abs (get_or (kernel_follow k values symbols out).1 i (pos 0)) ≤ 16 * value_limit
unfolding kernel_follow
kernel-follow-bound k values symbols out a i l =
    let C = kernel_code k in
    let m = channel values in
    let u = bits 16 symbols in
    let n : length (scores C m u) ≡ 16 = length-scores C m u ∙ length-bits 16 symbols in
    let passed = accepted k values (length out) (ap is_accepted a) in
    let sizes = sum-le 16 (outside-none value_limit values (passed.inside ∙ sym passed.count)) in
    rw (after-at _ out (scores C m u) 16 n a i (pos 0) l, scores-at C m u i (pos 0) (omega (arith, length-bits 16 symbols)))
    (omega (arith, score-size C values (take i u), sizes, sum-const 16 value_limit))

-- Sixteen times the limit is the number of request E6.
pub bound-is : 16 * value_limit ≡ 524272
unfolding value_limit
bound-is = refl
