-- What the acceptance of kernel follow's checks yields, and what the job leaves. Assumes nothing.
use mathlib.Core.Path.{◌≡◌, refl, sym, ap, ap₂, ◌∙◌}
use mathlib.Core.Bool.{Bool, true}
use mathlib.Core.List.{List, ◌++◌}
use Prim.Native.Nat.{ℕ, ◌≤◌, ◌<◌}
use native.Mathlib.Omega.{arith}
use borrow.Author.Tests.{not-false, eqb-true, ltb-false}
use lib.IntN.{ℤ}
use lib.ListN.{length, drop}
use Rattle.base.specs.Bit.{bit}
use Rattle.bits.specs.Packed.{bits}
use Rattle.bits.proofs.Packed.{length-bits, zero-at}
use Rattle.answer.specs.Verdict.{Verdict, done, is_accepted, settle, after}
use Rattle.answer.proofs.Settle.{None, none_of, settle-none}
use Rattle.polar.specs.Code.{Costs, channel}
use Rattle.polar.specs.Follow.{scores}
use Rattle.polar.proofs.Follow.{scores-cong, length-scores}
use Rattle.folds.specs.Range.{value_limit, first_outside}
use Rattle.folds.proofs.Range.{outside-le}
use Rattle.kernel.specs.Kernels.{kernel_code}
use Rattle.kernel.proofs.Checks.{kernel-lt}
use Rattle.run.specs.Run.{KernelRun}
use Rattle.run.proofs.Symbols.{given-only}
use Rattle.follow.specs.Jobs.{kernel_follow_checks, kernel_follow}

-- Inputs that pass all checks.
pub record Accepted (k : ℕ) (values : List ℤ) (room : ℕ) : Type 0 where
  pub known : k < 3
  pub count : length values ≡ 16
  pub room-enough : 16 ≤ room
  pub inside : first_outside value_limit values ≡ 16

passes : (k : ℕ) (values : List ℤ) (room : ℕ) → None (kernel_follow_checks k values room) → Accepted k values room
unfolding kernel_follow_checks
passes k values room n =
    let e = eqb-true (length values) 16 (not-false _ n.1.0) in
    let l = ltb-false (first_outside value_limit values) (length values) n.1.1.1.0 in
    record {
      known = kernel-lt k (not-false _ n.0);
      count = e;
      room-enough = ltb-false room 16 n.1.1.0;
      inside = omega (arith, outside-le value_limit values);
    }

module _ (k : ℕ) (values : List ℤ) (room : ℕ) (a : is_accepted (settle (kernel_follow_checks k values room) done) ≡ true) where
  -- Where the checks accept, the inputs pass them,
  pub accepted : Accepted k values room
  accepted = passes k values room (none_of (kernel_follow_checks k values room) done a)

  -- and the verdict is that all is done.
  pub accepted-done : settle (kernel_follow_checks k values room) done ≡ done
  accepted-done = settle-none (kernel_follow_checks k values room) done (none_of (kernel_follow_checks k values room) done a)

-- An accepted job leaves the scores and what lies past them.
pub accepted-job : (k : ℕ) (values : List ℤ) (symbols : ℕ) (out : List ℤ) → is_accepted (settle (kernel_follow_checks k values (length out)) done) ≡ true
    → (m : Costs) → ((j : ℕ) (b : Bool) → j < 16 → m j b ≡ channel values j b)
    → (found last : List ℤ) → found ≡ scores (kernel_code k) m (bits 16 symbols) → last ≡ found ++ drop 16 out
    → kernel_follow k values symbols out ≡ (done, last)
unfolding kernel_follow
accepted-job k values symbols out a m h found last f l =
    let u = bits 16 symbols in
    let new = scores (kernel_code k) (channel values) u in
    let same : found ≡ new = f ∙ scores-cong (kernel_code k) (λ i li b. h i b li) u in
    let long : length new ≡ 16 = length-scores (kernel_code k) (channel values) u ∙ length-bits 16 symbols in
    ap (λ (x : Verdict). (x, after x out new)) (accepted-done k values (length out) a)
    ∙ ap (λ (l : List ℤ). (done, l)) (ap₂ (λ (x : List ℤ) n. x ++ drop n out) (sym same) long ∙ sym l)

-- So does a run with nothing free and these symbols given.
pub run-job : (k : ℕ) (values : List ℤ) (symbols : ℕ) (out : List ℤ) → is_accepted (settle (kernel_follow_checks k values (length out)) done) ≡ true
    → (x : ℕ) (found : List ℤ) → KernelRun k values 0 symbols x found → (last : List ℤ) → last ≡ found ++ drop 16 out
    → kernel_follow k values symbols out ≡ (done, last)
run-job k values symbols out a x found r last l =
    let C = kernel_code k in
    let u = bits 16 symbols in
    let same : bits 16 x ≡ u = given-only C (channel values) (bit (bits 16 0)) (bits 16 x) u 16 (length-bits 16 x) (length-bits 16 symbols) (λ i _. zero-at 16 i) r.symbols-by in
    let f : found ≡ scores C (channel values) u = r.scores-are ∙ ap (scores C (channel values)) same in
    accepted-job k values symbols out a (channel values) (λ j b _. refl) found last f l
