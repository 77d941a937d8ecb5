-- The check of a kernel number. Assumes nothing.
use mathlib.Core.Path.{◌≡◌, refl, sym, ◌∙◌}
use mathlib.Core.Bool.{true, false, and-eq-true_iff}
use Prim.Native.Nat.{ℕ, zero, suc, ◌<◌}
use native.Mathlib.Omega.{arith}
use borrow.Author.Tests.{ne_eqb, le-ltb, ltb-true}
use lib.Dec.{ltb}
use Rattle.answer.specs.Verdict.{Verdict, refused, settle}
use Rattle.kernel.specs.Jobs.{is_kernel, is_pair, checks}

-- The kernel numbers are those below 3.
pub kernel-below : (k : ℕ) → ltb k 3 ≡ is_kernel k
unfolding is_kernel
kernel-below zero = refl
kernel-below (suc zero) = refl
kernel-below (suc (suc zero)) = refl
kernel-below (suc (suc (suc k))) =
    let n : ℕ = suc (suc (suc k)) in
    le-ltb n 3 (omega arith) ∙ sym (simp (ne_eqb n 0 (λ e. omega arith), ne_eqb n 1 (λ e. omega arith), ne_eqb n 2 (λ e. omega arith)))

pub kernel-refused : (k : ℕ) (v : Verdict) → is_kernel k ≡ false → refused 1 0 ≡ settle (checks k) v
unfolding checks
kernel-refused k v e = rw e

pub kernel-passed : (k : ℕ) (v : Verdict) → is_kernel k ≡ true → v ≡ settle (checks k) v
unfolding checks
kernel-passed k v e = rw e

pub kernel-lt : (k : ℕ) → is_kernel k ≡ true → k < 3
kernel-lt k e = ltb-true k 3 (kernel-below k ∙ e)

pub pair_lt : (a b : ℕ) → is_pair a b ≡ true → (a < 3) × (b < 3)
unfolding is_pair
pair_lt a b e = let h = (and-eq-true_iff (is_kernel a) (is_kernel b)).0 e in (kernel-lt a h.0, kernel-lt b h.1)
