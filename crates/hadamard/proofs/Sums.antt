-- Laws of sums of integers, and of values under a bit. Assumes nothing.
use mathlib.Core.Path.{◌≡◌, refl, sym, ap, ap₂, ◌∙◌}
use mathlib.Core.Bool.{Bool, true, false}
use Prim.Native.Nat.{ℕ, zero, suc, ◌+◌, ◌≤◌, ◌<◌}
use native.Mathlib.Nat.{suc-add, zero-add, le_refl}
use native.Mathlib.Omega.{arith}
use lib.IntN.{ℤ, pos, neg_ℤ, nat_abs, ◌+ℤ◌, neg_ℤ-neg_ℤ, neg_ℤ-+ℤ, +ℤ_assoc, +ℤ_comm, +ℤ_idl}
use Rattle.base.specs.Bit.{◌⊕◌}
use Rattle.polar.specs.Code.{sum}
use Rattle.values.specs.Value.{turned}
use Rattle.value_folds.proofs.Sizes.{add_small}
use Rattle.hadamard.specs.Transform.{int_sum}

-- Sums in another order.
pub add-swap : (a b c d : ℤ) → (a +ℤ b) +ℤ (c +ℤ d) ≡ (a +ℤ c) +ℤ (b +ℤ d)
add-swap a b c d =
    +ℤ_assoc a b (c +ℤ d)
    ∙ ap (λ x. a +ℤ x) (sym (+ℤ_assoc b c d) ∙ ap (λ x. x +ℤ d) (+ℤ_comm b c) ∙ +ℤ_assoc c b d)
    ∙ sym (+ℤ_assoc a c (b +ℤ d))

-- Turned twice: by the sum of the bits.
pub turned-⊕ : (a b : Bool) (z : ℤ) → turned (a ⊕ b) z ≡ turned a (turned b z)
turned-⊕ false b z = refl
turned-⊕ true false z = refl
turned-⊕ true true z = sym (neg_ℤ-neg_ℤ z)

-- A turned sum.
pub turned-add : (b : Bool) (x y : ℤ) → turned b (x +ℤ y) ≡ turned b x +ℤ turned b y
turned-add false x y = refl
turned-add true x y = neg_ℤ-+ℤ x y

pub int_sum-cong : (n : ℕ) {f g : ℕ → ℤ} → ((i : ℕ) → i < n → f i ≡ g i) → int_sum n f ≡ int_sum n g
unfolding int_sum
int_sum-cong zero h = refl
int_sum-cong (suc n) h = ap₂ ◌+ℤ◌ (h zero (omega arith)) (int_sum-cong n (λ i l. h (suc i) (omega arith)))

pub int_sum-append : (k l : ℕ) (f : ℕ → ℤ) → int_sum (k + l) f ≡ int_sum k f +ℤ int_sum l (λ i. f (k + i))
unfolding int_sum
int_sum-append zero l f = simp zero-add (sym (+ℤ_idl _))
int_sum-append (suc k) l f = simp suc-add (ap (λ x. f zero +ℤ x) (int_sum-append k l (λ i. f (suc i))) ∙ sym (+ℤ_assoc (f zero) _ _))

pub int_sum-add : (n : ℕ) (f g : ℕ → ℤ) → int_sum n (λ i. f i +ℤ g i) ≡ int_sum n f +ℤ int_sum n g
unfolding int_sum
int_sum-add zero f g = refl
int_sum-add (suc n) f g = ap (λ x. (f zero +ℤ g zero) +ℤ x) (int_sum-add n (λ i. f (suc i)) (λ i. g (suc i))) ∙ add-swap (f zero) (g zero) _ _

pub int_sum-neg : (n : ℕ) (f : ℕ → ℤ) → int_sum n (λ i. neg_ℤ (f i)) ≡ neg_ℤ (int_sum n f)
unfolding int_sum
int_sum-neg zero f = refl
int_sum-neg (suc n) f = ap (λ x. neg_ℤ (f zero) +ℤ x) (int_sum-neg n (λ i. f (suc i))) ∙ sym (neg_ℤ-+ℤ (f zero) _)

pub int_sum-turned : (n : ℕ) (b : Bool) (f : ℕ → ℤ) → int_sum n (λ i. turned b (f i)) ≡ turned b (int_sum n f)
int_sum-turned n false f = refl
int_sum-turned n true f = int_sum-neg n f

-- A sum of numbers that are not negative.
pub int_sum-pos : (n : ℕ) (f : ℕ → ℕ) → int_sum n (λ i. pos (f i)) ≡ pos (sum n f)
unfolding int_sum sum
int_sum-pos zero f = refl
int_sum-pos (suc n) f = ap (λ x. pos (f zero) +ℤ x) (int_sum-pos n (λ i. f (suc i)))

-- A sum is at most the sum of the sizes, in size.
pub int_sum-size : (n : ℕ) (f : ℕ → ℤ) → nat_abs (int_sum n f) ≤ sum n (λ i. nat_abs (f i))
unfolding int_sum sum
int_sum-size zero f = le_refl _
int_sum-size (suc n) f = omega (arith, add_small (f zero) (int_sum n (λ i. f (suc i))), int_sum-size n (λ i. f (suc i)))
