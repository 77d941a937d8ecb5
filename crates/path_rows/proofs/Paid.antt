-- What the bits of a path pay, by a Hadamard transform: half of what the transform lacks of the sum of sizes. Assumes nothing.
use mathlib.Core.Path.{◌≡◌, refl, sym, ap, ap₂, ◌∙◌}
use mathlib.Core.Bool.{Bool, true, false, not}
use Prim.Native.Nat.{ℕ, zero, suc, ◌+◌, ◌*◌, ◌/◌, ◌^◌, ◌≤◌, ◌<◌}
use native.Mathlib.Nat.{mul-div_right, suc-mul}
use native.Mathlib.Omega.{arith}
use lib.Dec.{T, lit<}
use lib.IntN.{ℤ, pos, negsuc, neg_ℤ, nat_abs, ◌+ℤ◌, ◌-ℤ◌, neg_ℤ-neg_ℤ, +ℤ_invr}
use lib.Signed.{non_neg}
use Rattle.base.specs.Bit.{◌⊕◌, digit, parity, every}
use Rattle.base.proofs.Bool.{⊕-assoc, ⊕-comm, ⊕-same, every-at}
use Rattle.polar.specs.Code.{pay, sum}
use Rattle.polar.proofs.Minima.{sum-add}
use Rattle.values.specs.Value.{turned, gain}
use Rattle.hadamard.specs.Transform.{int_sum, shared, transform}
use Rattle.hadamard.proofs.Sums.{turned-⊕, int_sum-cong, int_sum-add, int_sum-neg, int_sum-turned, int_sum-pos}
use Rattle.values.specs.Path.{path_bit, path_bits}

-- A sum of n numbers is at most n times a bound of each.
pub sum-most : (n m : ℕ) (f : ℕ → ℕ) → ((i : ℕ) → i < n → f i ≤ m) → sum n f ≤ n * m
unfolding sum
sum-most zero m f h = omega arith
sum-most (suc n) m f h = omega (arith, h zero (omega arith), sum-most n m (λ i. f (suc i)) (λ i l. h (suc i) (omega arith)), suc-mul n m)

-- What a turned value lacks of its size is twice what the value pays for the bit.
pay-twice : (e : ℤ) (b : Bool) → pos (nat_abs e) -ℤ turned b e ≡ pos (pay e b + pay e b)
pay-twice (pos n) false = +ℤ_invr (pos n)
pay-twice (pos n) true = ap (λ x. pos n +ℤ x) (neg_ℤ-neg_ℤ (pos n))
pay-twice (negsuc n) false = refl
pay-twice (negsuc n) true = +ℤ_invr (pos (suc n))

-- The same of n values: a sum of them, each with either sign, lacks of the sum of sizes an even number. So all such sums have
-- the parity of that sum, and the half is exact.
sum_twice : (n : ℕ) (e : ℕ → ℤ) (c : ℕ → Bool)
    → pos (sum n (λ x. nat_abs (e x))) -ℤ int_sum n (λ x. turned (c x) (e x)) ≡ pos (2 * sum n (λ x. pay (e x) (c x)))
sum_twice n e c =
    ap₂ ◌+ℤ◌ (sym (int_sum-pos n (λ x. nat_abs (e x)))) (sym (int_sum-neg n (λ x. turned (c x) (e x))))
    ∙ sym (int_sum-add n _ _)
    ∙ int_sum-cong n (λ x _. pay-twice (e x) (c x))
    ∙ int_sum-pos n (λ x. pay (e x) (c x) + pay (e x) (c x))
    ∙ ap pos (sum-add n (λ x. pay (e x) (c x)) (λ x. pay (e x) (c x)) ∙ omega arith)

-- The best score of n values under bits: minus what they pay.
pub sum-gain : (n : ℕ) (e : ℕ → ℤ) (c : ℕ → Bool) → int_sum n (λ x. gain (e x) (c x)) ≡ neg_ℤ (pos (sum n (λ x. pay (e x) (c x))))
sum-gain n e c = int_sum-neg n _ ∙ ap neg_ℤ (int_sum-pos n _)

module _ (t : ℕ) (e : ℕ → ℤ) (k : ℕ → Bool) (s : Bool) (w : ℕ) where
  -- The bits of place w with sign s: the known ones, and s and where w and x share an odd number of set bits.
  abbrev pub affine : ℕ → Bool
  affine x = k x ⊕ (s ⊕ shared t w x)

  -- What the transform with that sign lacks of the sum of sizes.
  abbrev pub lack : ℤ
  lack = pos (sum (2 ^ t) (λ x. nat_abs (e x))) -ℤ turned s (transform t (λ x. turned (k x) (e x)) w)

  transformed : turned s (transform t (λ x. turned (k x) (e x)) w) ≡ int_sum (2 ^ t) (λ x. turned (affine x) (e x))
  transformed =
      sym (int_sum-turned (2 ^ t) s _)
      ∙ int_sum-cong (2 ^ t) (λ x _.
      ap (turned s) (sym (turned-⊕ (shared t w x) (k x) (e x)))
      ∙ sym (turned-⊕ s (shared t w x ⊕ k x) (e x))
      ∙ ap (λ b. turned b (e x)) (sym (⊕-assoc s (shared t w x) (k x)) ∙ ⊕-comm (s ⊕ shared t w x) (k x)))

  -- It is twice what the values pay for those bits,
  pub lack-is : lack ≡ pos (2 * sum (2 ^ t) (λ x. pay (e x) (affine x)))
  lack-is = ap (λ z. pos (sum (2 ^ t) (λ x. nat_abs (e x))) -ℤ z) transformed ∙ sum_twice (2 ^ t) e affine

  -- so it is not negative,
  pub lack-above : T (non_neg lack)
  lack-above = rw lack-is tt

  -- and half of it is what they take from a score.
  pub lack-half : (base : ℤ) → base -ℤ pos (nat_abs lack / 2) ≡ base +ℤ int_sum (2 ^ t) (λ x. gain (e x) (affine x))
  lack-half base =
      ap (λ z. base -ℤ pos (nat_abs z / 2)) lack-is
      ∙ ap (λ n. base -ℤ pos n) (mul-div_right (sum (2 ^ t) (λ x. pay (e x) (affine x))) {m = 2} (lit< tt))
      ∙ ap (λ z. base +ℤ z) (sym (sum-gain (2 ^ t) e affine))

-- The bits that a path adds are of that form, for four places
same_bit : Bool → Bool → Bool → ℕ → Bool
same_bit d g a i = not (path_bit d g a i ⊕ (a ⊕ shared 2 (2 * digit g + digit d) i))

test_bit : (d g a : Bool) → every 4 (same_bit d g a) ≡ true
unfolding same_bit every parity
test_bit false false false = refl
test_bit false false true = refl
test_bit false true false = refl
test_bit false true true = refl
test_bit true false false = refl
test_bit true false true = refl
test_bit true true false = refl
test_bit true true true = refl

pub path-bit : (d g a : Bool) (i : ℕ) → i < 4 → path_bit d g a i ≡ a ⊕ shared 2 (2 * digit g + digit d) i
unfolding same_bit
path-bit d g a i l = ⊕-same (path_bit d g a i) (a ⊕ shared 2 (2 * digit g + digit d) i) (every-at 4 (same_bit d g a) (test_bit d g a) i l)

-- and for eight.
same_bits : Bool → Bool → Bool → Bool → ℕ → Bool
same_bits o d g a i = not (path_bits o d g a i ⊕ (a ⊕ shared 3 (4 * digit o + (2 * digit g + digit d)) i))

test-bits : (o d g a : Bool) → every 8 (same_bits o d g a) ≡ true
unfolding same_bits every parity
test-bits false false false false = refl
test-bits false false false true = refl
test-bits false false true false = refl
test-bits false false true true = refl
test-bits false true false false = refl
test-bits false true false true = refl
test-bits false true true false = refl
test-bits false true true true = refl
test-bits true false false false = refl
test-bits true false false true = refl
test-bits true false true false = refl
test-bits true false true true = refl
test-bits true true false false = refl
test-bits true true false true = refl
test-bits true true true false = refl
test-bits true true true true = refl

pub path-bits : (o d g a : Bool) (i : ℕ) → i < 8 → path_bits o d g a i ≡ a ⊕ shared 3 (4 * digit o + (2 * digit g + digit d)) i
unfolding same_bits
path-bits o d g a i l =
    ⊕-same (path_bits o d g a i) (a ⊕ shared 3 (4 * digit o + (2 * digit g + digit d)) i) (every-at 8 (same_bits o d g a) (test-bits o d g a) i l)
