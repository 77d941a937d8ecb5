-- How far values go: the sizes of sums, of folds and of what a value adds to a score. Assumes nothing.
use mathlib.Core.Path.{◌≡◌, refl, sym, ap, ap₂, ◌∙◌}
use mathlib.Core.Bool.{Bool, true, false}
use Prim.Native.Nat.{ℕ, zero, suc, ◌+◌, ◌^◌, ◌≤◌, ◌<◌, min, max}
use native.Mathlib.Omega.{arith}
use borrow.Author.Tests.{ltb-true}
use lib.IntN.{ℤ, pos, negsuc, nat_abs, neg_ℤ, sub_ℕ, ◌+ℤ◌, ◌-ℤ◌, +ℤ_idl, +ℤ_invr}
use lib.Signed.{lt_z}
use mir.Syntax.{w32}
use mir.Val.{SFits}
use Rattle.values.specs.Value.{greater, turned, free_value, known_value, gain}
use Rattle.values.proofs.Integers.{up, down, up-down, as-sub, sub-eq, sub-add, sub-sub, sub-greater, sub-size}

-- An integer whose size is below 2 ^ 31 fits thirty-two bits.
pub fits-small : (z : ℤ) (n : ℕ) → nat_abs z ≤ n → n < 2 ^ 31 → SFits w32 z
fits-small (pos k) n h l = record { sfits = omega arith }
fits-small (negsuc k) n h l = record { sfits = omega arith }

-- Minus an integer has its size,
pub neg_small : (z : ℤ) → nat_abs (neg_ℤ z) ≡ nat_abs z
neg_small (pos zero) = refl
neg_small (pos (suc n)) = refl
neg_small (negsuc n) = refl

-- and a sum at most the sum of the sizes,
pub add_small : (a b : ℤ) → nat_abs (a +ℤ b) ≤ nat_abs a + nat_abs b
add_small (pos a) (pos b) = omega arith
add_small (pos a) (negsuc b) = sub-size a (suc b) (a + suc b) (omega arith) (omega arith)
add_small (negsuc a) (pos b) = sub-size b (suc a) (suc a + b) (omega arith) (omega arith)
add_small (negsuc a) (negsuc b) = omega arith

-- as has a difference.
pub sub_small : (a b : ℤ) → nat_abs (a -ℤ b) ≤ nat_abs a + nat_abs b
sub_small a b = rw (neg_small b) at (add_small a (neg_ℤ b))

-- A turned value has the value's size.
pub turned-small : (b : Bool) (x : ℤ) → nat_abs (turned b x) ≡ nat_abs x
turned-small false x = refl
turned-small true x = neg_small x

-- A known fold has at most both sizes.
pub known_small : (b : Bool) (p q : ℤ) (m n : ℕ) → nat_abs p ≤ m → nat_abs q ≤ n → nat_abs (known_value b p q) ≤ m + n
known_small b p q m n hp hq = omega (arith, add_small q (turned b p), turned-small b p)

-- A free fold by the differences: the lesser sums across.
pub sub-free : (a b c d : ℕ) → free_value (sub_ℕ a b) (sub_ℕ c d) ≡ sub_ℕ (min (a + d) (c + b)) (min (b + d) (a + c))
sub-free a b c d =
    ap₂ ◌-ℤ◌ (ap (λ z. greater z (pos 0)) (sub-add a b c d) ∙ sub-greater (a + c) (b + d) 0 0) (sub-greater a b c d)
    ∙ sub-sub (max (a + c + 0) (0 + (b + d))) (b + d + 0) (max (a + d) (c + b)) (b + d)
    ∙ sub-eq (max (a + c + 0) (0 + (b + d)) + (b + d)) (b + d + 0 + max (a + d) (c + b)) (min (a + d) (c + b)) (min (b + d) (a + c)) (omega arith)

-- A free fold has at most the greater size.
pub free-small : (p q : ℤ) (n : ℕ) → nat_abs p ≤ n → nat_abs q ≤ n → nat_abs (free_value p q) ≤ n
free-small p q n hp hq =
    rw (as-sub p, as-sub q, sub-free (up p) (down p) (up q) (down q))
    (sub-size (min (up p + down q) (up q + down p)) (min (down p + down q) (up p + up q)) n
    (omega (arith, up-down p, up-down q)) (omega (arith, up-down p, up-down q)))

-- A free fold in the code's way: the greater of the two is the second and what the first has above it.
pub free-coded : (p q : ℤ) → greater (p +ℤ q) (pos 0) -ℤ greater (p -ℤ q) (pos 0) -ℤ q ≡ free_value p q
free-coded p q = ap₂ (λ x y. greater (x +ℤ y) (pos 0) -ℤ greater (x -ℤ y) (pos 0) -ℤ y) (as-sub p) (as-sub q) ∙ go (up p) (down p) (up q) (down q) ∙ sym (ap₂ free_value (as-sub p) (as-sub q))
  where
    go : (a b c d : ℕ) → greater (sub_ℕ a b +ℤ sub_ℕ c d) (pos 0) -ℤ greater (sub_ℕ a b -ℤ sub_ℕ c d) (pos 0) -ℤ sub_ℕ c d ≡ free_value (sub_ℕ a b) (sub_ℕ c d)
    go a b c d =
        ap (λ z. z -ℤ sub_ℕ c d)
        (ap₂ ◌-ℤ◌ (ap (λ z. greater z (pos 0)) (sub-add a b c d) ∙ sub-greater (a + c) (b + d) 0 0)
        (ap (λ z. greater z (pos 0)) (sub-sub a b c d) ∙ sub-greater (a + d) (b + c) 0 0)
        ∙ sub-sub (max (a + c + 0) (0 + (b + d))) (b + d + 0) (max (a + d + 0) (0 + (b + c))) (b + c + 0))
        ∙ sub-sub (max (a + c + 0) (0 + (b + d)) + (b + c + 0)) (b + d + 0 + max (a + d + 0) (0 + (b + c))) c d
        ∙ sub-eq (max (a + c + 0) (0 + (b + d)) + (b + c + 0) + d) (b + d + 0 + max (a + d + 0) (0 + (b + c)) + c) (min (a + d) (c + b)) (min (b + d) (a + c)) (omega arith)
        ∙ sym (sub-free a b c d)

-- What a value adds to a score has at most its size,
pub gain-small : (s : ℤ) (b : Bool) → nat_abs (gain s b) ≤ nat_abs s
gain-small (pos n) false = omega arith
gain-small (pos n) true = omega (arith, neg_small (pos n))
gain-small (negsuc n) false = omega arith
gain-small (negsuc n) true = omega arith

-- is the value for bit 0 where that is below 0,
pub gain-below : (s : ℤ) → lt_z s (pos 0) ≡ true → s ≡ gain s false
gain-below (pos n) t = absurd (omega (arith, ltb-true n 0 t))
gain-below (negsuc n) t = refl

-- and for bit 1 it is the value less than for bit 0.
pub gain-one : (s : ℤ) → gain s true ≡ gain s false -ℤ s
gain-one (pos n) = sym (+ℤ_idl (neg_ℤ (pos n)))
gain-one (negsuc n) = sym (+ℤ_invr (negsuc n))
