-- A value of sixteen bits as it is read, its negative, and what they pay; a small one of 32 bits brought to sixteen. Assumes nothing.
use mathlib.Core.Path.{◌≡◌, refl, ap, ◌∙◌}
use mathlib.Core.Bool.{true, false, true≢false}
use Prim.Native.Nat.{zero, suc, ◌^◌, ◌≤◌, ◌<◌}
use native.Mathlib.Omega.{arith}
use borrow.Author.Tests.{ltb-true}
use lib.Dec.{T}
use lib.IntN.{ℤ, pos, negsuc, nat_abs, neg_ℤ, ◌-ℤ◌, +ℤ_idl}
use lib.Signed.{mag, lt_z, non_neg}
use mir.Facts.{to_z-of_z}
use mir.Syntax.{w16, w32}
use mir.Val.{Fits, SFits, to_z, of_z}
use Rattle.polar.specs.Code.{pay}

-- A value that is not negative is a number of sixteen bits, and pays its size for bit 1;
number-pays : (y : ℤ) → lt_z y (pos 0) ≡ false → nat_abs y ≤ 2047 → T (non_neg y) × Fits w16 (nat_abs y) × (nat_abs y ≡ pay y true)
number-pays (pos n) t h = (tt, record { fits = omega arith }, refl)
number-pays (negsuc n) t h = absurd (true≢false t)

-- any other pays nothing for it.
none-pays : (y : ℤ) → lt_z y (pos 0) ≡ true → 0 ≡ pay y true
none-pays (pos n) t = absurd (omega (arith, ltb-true n 0 t))
none-pays (negsuc n) t = refl

-- The negative of a small value fits,
neg_small : (y : ℤ) → nat_abs y ≤ 2047 → mag (neg_ℤ y) < 2 ^ 15
neg_small (pos zero) h = omega arith
neg_small (pos (suc n)) h = omega arith
neg_small (negsuc n) h = omega arith

-- has its size,
neg-size : (y : ℤ) → nat_abs (neg_ℤ y) ≡ nat_abs y
neg-size (pos zero) = refl
neg-size (pos (suc n)) = refl
neg-size (negsuc n) = refl

-- and pays for bit 1 what the value pays for bit 0.
neg-pay : (y : ℤ) → pay (neg_ℤ y) true ≡ pay y false
neg-pay (pos zero) = refl
neg-pay (pos (suc n)) = refl
neg-pay (negsuc n) = refl

module _ (y : ℤ) (f : SFits w16 y) (h : nat_abs y ≤ 2047) where
  -- The value as it is read,
  abbrev held : ℤ
  held = to_z w16 (of_z w16 y)

  -- what it pays for bit 1,
  pub held-pays : lt_z held (pos 0) ≡ false → T (non_neg held) × Fits w16 (nat_abs held) × (nat_abs held ≡ pay y true)
  held-pays t = rw (to_z-of_z f) (number-pays y (rw (to_z-of_z f) at t) h)

  pub held_none : lt_z held (pos 0) ≡ true → 0 ≡ pay y true
  held_none t = none-pays y (rw (to_z-of_z f) at t)

  neg_is : pos 0 -ℤ held ≡ neg_ℤ y
  neg_is = ap (λ z. pos 0 -ℤ z) (to_z-of_z f) ∙ +ℤ_idl (neg_ℤ y)

  -- and its negative.
  pub neg-fits : SFits w16 (pos 0 -ℤ held)
  neg-fits = rw neg_is (record { sfits = neg_small y h })

  neg-back : to_z w16 (of_z w16 (pos 0 -ℤ held)) ≡ neg_ℤ y
  neg-back = to_z-of_z neg-fits ∙ neg_is

  pub neg-within : nat_abs (to_z w16 (of_z w16 (pos 0 -ℤ held))) ≤ 2047
  neg-within = rw neg-back (omega (arith, neg-size y, h))

  pub neg-pays : pay (to_z w16 (of_z w16 (pos 0 -ℤ held))) true ≡ pay y false
  neg-pays = ap (λ z. pay z true) neg-back ∙ neg-pay y

-- A small value of 32 bits fits sixteen,
pub fits-narrow : (z : ℤ) → nat_abs z ≤ 2047 → SFits w16 z
fits-narrow (pos n) h = record { sfits = omega arith }
fits-narrow (negsuc n) h = record { sfits = omega arith }

-- and comes through the cast.
pub narrow-is : (z : ℤ) → SFits w32 z → nat_abs z ≤ 2047 → to_z w16 (of_z w16 (to_z w32 (of_z w32 z))) ≡ z
narrow-is z f h = ap (λ y. to_z w16 (of_z w16 y)) (to_z-of_z f) ∙ to_z-of_z (fits-narrow z h)
