-- The size of a number of thirty-two bits, by way of sixty-four, and what a channel value pays. Assumes nothing.
use mathlib.Core.Path.{◌≡◌, refl, ap, ◌∙◌}
use mathlib.Core.Bool.{Bool, true, false, true≢false}
use mathlib.Core.List.{List}
use Prim.Native.Nat.{ℕ, zero, suc, ◌^◌, ◌≤◌, ◌<◌}
use native.Mathlib.Nat.{le_trans}
use native.Mathlib.Omega.{arith}
use borrow.Author.Tests.{ltb-true}
use lib.Dec.{T}
use lib.IntN.{ℤ, pos, negsuc, nat_abs, neg_ℤ, ◌-ℤ◌, +ℤ_idl}
use lib.ListN.{length, get_or}
use lib.Signed.{mag, lt_z, non_neg}
use mir.Facts.{to_z-of_z, sfits_widen}
use mir.Syntax.{w32, w64}
use mir.Val.{Fits, SFits, to_z, of_z}
use Rattle.polar.specs.Code.{pay, channel}
use Rattle.polar.proofs.Values.{pay-size}
use Rattle.folds.specs.Range.{first_outside}
use Rattle.folds.proofs.Range.{outside-none}

-- The number read at thirty-two bits, and cast to sixty-four.
abbrev pub wide : ℤ → ℤ
wide y = to_z w64 (of_z w64 (to_z w32 (of_z w32 y)))

neg-mag : (y : ℤ) → mag y < 2 ^ 31 → mag (neg_ℤ y) < 2 ^ 63
neg-mag (pos zero) h = omega arith
neg-mag (pos (suc n)) h = omega arith
neg-mag (negsuc n) h = omega arith

neg-abs : (y : ℤ) → nat_abs (neg_ℤ y) ≡ nat_abs y
neg-abs (pos zero) = refl
neg-abs (pos (suc n)) = refl
neg-abs (negsuc n) = refl

neg-fit : (y : ℤ) → lt_z y (pos 0) ≡ true → mag y < 2 ^ 31 → T (non_neg (neg_ℤ y)) × Fits w32 (nat_abs (neg_ℤ y))
neg-fit (pos n) t h = absurd (omega (arith, ltb-true n 0 t))
neg-fit (negsuc n) t h = (tt, record { fits = omega arith })

pos-fit : (y : ℤ) → lt_z y (pos 0) ≡ false → mag y < 2 ^ 31 → T (non_neg y) × Fits w32 (nat_abs y)
pos-fit (pos n) t h = (tt, record { fits = omega arith })
pos-fit (negsuc n) t h = absurd (true≢false t)

module _ (y : ℤ) (h : mag y < 2 ^ 31) where
  fit : SFits w32 y
  fit = record { sfits = h }

  -- A number read at thirty-two bits is the number.
  pub read_is : to_z w32 (of_z w32 y) ≡ y
  read_is = to_z-of_z fit

  -- The cast to sixty-four bits loses nothing.
  pub wide_fits : SFits w64 (to_z w32 (of_z w32 y))
  wide_fits = rw read_is (sfits_widen tt fit)

  wide_is : wide y ≡ y
  wide_is = to_z-of_z wide_fits ∙ read_is

  neg_is : pos 0 -ℤ wide y ≡ neg_ℤ y
  neg_is = ap (λ z. pos 0 -ℤ z) wide_is ∙ +ℤ_idl (neg_ℤ y)

  -- The negation loses nothing, also that of the least number.
  pub neg-fits : SFits w64 (pos 0 -ℤ wide y)
  neg-fits = rw neg_is (record { sfits = neg-mag y h })

  neg-back : to_z w64 (of_z w64 (pos 0 -ℤ wide y)) ≡ neg_ℤ y
  neg-back = to_z-of_z neg-fits ∙ neg_is

  -- The size of a negative number fits thirty-two bits without a sign,
  pub neg-cast : lt_z (wide y) (pos 0) ≡ true
      → T (non_neg (to_z w64 (of_z w64 (pos 0 -ℤ wide y)))) × Fits w32 (nat_abs (to_z w64 (of_z w64 (pos 0 -ℤ wide y))))
  neg-cast t = rw neg-back (neg-fit y (rw wide_is at t) h)

  -- and so does that of any other.
  pub pos-cast : lt_z (wide y) (pos 0) ≡ false → T (non_neg (wide y)) × Fits w32 (nat_abs (wide y))
  pos-cast t = rw wide_is (pos-fit y (rw wide_is at t) h)

  -- It is the number's size.
  pub neg-size : nat_abs (to_z w64 (of_z w64 (pos 0 -ℤ wide y))) ≡ nat_abs y
  neg-size = ap nat_abs neg-back ∙ neg-abs y

-- ---- what a value pays, by its sign

-- A negative value pays its size for bit 0, and nothing for bit 1.
pub neg-pays : (y : ℤ) → lt_z y (pos 0) ≡ true → (nat_abs y ≡ pay y false) × (0 ≡ pay y true)
neg-pays (pos n) t = absurd (omega (arith, ltb-true n 0 t))
neg-pays (negsuc n) t = (refl, refl)

-- Any other pays its size for bit 1, and nothing for bit 0.
pub pos-pays : (y : ℤ) → lt_z y (pos 0) ≡ false → (nat_abs y ≡ pay y true) × (0 ≡ pay y false)
pos-pays (pos n) t = (refl, refl)
pos-pays (negsuc n) t = absurd (true≢false t)

-- Values none of which is outside the range pay at most its limit, also past their end.
pub channel-most : (limit : ℕ) (ys : List ℤ) → first_outside limit ys ≡ length ys → (j : ℕ) (b : Bool) → channel ys j b ≤ limit
channel-most limit ys e j b = le_trans (pay-size (get_or ys j (pos 0)) b) (outside-none limit ys e j)
