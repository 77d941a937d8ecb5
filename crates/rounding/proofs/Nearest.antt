-- The steps of a product are nearest to it among all whole numbers, and at a half the neighbour farther from zero. Assumes nothing.
use mathlib.Core.Path.{◌≡◌, refl, sym, ap, ◌∙◌}
use mathlib.Core.Logic.{◌⊎◌, inl, inr}
use mathlib.Core.Bool.{Bool, true, false, cond}
use Prim.Native.Nat.{ℕ, zero, suc, ◌+◌, ◌-◌, ◌*◌, ◌≤◌, ◌<◌}
use native.Mathlib.Nat.{mul-le-mul_right, suc-mul}
use native.Mathlib.Decide.{dec_lt}
use native.Mathlib.Omega.{arith}
use borrow.Author.Tests.{ltb-true, ltb-false}
use lib.Dec.{T, ltb}
use lib.IntN.{ℤ, pos, negsuc, neg_ℤ, neg_ℤ-neg_ℤ, nat_abs, sub_ℕ, ◌-ℤ◌, ◌*ℤ◌}
use lib.Ieee.{Float, nan, inf, fin, up, down, binary32, mul}
use lib.Ieee.Fits.{down_pos}
use lib.Ieee.Positive.{num, den}
use lib.Ieee.Scale.{finite}
use Rattle.rounding.specs.Rounding.{rounded, steps, is_negative, signed}
use Rattle.rounding.proofs.Rounded.{Half, rounded-half, rounded-outward}

-- How far the whole number n lies from p, in parts of 1 / den p.
abbrev pub apart : Float → ℤ → ℕ
apart p n = nat_abs (n *ℤ pos (den p) -ℤ signed (is_negative p) (num p))

-- ---- distances of whole numbers

-- How far m and n lie apart.
abbrev pub between : ℕ → ℕ → ℕ
between m n = (m - n) + (n - m)

sub-size : (m n : ℕ) → nat_abs (sub_ℕ m n) ≡ between m n
sub-size m n = go (ltb m n) refl
  where
    go : (t : Bool) → ltb m n ≡ t → nat_abs (cond t (negsuc (n - suc m)) (pos (m - n))) ≡ between m n
    go true e = let l = ltb-true m n e in omega arith
    go false e = let l = ltb-false m n e in omega arith

same-side : (m n : ℕ) → nat_abs (pos m -ℤ pos n) ≡ between m n
same-side m zero = omega arith
same-side m (suc n) = sub-size m (suc n)

same-side-below : (m n : ℕ) → nat_abs (negsuc m -ℤ neg_ℤ (pos n)) ≡ between (suc m) n
same-side-below m n = rw (neg_ℤ-neg_ℤ (pos n)) (sub-size n (suc m) ∙ omega arith)

other-side : (m n : ℕ) → nat_abs (negsuc m -ℤ pos n) ≡ suc m + n
other-side m zero = sub-size 0 (suc m) ∙ omega arith
other-side m (suc n) = omega arith

other-side-above : (m n : ℕ) → nat_abs (pos m -ℤ neg_ℤ (pos n)) ≡ m + n
other-side-above m n = rw (neg_ℤ-neg_ℤ (pos n)) refl

-- ---- the fraction a / b with the sign s

-- How far n lies from it, in parts of 1 / b.
abbrev far : Bool → ℕ → ℕ → ℤ → ℕ
far s a b n = nat_abs (n *ℤ pos b -ℤ signed s a)

-- Either n is on its side of 0, or it is on the other.
abbrev Sides : Bool → ℕ → ℕ → ℤ → Type 0
Sides s a b n = ((m : ℕ) × ((n ≡ signed s m) × (far s a b n ≡ between (m * b) a))) ⊎ ((m : ℕ) × (far s a b n ≡ suc m * b + a))

-- A product with b above 0.
product-suc : (m b : ℕ) → 0 < b → (p : ℕ) × (suc m * b ≡ suc p)
product-suc m zero l = absurd (omega arith)
product-suc m (suc b) l = (suc m * suc b - 1, omega (arith, suc-mul m (suc b)))

sides : (s : Bool) (a b : ℕ) → 0 < b → (n : ℤ) → Sides s a b n
sides false a b B (pos m) = inl (m, (refl, same-side (m * b) a))
sides false a b B (negsuc m) =
    let p = product-suc m b B in
    inr (m, ap (λ z. nat_abs (neg_ℤ (pos z) -ℤ pos a)) p.1 ∙ other-side p.0 a ∙ ap (λ z. z + a) (sym p.1))
sides true a b B (pos zero) = inl (0, (refl, other-side-above (0 * b) a ∙ omega arith))
sides true a b B (pos (suc m)) = inr (m, other-side-above (suc m * b) a)
sides true a b B (negsuc m) =
    let p = product-suc m b B in
    inl (suc m, (refl, ap (λ z. nat_abs (neg_ℤ (pos z) -ℤ neg_ℤ (pos a))) p.1 ∙ same-side-below p.0 a ∙ ap (λ z. between z a) (sym p.1)))

-- A whole number with the fraction's own sign.
pub own : (s : Bool) (a b w : ℕ) → 0 < b → far s a b (signed s w) ≡ between (w * b) a
own false a b w B = same-side (w * b) a
own true a b zero B = other-side-above (0 * b) a ∙ omega arith
own true a b (suc w) B =
    let p = product-suc w b B in
    ap (λ z. nat_abs (neg_ℤ (pos z) -ℤ neg_ℤ (pos a))) p.1 ∙ same-side-below p.0 a ∙ ap (λ z. between z a) (sym p.1)

-- Two whole numbers lie a whole apart.
gap : (m n b : ℕ) → m < n → m * b + b ≤ n * b
gap m n b l = rw (← suc-mul m b) (mul-le-mul_right b l)

module _ (a b w : ℕ) (B : 0 < b) (h : Half w a b) where
  near : (m : ℕ) → between (w * b) a ≤ between (m * b) a
  near m = go (dec_lt m w) (dec_lt w m)
    where
      go : Dec (m < w) → Dec (w < m) → between (w * b) a ≤ between (m * b) a
      go (yes l) q = let g = gap m w b l in omega arith
      go (no l) (yes k) = let g = gap w m b k in omega arith
      go (no l) (no k) = let e : m ≡ w = omega arith in rw e (omega arith)

module _ (s : Bool) (a b : ℕ) (B : 0 < b) where
  -- The rounded fraction is at least as near as n.
  far-least : (n : ℤ) → far s a b (signed s (rounded a b)) ≤ far s a b n
  far-least n = rw (own s a b (rounded a b) B) (go (sides s a b B n))
    where
      go : Sides s a b n → between (rounded a b * b) a ≤ far s a b n
      go (inl (m, (e, f))) = rw f (near a b (rounded a b) B (rounded-half a b B) m)
      go (inr (m, f)) =
          let h = rounded-half a b B in
          let g : suc m * b ≡ m * b + b = suc-mul m b in
          rw f (omega arith)

-- ---- any finite number

near-all : (p : Float) → T (finite p) → (n : ℤ) → apart p (signed (is_negative p) (steps p)) ≤ apart p n
near-all nan h n = absurd h
near-all (inf s) h n = absurd h
near-all (fin s m e) h n = far-least s (m * up e) (down e) (down_pos e) n

outward-all : (p : Float) → T (finite p) → (q : ℕ) → num p * 2 ≡ (q * 2 + 1) * den p → steps p ≡ q + 1
outward-all nan h q e = absurd h
outward-all (inf s) h q e = absurd h
outward-all (fin s m e) h q k = rounded-outward (m * up e) (down e) q (down_pos e) k

-- ---- the theorem, of the product of an amplitude and a scale, rounded once in binary32

-- Where it does not overflow, its steps, with its sign, are at least as near to it as any whole number n.
pub steps-nearest : (scale x : Float) → (let p = mul binary32 x scale in
    T (finite p) → (n : ℤ) → apart p (signed (is_negative p) (steps p)) ≤ apart p n)
steps-nearest scale x = near-all (mul binary32 x scale)

-- At a half, where its size is q + 1/2, they are q + 1: of the two neighbours the one farther from zero.
pub steps-outward : (scale x : Float) → (let p = mul binary32 x scale in
    T (finite p) → (q : ℕ) → num p * 2 ≡ (q * 2 + 1) * den p → steps p ≡ q + 1)
steps-outward scale x = outward-all (mul binary32 x scale)
