-- The lesser of two numbers by the sign of their difference. Assumes nothing.
use mathlib.Core.Path.{◌≡◌, refl, sym, ap, ap₂, ◌∙◌}
use mathlib.Core.Bool.{Bool, true, false, cond, true≢false}
use Prim.Native.Nat.{ℕ, zero, suc, ◌-◌, ◌≤◌, ◌<◌, min}
use native.Mathlib.Decide.{dec_lt}
use native.Mathlib.Omega.{arith}
use borrow.Author.Tests.{ltb-true, ltb-false}
use lib.Dec.{T, ltb}
use lib.IntN.{ℤ, pos, negsuc, nat_abs, neg_ℤ, ◌+ℤ◌, ◌-ℤ◌}
use lib.Signed.{mag, lt_z, non_neg}
use mir.Facts.{to_z-of_z, to_z_pos}
use mir.Syntax.{w32}
use mir.Val.{Fits, SFits, to_z, of_z}

-- The difference of two numbers is minus what is lacking,
lacking : (a b : ℕ) → a < b → pos a -ℤ pos b ≡ neg_ℤ (pos (b - a))
lacking a zero l = absurd (omega arith)
lacking a (suc b) l = go (ltb a (suc b)) (ltb-false a (suc b)) (b - a) (omega arith) (omega arith)
  where
    go : (t : Bool) → (t ≡ false → suc b ≤ a) → (k : ℕ) → suc b - suc a ≡ k → suc b - a ≡ suc k
        → cond t (negsuc (suc b - suc a)) (pos (a - suc b)) ≡ neg_ℤ (pos (suc b - a))
    go true f k d e = ap negsuc d ∙ sym (ap (λ x. neg_ℤ (pos x)) e)
    go false f k d e = absurd (omega (arith, f refl))

-- or what is left.
left : (a b : ℕ) → b ≤ a → pos a -ℤ pos b ≡ pos (a - b)
left a zero l = ap pos (omega arith)
left a (suc b) l = go (ltb a (suc b)) (ltb-true a (suc b))
  where
    go : (t : Bool) → (t ≡ true → a < suc b) → cond t (negsuc (suc b - suc a)) (pos (a - suc b)) ≡ pos (a - suc b)
    go true f = absurd (omega (arith, f refl))
    go false f = refl

neg-mag : (n m : ℕ) → n ≤ m → mag (neg_ℤ (pos n)) ≤ m
neg-mag zero m l = omega arith
neg-mag (suc n) m l = omega arith

-- The lesser number is the second less what the first lacks of it.
both : (a b : ℕ) → pos b +ℤ neg_ℤ (pos (b - a)) ≡ pos (min a b)
both a b = go (b - a) refl
  where
    go : (d : ℕ) → b - a ≡ d → pos b +ℤ neg_ℤ (pos d) ≡ pos (min a b)
    go zero e = ap pos (omega arith)
    go (suc k) e = left b (suc k) (omega arith) ∙ ap pos (omega arith)

module _ (a b : ℕ) (la : a ≤ 33554432) (lb : b ≤ 33554432) where
  coded : to_z w32 a -ℤ to_z w32 b ≡ pos a -ℤ pos b
  coded = ap₂ (λ x y. x -ℤ y) (to_z_pos w32 {n = a} (omega arith)) (to_z_pos w32 {n = b} (omega arith))

  small : SFits w32 (pos a -ℤ pos b)
  small = go (dec_lt a b)
    where
      go : Dec (a < b) → SFits w32 (pos a -ℤ pos b)
      go (yes l) = rw (lacking a b l) (record { sfits = omega (arith, neg-mag (b - a) 33554432 (omega arith)) })
      go (no l) = rw (left a b (omega arith)) (record { sfits = omega arith })

  -- The difference fits thirty-two bits.
  pub short-fits : SFits w32 (to_z w32 a -ℤ to_z w32 b)
  short-fits = rw coded small

  back : to_z w32 (of_z w32 (to_z w32 a -ℤ to_z w32 b)) ≡ pos a -ℤ pos b
  back = to_z-of_z short-fits ∙ coded

  -- Where it is negative it is minus what is lacking,
  pub short-taken : lt_z (to_z w32 (of_z w32 (to_z w32 a -ℤ to_z w32 b))) (pos 0) ≡ true → to_z w32 (of_z w32 (to_z w32 a -ℤ to_z w32 b)) ≡ neg_ℤ (pos (b - a))
  short-taken t = back ∙ go (dec_lt a b) (rw back at t)
    where
      go : Dec (a < b) → lt_z (pos a -ℤ pos b) (pos 0) ≡ true → pos a -ℤ pos b ≡ neg_ℤ (pos (b - a))
      go (yes l) t = lacking a b l
      go (no l) t = absurd (omega (arith, ltb-true (a - b) 0 (rw (left a b (omega arith)) at t)))

  -- and else nothing is.
  pub short-left : lt_z (to_z w32 (of_z w32 (to_z w32 a -ℤ to_z w32 b))) (pos 0) ≡ false → pos 0 ≡ neg_ℤ (pos (b - a))
  short-left t = go (dec_lt a b) (rw back at t)
    where
      low : (n : ℕ) → 0 < n → lt_z (neg_ℤ (pos n)) (pos 0) ≡ true
      low zero l = absurd (omega arith)
      low (suc n) l = refl

      go : Dec (a < b) → lt_z (pos a -ℤ pos b) (pos 0) ≡ false → pos 0 ≡ neg_ℤ (pos (b - a))
      go (yes l) t = absurd (true≢false (sym (rw (lacking a b l) (low (b - a) (omega arith))) ∙ t))
      go (no l) t = let e : 0 ≡ b - a = omega arith in ap (λ n. neg_ℤ (pos n)) e

  module _ (r : ℤ) (f : SFits w32 r) (e : r ≡ neg_ℤ (pos (b - a))) where
    sum : to_z w32 b +ℤ to_z w32 (of_z w32 r) ≡ pos (min a b)
    sum = ap₂ ◌+ℤ◌ (to_z_pos w32 {n = b} (omega arith)) (to_z-of_z f ∙ e) ∙ both a b

    -- The sum fits,
    pub lower-fits : SFits w32 (to_z w32 b +ℤ to_z w32 (of_z w32 r))
    lower-fits = rw sum (record { sfits = omega arith })

    whole : to_z w32 (of_z w32 (to_z w32 b +ℤ to_z w32 (of_z w32 r))) ≡ pos (min a b)
    whole = to_z-of_z lower-fits ∙ sum

    -- is a number,
    pub lower-cast : T (non_neg (to_z w32 (of_z w32 (to_z w32 b +ℤ to_z w32 (of_z w32 r))))) × Fits w32 (nat_abs (to_z w32 (of_z w32 (to_z w32 b +ℤ to_z w32 (of_z w32 r)))))
    lower-cast = rw whole (tt, record { fits = omega arith })

    -- and the lesser one.
    pub lower-is : nat_abs (to_z w32 (of_z w32 (to_z w32 b +ℤ to_z w32 (of_z w32 r)))) ≡ min a b
    lower-is = ap nat_abs whole
