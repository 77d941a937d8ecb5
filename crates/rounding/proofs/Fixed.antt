-- The product with scale 32: it loses nothing unless it overflows, so the soft value is that of the fixed factor. Assumes nothing.
use mathlib.Core.Path.{◌≡◌, refl, sym, ap, ◌∙◌, subst}
use Prim.Native.Nat.{ℕ, zero, suc, ◌+◌, ◌-◌, ◌*◌, ◌%◌, ◌^◌, min, ◌≤◌, ◌<◌}
use native.Mathlib.Nat.{le_trans, le_of_eq, lt_of_lt_of_le, not-le_of_lt, mul-one, mul_assoc, mul_comm, mul_right_comm, mul-le-mul_right, mul-lt-mul_of_pos_right, lt_of_mul-lt-mul_right}
use native.Mathlib.Decide.{dec_lt}
use native.Mathlib.Omega.{arith}
use mathlib.Core.Bool.{Bool, true, false, ◌&&◌}
use lib.Dec.{T, lit≤, lit<, ltb, leb, eqb, ltb→lt, leb→le, eqb→eq}
use lib.Pow.{pow_pos, pow_mono, pow-add, pow-lt}
use lib.IntN.{ℤ, pos, negsuc}
use lib.Ieee.{Float, nan, inf, fin, up, down, unlike, binary32, round, fits, mul}
use lib.Ieee.Fits.{and_l, and_r, down_pos}
use lib.Ieee.Exact.{HasValue, round_exact}
use lib.Ieee.Positive.{num, den}
use lib.Ieee.Scale.{grid, finite}
use Rattle.rounding.specs.Rounding.{rounded, limited, is_negative, nearest_limited, signed}
use Rattle.rounding.specs.Fixed.{thirty_two, fixed_steps, fixed_value}
use Rattle.rounding.proofs.Rounded.{limited-of, at-limit}
use Rattle.rounding.proofs.Products.{round-limited, round-negative, grid-large}

-- ---- the product with 32

sign-stays : (s : Bool) → unlike s false ≡ s
sign-stays true = refl
sign-stays false = refl

-- It is the exact product, rounded.
product_is : (s : Bool) (m : ℕ) (e : ℤ) → mul binary32 (fin s m e) thirty_two ≡ round binary32 s (32 * (m * up e)) (down e)
unfolding mul
product_is s m e =
    ap (λ v. round binary32 v (m * up e * 32) (down e * 1)) (sign-stays s)
    ∙ ap (round binary32 s (m * up e * 32)) (mul-one (down e))
    ∙ ap (λ a. round binary32 s a (down e)) (mul_comm (m * up e) 32)

-- 32 * m * 2 ^ e is a multiple m * 2 ^ j of 2 ^ -149: it has m's digits.
multiple : (m : ℕ) (e : ℤ) → down e ≤ 2 ^ 149 → (j : ℕ) × (32 * (m * up e) * 2 ^ 149 ≡ m * 2 ^ j * down e)
multiple m (pos k) h = (
  k + 154,
  ap (λ z. z * 2 ^ 149) (mul_comm 32 (m * 2 ^ k) ∙ mul_assoc m (2 ^ k) 32)
      ∙ mul_assoc m (2 ^ k * 32) (2 ^ 149)
      ∙ ap (λ z. m * z) (mul_assoc (2 ^ k) 32 (2 ^ 149) ∙ sym (pow-add 2 k 154))
      ∙ sym (mul-one (m * 2 ^ (k + 154))),
)
multiple m (negsuc k) h =
    let l : suc k ≤ 149 = exponent (suc k) h (dec_lt 149 (suc k)) in
    let b : 154 - suc k + suc k ≡ 154 = omega arith in (
      154 - suc k,
      ap (λ z. z * 2 ^ 149) (mul_comm 32 (m * 1))
          ∙ ap (λ z. z * 32 * 2 ^ 149) (mul-one m)
          ∙ mul_assoc m 32 (2 ^ 149)
          ∙ ap (λ z. m * 2 ^ z) (sym b)
          ∙ ap (λ z. m * z) (pow-add 2 (154 - suc k) (suc k))
          ∙ sym (mul_assoc m (2 ^ (154 - suc k)) (2 ^ suc k)),
    )
  where
    exponent : (i : ℕ) → 2 ^ i ≤ 2 ^ 149 → Dec (149 < i) → i ≤ 149
    exponent i h (yes l) = absurd (not-le_of_lt (pow-lt {i = 149} {j = i} l) h)
    exponent i h (no l) = omega arith

-- A number's digits, and its least power.
parts : (s : Bool) (m : ℕ) (e : ℤ) → T (fits binary32 (fin s m e)) → (m < 2 ^ 24) × (down e ≤ 2 ^ 149)
unfolding fits
parts s zero (pos k) h = (lit< tt, lit≤ tt)
parts s zero (negsuc k) h = absurd (no (2 ^ suc k) (pow_mono {i = 1} {j = suc k} (omega arith)) (eqb→eq (1 * 2 ^ suc k) 1 h))
  where
    no : (x : ℕ) → 2 ≤ x → 1 * x ≡ 1 → ⊥
    no x a b = omega arith
parts s (suc m) e h =
    let A = eqb (suc m % 2) 1 in
    let B = ltb (suc m) (2 ^ 24) in
    let C = leb (down e) (2 ^ 149) in
    let D = ltb (suc m * up e) (2 ^ 128 * down e) in (
      ltb→lt (suc m) (2 ^ 24) (and_r A B (and_l (A && B) C (and_l (A && B && C) D h))),
      leb→le (down e) (2 ^ 149) (and_r (A && B) C (and_l (A && B && C) D h)),
    )

-- 32 times a finite number is a value of the format, subnormal numbers too, unless it overflows: the product loses nothing.
pub product-exact : (x : Float) → T (finite x) → T (fits binary32 x) → 32 * num x < 2 ^ 128 * den x
    → HasValue (mul binary32 x thirty_two) (is_negative x) (32 * num x) (den x)
product-exact nan h k l = absurd h
product-exact (inf s) h k l = absurd h
product-exact (fin s m e) h k l =
    let p = parts s m e k in
    let c = down e in
    let a = 32 * (m * up e) in
    let j = multiple m e p.1 in
    let b : m * 2 ^ j.0 * c < 2 ^ 277 * c =
    subst (λ z. z < 2 ^ 277 * c) j.1 (lt_of_lt_of_le (mul-lt-mul_of_pos_right l (pow_pos 149)) (le_of_eq (mul_right_comm (2 ^ 128) c (2 ^ 149)))) in
    rw (product_is s m e) (round_exact binary32 s a c m j.0 (down_pos e) p.0 (lt_of_mul-lt-mul_right c b) j.1)

-- Where it overflows, it and the exact product are at the limit.
overflowed : (s : Bool) (a c : ℕ) → 0 < c → 2 ^ 128 * c ≤ a → limited (round binary32 s a c) ≡ min 127 (rounded a c)
overflowed s a c C g =
    let f : 128 * c ≤ a = le_trans (mul-le-mul_right c (lit≤ tt)) g in
    round-limited s a c
    ∙ at-limit (grid binary32 a c) (2 ^ 149) (pow_pos 149) (le_trans (lit≤ tt) (grid-large a c C f))
    ∙ sym (at-limit a c C (le_trans (mul-le-mul_right c (lit≤ tt)) f))

-- So the product of any number of the format goes to its value with the fixed factor.
pub times_32 : (x : Float) → T (fits binary32 x) → nearest_limited (mul binary32 x thirty_two) ≡ fixed_value x
unfolding mul nearest_limited
times_32 nan k = refl
times_32 (inf s) k = ap (λ v. signed v 127) (sign-stays s)
times_32 (fin s m e) k =
    let a = 32 * (m * up e) in
    ap nearest_limited (product_is s m e)
    ∙ ap (λ v. signed v (limited (round binary32 s a (down e)))) (round-negative s a (down e))
    ∙ ap (signed s) (go (dec_lt a (2 ^ 128 * down e)))
  where
    least : (a b : ℕ) → (a < b → ⊥) → b ≤ a
    least a b l = omega arith

    go : Dec (32 * (m * up e) < 2 ^ 128 * down e) → limited (round binary32 s (32 * (m * up e)) (down e)) ≡ min 127 (fixed_steps (fin s m e))
    go (yes l) =
        let a = 32 * (m * up e) in
        limited-of (round binary32 s a (down e)) s a (down e) (down_pos e) (rw (sym (product_is s m e)) (product-exact (fin s m e) tt k l))
    go (no l) = overflowed s (32 * (m * up e)) (down e) (down_pos e) (least (32 * (m * up e)) (2 ^ 128 * down e) l)
