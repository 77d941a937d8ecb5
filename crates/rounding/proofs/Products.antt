-- The product of two finite numbers, as binary32 rounds it. Assumes nothing.
use mathlib.Core.Path.{◌≡◌, refl, sym, ap, ◌∙◌, subst}
use Prim.Native.Nat.{ℕ, zero, suc, ◌+◌, ◌*◌, ◌/◌, ◌%◌, ◌^◌, min, compare, ◌≤◌, ◌<◌}
use native.Mathlib.Nat.{le_trans, le_of_eq, lt_of_lt_of_le, lt_of_not-le, not-le_of_lt, mul_right_comm, mul-le-mul, mul-le-mul_right, le-div_iff_mul-le, div-div-eq-div-mul}
use native.Mathlib.Omega.{arith}
use mathlib.Core.Bool.{Bool, true, false, cond, not}
use lib.Dec.{T, lit≤, ltb, nltb→le}
use lib.Pow.{pow_pos, pow_mono, pow-add}
use lib.Ieee.{Float, nan, inf, fin, up, down, unlike, binary32, odd, units, round, size, is_nan, mul}
use lib.Ieee.Digits.{size-lt, size_reaches}
use lib.Ieee.Fits.{round_is}
use lib.Ieee.Exact.{odd_sign}
use lib.Ieee.Nearest.{nearest-ge}
use lib.Ieee.Order.{drop, kept}
use lib.Ieee.Scale.{grid, finite}
use Rattle.rounding.specs.Rounding.{rounded, limited, is_negative}
use Rattle.rounding.proofs.Rounded.{odd-negative, limited-of, at-limit}

-- ---- what `round` gives, by the number of units of 2 ^ -149 that it picks

odd-real : (d : ℕ) (s : Bool) (q j l : ℕ) → T (not (is_nan (odd d s q j l)))
unfolding odd is_nan
odd-real d s zero j l = tt
odd-real d s (suc q) j l = tt

units-limited : (s : Bool) (q k : ℕ) → limited (units binary32 s q k) ≡ min 127 (rounded (q * 2 ^ k) (2 ^ 149))
unfolding units
units-limited s q k = go (ltb (q * 2 ^ k) (2 ^ 277)) (nltb→le (q * 2 ^ k) (2 ^ 277))
  where
    go : (b : Bool) → (T (not b) → 2 ^ 277 ≤ q * 2 ^ k) → limited (cond b (odd 25 s q k 149) (inf s)) ≡ min 127 (rounded (q * 2 ^ k) (2 ^ 149))
    go true h = limited-of (odd 25 s q k 149) s (q * 2 ^ k) (2 ^ 149) (pow_pos 149) (odd_sign 25 s q k 149)
    go false h = sym (at-limit (q * 2 ^ k) (2 ^ 149) (pow_pos 149) (le_trans (lit≤ tt) (h tt)))

units-negative : (s : Bool) (q k : ℕ) → is_negative (units binary32 s q k) ≡ s
unfolding units
units-negative s q k = go (ltb (q * 2 ^ k) (2 ^ 277))
  where
    go : (b : Bool) → is_negative (cond b (odd 25 s q k 149) (inf s)) ≡ s
    go true = odd-negative 25 s q k 149
    go false = refl

units-real : (s : Bool) (q k : ℕ) → T (not (is_nan (units binary32 s q k)))
unfolding units is_nan
units-real s q k = go (ltb (q * 2 ^ k) (2 ^ 277))
  where
    go : (b : Bool) → T (not (is_nan (cond b (odd 25 s q k 149) (inf s))))
    go true = odd-real 25 s q k 149
    go false = tt

pub round-limited : (s : Bool) (a c : ℕ) → limited (round binary32 s a c) ≡ min 127 (rounded (grid binary32 a c) (2 ^ 149))
round-limited s a c = ap limited (round_is binary32 s a c) ∙ units-limited s (kept 24 (a * 2 ^ 149) c) (drop 24 (a * 2 ^ 149) c)

pub round-negative : (s : Bool) (a c : ℕ) → is_negative (round binary32 s a c) ≡ s
round-negative s a c = ap is_negative (round_is binary32 s a c) ∙ units-negative s (kept 24 (a * 2 ^ 149) c) (drop 24 (a * 2 ^ 149) c)

pub round-real : (s : Bool) (a c : ℕ) → T (not (is_nan (round binary32 s a c)))
round-real s a c = subst (λ v. T (not (is_nan v))) (sym (round_is binary32 s a c)) (units-real s (kept 24 (a * 2 ^ 149) c) (drop 24 (a * 2 ^ 149) c))

-- ---- a fraction of 128 or more stays there

size-gt : (n j : ℕ) → 2 ^ j ≤ n → j < size n
size-gt n j h = lt_of_not-le (λ (g : size n ≤ j). not-le_of_lt (lt_of_lt_of_le (size-lt n) (pow_mono g)) h)

pub grid-large : (a c : ℕ) → 0 < c → 128 * c ≤ a → 2 ^ 156 ≤ grid binary32 a c
grid-large a c C h =
    let n = a * 2 ^ 149 in
    let N = n / c in
    let k = drop 24 n c in
    let l : 2 ^ 156 ≤ N = (le-div_iff_mul-le C).1 (le_trans (le_of_eq (mul_right_comm 128 (2 ^ 149) c)) (mul-le-mul_right (2 ^ 149) h)) in
    let z : 156 < size N = size-gt N 156 l in
    let k-ge : 133 ≤ k = omega arith in
    let i : 23 + k < size N = omega arith in
    let m : 2 ^ 23 * 2 ^ k ≤ N = le_trans (le_of_eq (sym (pow-add 2 23 k))) (size_reaches N (23 + k) i) in
    let q : 2 ^ 23 ≤ n / (c * 2 ^ k) = subst (λ x. 2 ^ 23 ≤ x) (div-div-eq-div-mul n c (2 ^ k)) ((le-div_iff_mul-le (pow_pos k)).1 m) in
    mul-le-mul (le_trans q (nearest-ge (n / (c * 2 ^ k)) (compare (n % (c * 2 ^ k) * 2) (c * 2 ^ k)))) (pow_mono {i = 133} {j = k} k-ge)

-- ---- the product of two finite numbers is a number

pub product-real : (x y : Float) → T (finite x) → T (finite y) → T (not (is_nan (mul binary32 x y)))
unfolding mul
product-real nan y h k = absurd h
product-real (inf s) y h k = absurd h
product-real (fin s m e) nan h k = absurd k
product-real (fin s m e) (inf t) h k = absurd k
product-real (fin s m e) (fin t n d) h k = round-real (unlike s t) (m * up e * (n * up d)) (down e * down d)

-- It is negative where one factor is and the other is not.
pub product-negative : (x y : Float) → T (finite x) → T (finite y) → is_negative (mul binary32 x y) ≡ unlike (is_negative x) (is_negative y)
unfolding mul
product-negative nan y h k = absurd h
product-negative (inf s) y h k = absurd h
product-negative (fin s m e) nan h k = absurd k
product-negative (fin s m e) (inf t) h k = absurd k
product-negative (fin s m e) (fin t n d) h k = round-negative (unlike s t) (m * up e * (n * up d)) (down e * down d)
