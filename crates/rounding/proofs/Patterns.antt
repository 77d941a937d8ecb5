-- The bit patterns of binary32, and the limited size of the number that each stands for. Assumes nothing.
-- A pattern is a sign, an exponent field of eight bits and 23 digits: 2147483648 is 2 ^ 31 and 8388608 is 2 ^ 23.
use mathlib.Core.Path.{◌≡◌, refl, sym, ap, ◌∙◌, subst}
use Prim.Native.Nat.{ℕ, zero, suc, ◌+◌, ◌-◌, ◌*◌, ◌/◌, ◌%◌, ◌^◌, min, max, ◌≤◌, ◌<◌}
use native.Mathlib.Nat.{le_trans, le_of_eq, le_of_lt, lt_of_lt_of_le, not-le_of_lt, mod-eq_of_lt, mul_assoc, mul-le-mul, mul-le-mul_right, mul-lt-mul_of_pos_right, eq-or-lt_of_le}
use native.Mathlib.Decide.{dec_lt}
use native.Mathlib.Omega.{arith}
use mathlib.Core.Bool.{Bool, true, false, cond, not}
use mathlib.Core.Logic.{inl, inr}
use lib.Dec.{T, lit≤, nltb→le, leb, eqb, leb→le, eqb→eq, not_T}
use lib.Pow.{pow_pos, pow_mono, pow-add, shl_lt, shl_exact}
use lib.Ieee.{Float, nan, inf, binary32, odd, of_fields, of_bits, to_bits, fits, is_nan}
use lib.Ieee.Bits.{is_false, cond_no, of_bits-to_bits, nan_bits_is, nan_bits_above}
use lib.Ieee.Exact.{HasValue, odd_sign}
use Rattle.rounding.specs.Rounding.{rounded, limited, is_negative}
use Rattle.rounding.proofs.Rounded.{odd-negative, limited-of, rounded-same, rounded-sum, to-zero, at-limit}

-- ---- the fields of a pattern

pub of_bits_is : (b : ℕ) → of_bits binary32 b ≡ of_fields binary32 (leb 2147483648 b) (b % 2147483648 / 8388608) (b % 8388608)
unfolding of_bits
of_bits_is b = refl

-- Those of a pattern with no sign; 2139095040 is the pattern of infinity.
fields-of : (n : ℕ) → n ≤ 2139095040 → of_bits binary32 n ≡ of_fields binary32 false (n / 8388608) (n % 8388608)
fields-of n h =
    let l : n < 2147483648 = omega arith in
    of_bits_is n
    ∙ ap (λ s. of_fields binary32 s (n % 2147483648 / 8388608) (n % 8388608)) (is_false (leb 2147483648 n) (not_T (leb 2147483648 n) (λ (u : T (leb 2147483648 n)). not-le_of_lt l (leb→le 2147483648 n u))))
    ∙ ap (λ x. of_fields binary32 false (x / 8388608) (n % 8388608)) (mod-eq_of_lt l)

-- Below the field of all ones a pattern is a number.
differ : (x : ℕ) → suc x < 255 → suc x ≡ 255 → ⊥
differ x h e = omega arith

under_ones : (s : Bool) (t x : ℕ) → suc x < 255 → of_fields binary32 s (suc x) t ≡ odd 24 s (8388608 + t) x 149
unfolding of_fields
under_ones s t x h = cond_no (eqb (suc x) 255) (cond (eqb t 0) (inf s) nan) (odd 24 s (8388608 + t) x 149) (not_T (eqb (suc x) 255) (λ (u : T (eqb (suc x) 255)). differ x h (eqb→eq (suc x) 255 u)))

-- The number of field x and digits t, in units of 2 ^ -149.
abbrev val : ℕ → ℕ → ℕ
val zero t = t
val (suc x) t = (8388608 + t) * 2 ^ x

value : (s : Bool) (x t : ℕ) → x < 255 → HasValue (of_fields binary32 s x t) s (val x t) (2 ^ 149)
unfolding of_fields
value s zero t h = subst (λ v. HasValue (odd 24 s t 0 149) s v (2 ^ 149)) (omega arith) (odd_sign 24 s t 0 149)
value s (suc x) t h = subst (λ v. HasValue v s ((8388608 + t) * 2 ^ x) (2 ^ 149)) (sym (under_ones s t x h)) (odd_sign 24 s (8388608 + t) x 149)

limited-val : (x t : ℕ) → x < 255 → limited (of_fields binary32 false x t) ≡ min 127 (rounded (val x t) (2 ^ 149))
limited-val x t h = limited-of (of_fields binary32 false x t) false (val x t) (2 ^ 149) (pow_pos 149) (value false x t h)

-- ---- below a half, from 127 on, and from a quarter to 127

no_zero : (k : ℕ) → suc k ≤ 0 → ⊥
no_zero k h = omega arith

val-low : (x t : ℕ) → x < 126 → t < 8388608 → val x t * 2 < 2 ^ 149
val-low zero t h l = lt_of_lt_of_le (twice t l) (pow_mono {i = 24} {j = 149} (omega arith))
  where
    twice : (t : ℕ) → t < 8388608 → t * 2 < 16777216
    twice t l = omega arith
val-low (suc x) t h l =
    let d : 8388608 + t < 2 ^ 24 = omega arith in
    let i : 24 + x ≤ 148 = omega arith in
    mul-lt-mul_of_pos_right (lt_of_lt_of_le (shl_lt 24 x d) (pow_mono {i = 24 + x} {j = 148} i)) (pow_pos 1)

-- 0x42fe0000 is the pattern of 127.
val-high : (x t : ℕ) → 0x42fe0000 ≤ x * 8388608 + t → t < 8388608 → 127 * 2 ^ 149 ≤ val x t
val-high zero t h l = absurd (omega arith)
val-high (suc x) t h l = go (dec_lt x 133)
  where
    go : Dec (x < 133) → 127 * 2 ^ 149 ≤ (8388608 + t) * 2 ^ x
    go (yes k) =
        let i : 132 ≤ x = omega arith in
        let d : 16646144 ≤ 8388608 + t = omega arith in
        le_trans (lit≤ tt) (mul-le-mul d (pow_mono {i = 132} {j = x} i))
    go (no k) =
        let i : 133 ≤ x = omega arith in
        let d : 8388608 ≤ 8388608 + t = omega arith in
        le_trans (lit≤ tt) (mul-le-mul d (pow_mono {i = 133} {j = x} i))

val-mid : (x t : ℕ) → 125 ≤ x → val x t * 2 ^ 25 ≡ (t + 8388608) * 2 ^ (x - 125) * 2 ^ 149
val-mid zero t h = absurd (no_zero 124 h)
val-mid (suc x) t h =
    let e : x ≡ (suc x - 125) + 124 = omega arith in
    let p : 2 ^ x ≡ 2 ^ (suc x - 125) * 2 ^ 124 = ap (λ z. 2 ^ z) e ∙ pow-add 2 (suc x - 125) 124 in
    let c : 8388608 + t ≡ t + 8388608 = omega arith in
    ap (λ z. z * 2 ^ x * 2 ^ 25) c
    ∙ ap (λ z. (t + 8388608) * z * 2 ^ 25) p
    ∙ ap (λ z. z * 2 ^ 25) (sym (mul_assoc (t + 8388608) (2 ^ (suc x - 125)) (2 ^ 124)))
    ∙ mul_assoc ((t + 8388608) * 2 ^ (suc x - 125)) (2 ^ 124) (2 ^ 25)

pub limited-low : (n : ℕ) → n ≤ 2139095040 → n / 8388608 < 126 → limited (of_bits binary32 n) ≡ 0
limited-low n h l =
    ap limited (fields-of n h)
    ∙ limited-val (n / 8388608) (n % 8388608) (omega arith)
    ∙ ap (min 127) (to-zero (val (n / 8388608) (n % 8388608)) (2 ^ 149) (val-low (n / 8388608) (n % 8388608) l (omega arith)))

at_ones : (s : Bool) (t x : ℕ) → x ≡ 255 → t ≡ 0 → of_fields binary32 s x t ≡ inf s
at_ones s t x e z = ap (λ y. of_fields binary32 s y t) e ∙ ap (λ y. of_fields binary32 s 255 y) z ∙ (unfold of_fields in refl)

pub limited-high : (n : ℕ) → n ≤ 2139095040 → 0x42fe0000 ≤ n → limited (of_bits binary32 n) ≡ 127
limited-high n h l = ap limited (fields-of n h) ∙ go (n / 8388608) (n % 8388608) (omega arith) (omega arith) (λ k. omega arith) (omega arith)
  where
    go : (x t : ℕ) → 0x42fe0000 ≤ x * 8388608 + t → t < 8388608 → (255 ≤ x → (x ≡ 255) × (t ≡ 0)) → x ≤ 255
        → limited (of_fields binary32 false x t) ≡ 127
    go x t l d k m = elim (eq-or-lt_of_le m) [
      | inl e ↦ ap limited (at_ones false t x e (k (le_of_eq (sym e))).1)
      | inr i ↦ limited-val x t i ∙ at-limit (val x t) (2 ^ 149) (pow_pos 149) (val-high x t l d)
    ]

-- 0x3e800000 is the pattern of 1/4.
module _ (n : ℕ) (l : 0x3e800000 ≤ n) (k : n ≤ 0x42fe0000) where
  -- The digits, shifted: the size in parts of 2 ^ -25.
  abbrev pub parts : ℕ
  parts = (n % 8388608 + 8388608) * 2 ^ (n / 8388608 - 125)

  -- The shift loses nothing,
  pub shifted : parts % 2 ^ 32 ≡ parts
  shifted = shl_exact 24 (n / 8388608 - 125) 32 (omega arith) (omega arith)

  -- and the size is at most 127: 4261412864 is 127 * 2 ^ 25.
  parts-le : parts ≤ 4261412864
  parts-le = go (dec_lt (n / 8388608) 133)
    where
      go : Dec (n / 8388608 < 133) → parts ≤ 4261412864
      go (yes i) =
          le_trans (le_of_lt (shl_lt 24 (n / 8388608 - 125) (omega arith)))
          (le_trans (pow_mono {i = 24 + (n / 8388608 - 125)} {j = 31} (omega arith)) (lit≤ tt))
      go (no i) =
          let e : n / 8388608 - 125 ≡ 8 = omega arith in
          let d : n % 8388608 + 8388608 ≤ 16646144 = omega arith in
          subst (λ s. (n % 8388608 + 8388608) * 2 ^ s ≤ 4261412864) (sym e) (mul-le-mul_right 256 d)

  pub shifted-le : parts % 2 ^ 32 ≤ 4261412864
  shifted-le = rw shifted parts-le

  -- So the limit changes nothing.
  pub limited-mid : limited (of_bits binary32 n) ≡ rounded parts 33554432
  limited-mid =
      let x = n / 8388608 in
      let t = n % 8388608 in
      ap limited (fields-of n (omega arith))
      ∙ limited-val x t (omega arith)
      ∙ ap (min 127) (rounded-same (val x t) (2 ^ 149) parts 33554432 (pow_pos 149) (pow_pos 25) (val-mid x t (omega arith)))
      ∙ within parts parts-le
    where
      within : (w : ℕ) → w ≤ 4261412864 → min 127 (rounded w 33554432) ≡ rounded w 33554432
      within w l = let e = rounded-sum w in omega arith

-- A pattern limited to these two goes where it went.
pub limited-within : (n : ℕ) → n ≤ 2139095040 → limited (of_bits binary32 (min 0x42fe0000 (max 0x3e800000 n))) ≡ limited (of_bits binary32 n)
limited-within n h = go (dec_lt n 0x3e800000) (dec_lt n 0x42fe0000)
  where
    go : Dec (n < 0x3e800000) → Dec (n < 0x42fe0000) → limited (of_bits binary32 (min 0x42fe0000 (max 0x3e800000 n))) ≡ limited (of_bits binary32 n)
    go (yes l) _ = limited-low _ (omega arith) (omega arith) ∙ sym (limited-low n h (omega arith))
    go (no l) (yes k) = let e : min 0x42fe0000 (max 0x3e800000 n) ≡ n = omega arith in ap (λ x. limited (of_bits binary32 x)) e
    go (no l) (no k) = limited-high _ (omega arith) (omega arith) ∙ sym (limited-high n h (omega arith))

-- ---- a pattern with its sign taken off

twice-mod : (b : ℕ) → b % 2147483648 % 2147483648 ≡ b % 2147483648
twice-mod b = omega arith

mod-mod : (b : ℕ) → b % 2147483648 % 8388608 ≡ b % 8388608
mod-mod b = omega arith

odd-limited : (d : ℕ) (s s' : Bool) (q j l : ℕ) → limited (odd d s q j l) ≡ limited (odd d s' q j l)
unfolding odd
odd-limited d s s' zero j l = refl
odd-limited d s s' (suc q) j l = refl

fields-limited : (s s' : Bool) (x t : ℕ) → limited (of_fields binary32 s x t) ≡ limited (of_fields binary32 s' x t)
unfolding of_fields
fields-limited s s' zero t = odd-limited 24 s s' t 0 149
fields-limited s s' (suc x) t = go (eqb (suc x) 255) (eqb t 0)
  where
    go : (a b : Bool) → limited (cond a (cond b (inf s) nan) (odd 24 s (8388608 + t) x 149)) ≡ limited (cond a (cond b (inf s') nan) (odd 24 s' (8388608 + t) x 149))
    go true true = refl
    go true false = refl
    go false b = odd-limited 24 s s' (8388608 + t) x 149

fields-negative : (s : Bool) (x t : ℕ) → T (not (is_nan (of_fields binary32 s x t))) → is_negative (of_fields binary32 s x t) ≡ s
unfolding of_fields is_nan
fields-negative s zero t n = odd-negative 24 s t 0 149
fields-negative s (suc x) t n = go (eqb (suc x) 255) (eqb t 0) n
  where
    go : (a b : Bool) → T (not (is_nan (cond a (cond b (inf s) nan) (odd 24 s (8388608 + t) x 149)))) → is_negative (cond a (cond b (inf s) nan) (odd 24 s (8388608 + t) x 149)) ≡ s
    go true true n = refl
    go true false n = absurd n
    go false b n = odd-negative 24 s (8388608 + t) x 149

-- What the pattern of a number says of it.
module _ (p : Float) (held : T (fits binary32 p)) where
  pub limited-bits : limited (of_bits binary32 (to_bits binary32 p % 2147483648)) ≡ limited p
  limited-bits =
      let b = to_bits binary32 p in
      ap limited (of_bits_is (b % 2147483648))
      ∙ ap (λ x. limited (of_fields binary32 (leb 2147483648 (b % 2147483648)) (x / 8388608) (b % 2147483648 % 8388608))) (twice-mod b)
      ∙ ap (λ x. limited (of_fields binary32 (leb 2147483648 (b % 2147483648)) (b % 2147483648 / 8388608) x)) (mod-mod b)
      ∙ fields-limited (leb 2147483648 (b % 2147483648)) (leb 2147483648 b) (b % 2147483648 / 8388608) (b % 8388608)
      ∙ ap limited (sym (of_bits_is b) ∙ of_bits-to_bits binary32 p held)

  pub pattern-le : T (not (is_nan p)) → to_bits binary32 p % 2147483648 ≤ 2139095040
  pattern-le n =
      let b = to_bits binary32 p in
      nltb→le 2139095040 (b % 2147483648)
      (subst (λ v. T (not v)) (ap is_nan (sym (of_bits-to_bits binary32 p held)) ∙ sym (nan_bits_is binary32 b) ∙ nan_bits_above binary32 b) n)

  pub negative-bits : T (not (is_nan p)) → is_negative p ≡ leb 2147483648 (to_bits binary32 p)
  negative-bits n =
      let b = to_bits binary32 p in
      let e : p ≡ of_fields binary32 (leb 2147483648 b) (b % 2147483648 / 8388608) (b % 8388608) = sym (of_bits-to_bits binary32 p held) ∙ of_bits_is b in
      ap is_negative e
      ∙ fields-negative (leb 2147483648 b) (b % 2147483648 / 8388608) (b % 8388608) (subst (λ v. T (not (is_nan v))) e n)
