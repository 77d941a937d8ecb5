-- The nearest whole number to a product rounded in binary32 lies within 1/2 + 1/131072 of the exact product, both limited to
-- -127 to 127. Assumes nothing.
use mathlib.Core.Path.{◌≡◌, refl, sym, ap, ◌∙◌, subst}
use Prim.Native.Nat.{ℕ, ◌+◌, ◌*◌, ◌/◌, ◌^◌, min, ◌≤◌, ◌<◌}
use native.Mathlib.Nat.{le_trans, le_of_eq, lt_of_lt_of_le, mul_comm, mul_assoc, mul_left_comm, mul_right_comm, mul-le-mul_left, mul-le-mul_right, mul-lt-mul_of_pos_right, le_of_mul-le-mul_right, mul-pos, add-mul, div-lt_iff_lt-mul}
use native.Mathlib.Decide.{dec_lt}
use native.Mathlib.Omega.{arith}
use mathlib.Core.Bool.{Bool, true, false}
use lib.Dec.{T, lit≤}
use lib.Pow.{pow_pos, pow_mono}
use lib.IntN.{pos, nat_abs, ◌-ℤ◌, ◌*ℤ◌}
use lib.Ieee.{Float, nan, inf, fin, up, down, unlike, binary32, size, mul}
use lib.Ieee.Digits.{size-le}
use lib.Ieee.Fits.{down_pos}
use lib.Ieee.Nearest.{closest}
use lib.Ieee.Order.{drop}
use lib.Ieee.Positive.{num, den, positive, positive-finite, den_pos}
use lib.Ieee.Scale.{grid, finite}
use Rattle.rounding.specs.Rounding.{rounded, limited, is_negative, nearest_limited, signed}
use Rattle.rounding.specs.Bound.{product_den, Near, NearProduct}
use Rattle.rounding.proofs.Rounded.{Half, rounded-half, closest-half, at-limit}
use Rattle.rounding.proofs.Nearest.{between, own}
use Rattle.rounding.proofs.Products.{round-limited, grid-large, product-negative}

-- ---- a fraction below 128 moves by 2 ^ 131 units of 2 ^ -149 at most: by 2 ^ -18

grid-near : (a c : ℕ) → 0 < c → a < 128 * c
    → (grid binary32 a c * c * 2 ≤ a * 2 ^ 149 * 2 + c * 2 ^ 132) × (a * 2 ^ 149 * 2 ≤ grid binary32 a c * c * 2 + c * 2 ^ 132)
grid-near a c C h =
    let n = a * 2 ^ 149 in
    let N = n / c in
    let k = drop 24 n c in
    let u = c * 2 ^ k in
    let l : N < 2 ^ 156 = (div-lt_iff_lt-mul C).1 (lt_of_lt_of_le (mul-lt-mul_of_pos_right h (pow_pos 149)) (le_of_eq (mul_right_comm 128 c (2 ^ 149)))) in
    let z : size N ≤ 156 = size-le N 156 l in
    let k-le : k ≤ 132 = omega arith in
    let w : u ≤ c * 2 ^ 132 = mul-le-mul_left c (pow_mono {i = k} {j = 132} k-le) in
    let e : closest n u * u ≡ grid binary32 a c * c = ap (λ x. closest n u * x) (mul_comm c (2 ^ k)) ∙ sym (mul_assoc (closest n u) (2 ^ k) c) in
    let t : Half (closest n u) n u = closest-half n u (mul-pos C (pow_pos k)) in
    go (closest n u * u) (grid binary32 a c * c) n u (c * 2 ^ 132) e w t.0 t.1
  where
    go : (x g n u b : ℕ) → x ≡ g → u ≤ b → x * 2 ≤ n * 2 + u → n * 2 ≤ x * 2 + u → (g * 2 ≤ n * 2 + b) × (n * 2 ≤ g * 2 + b)
    go x g n u b e w s t = (omega arith, omega arith)

-- ---- the whole number N is nearest to g / U, and g / U is near to A / C

-- N lies within 1/2 + 1/262144 of A / C.
abbrev Close : ℕ → ℕ → ℕ → Type 0
Close N A C = (N * C * 262144 ≤ A * 262144 + C * 131073) × (A * 262144 ≤ N * C * 262144 + C * 131073)

moved : (N E C k : ℕ) → N * (E * k) * 2 * C ≡ N * C * E * k * 2
moved N E C k = simp (mul_assoc, mul_comm, mul_left_comm)

joined : (E N g A C : ℕ) → 0 < E → Half N g (E * 131072) → g * C * 2 ≤ A * (E * 131072) * 2 + C * E → A * (E * 131072) * 2 ≤ g * C * 2 + C * E
    → Close N A C
joined E N g A C p h s t =
    let U = E * 131072 in
    let c1 : N * U * 2 * C ≤ (g * 2 + U) * C = mul-le-mul_right C h.0 in
    let c2 : g * 2 * C ≤ (N * U * 2 + U) * C = mul-le-mul_right C h.1 in
    let e1 : N * U * 2 * C ≡ N * C * E * 131072 * 2 = moved N E C 131072 in
    let e2 : (g * 2 + U) * C ≡ g * 2 * C + U * C = add-mul (g * 2) U C in
    let e3 : g * 2 * C ≡ g * C * 2 = mul_right_comm g 2 C in
    let e4 : U * C ≡ C * E * 131072 = mul_comm U C ∙ sym (mul_assoc C E 131072) in
    let e5 : A * U ≡ A * E * 131072 = sym (mul_assoc A E 131072) in
    let e6 : (N * U * 2 + U) * C ≡ N * U * 2 * C + U * C = add-mul (N * U * 2) U C in
    let e7 : N * C * 262144 * E ≡ N * C * E * 262144 = mul_right_comm (N * C) 262144 E in
    let e8 : (A * 262144 + C * 131073) * E ≡ A * 262144 * E + C * 131073 * E = add-mul (A * 262144) (C * 131073) E in
    let e9 : A * 262144 * E ≡ A * E * 262144 = mul_right_comm A 262144 E in
    let e10 : C * 131073 * E ≡ C * E * 131073 = mul_right_comm C 131073 E in
    let e11 : (N * C * 262144 + C * 131073) * E ≡ N * C * 262144 * E + C * 131073 * E = add-mul (N * C * 262144) (C * 131073) E in
    let l : N * C * 262144 * E ≤ (A * 262144 + C * 131073) * E = omega arith in
    let r : A * 262144 * E ≤ (N * C * 262144 + C * 131073) * E = omega arith in
    (le_of_mul-le-mul_right l p, le_of_mul-le-mul_right r p)

-- ---- both limited to 127

-- v lies within 1/2 + 1/131072 of the size A / C limited to 127.
abbrev Within : ℕ → ℕ → ℕ → Type 0
Within v A C = Near (between (v * C) (min (127 * C) A)) C

limits : (N C A : ℕ) → Close N A C → Within (min 127 N) A C
limits N C A (s, t) = go (dec_lt 127 N)
  where
    go : Dec (127 < N) → Within (min 127 N) A C
    go (yes h) =
        let m : min 127 N ≡ 127 = omega arith in
        let g : 128 ≤ N = omega arith in
        let f : 128 * C ≤ N * C = mul-le-mul_right C g in
        subst (λ v. Within v A C) (sym m) (omega arith)
    go (no h) =
        let m : min 127 N ≡ N = omega arith in
        let g : N ≤ 127 = omega arith in
        let f : N * C ≤ 127 * C = mul-le-mul_right C g in
        subst (λ v. Within v A C) (sym m) (omega arith)

within : (a c : ℕ) → 0 < c → Within (min 127 (rounded (grid binary32 a c) (2 ^ 149))) a c
within a c C = go (dec_lt a (128 * c))
  where
    large : (v : ℕ) → v ≡ 127 → 128 * c ≤ a → Within v a c
    large v e h = subst (λ v. Within v a c) (sym e) (omega arith)

    go : Dec (a < 128 * c) → Within (min 127 (rounded (grid binary32 a c) (2 ^ 149))) a c
    go (no l) =
        let h : 128 * c ≤ a = omega arith in
        large (min 127 (rounded (grid binary32 a c) (2 ^ 149)))
        (at-limit (grid binary32 a c) (2 ^ 149) (pow_pos 149) (le_trans (lit≤ tt) (grid-large a c C h))) h
    go (yes h) =
        let g = grid binary32 a c in
        let n = grid-near a c C h in
        limits (rounded g (2 ^ 149)) c a
        (joined (2 ^ 132) (rounded g (2 ^ 149)) g a c (pow_pos 132) (rounded-half g (2 ^ 149) (pow_pos 149)) n.0 n.1)

-- ---- the product of an amplitude and a scale

product-within : (x y : Float) → T (finite x) → T (finite y) → Within (limited (mul binary32 x y)) (num x * num y) (den x * den y)
unfolding mul
product-within nan y h k = absurd h
product-within (inf s) y h k = absurd h
product-within (fin s m e) nan h k = absurd k
product-within (fin s m e) (inf t) h k = absurd k
product-within (fin s m e) (fin t n d) h k =
    let a = m * up e * (n * up d) in
    let c = down e * down d in
    subst (λ v. Within v a c) (sym (round-limited (unlike s t) a c)) (within a c (mul-pos (down_pos e) (down_pos d)))

-- A scale above zero keeps the sign.
sign_kept : (s : Bool) (y : Float) → T (positive y) → unlike s (is_negative y) ≡ s
sign_kept s nan p = absurd p
sign_kept s (inf t) p = absurd p
sign_kept s (fin true m e) p = absurd p
sign_kept true (fin false m e) p = refl
sign_kept false (fin false m e) p = refl

-- The theorem: for every scale above zero and every finite amplitude.
pub product-near : (scale x : Float) → T (positive scale) → T (finite x) → NearProduct scale x (nearest_limited (mul binary32 x scale))
unfolding NearProduct nearest_limited
product-near scale x p h =
    let k = positive-finite scale p in
    let c = product_den scale x in
    let m = min (127 * c) (num x * num scale) in
    let v = limited (mul binary32 x scale) in
    let s = is_negative x in
    subst (λ t. Near (nat_abs (signed t v *ℤ pos c -ℤ signed s m)) c) (sym (product-negative x scale h k ∙ sign_kept s scale p))
    (subst (λ z. Near z c) (sym (own s m c v (mul-pos (den_pos x) (den_pos scale)))) (product-within x scale h k))
