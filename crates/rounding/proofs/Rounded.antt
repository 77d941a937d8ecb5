-- Laws of the rounding: how it is picked, how near it is, where a half goes, that equal fractions agree, the limit and zero.
-- Assumes nothing.
use mathlib.Core.Path.{◌≡◌, refl, sym, ap, ◌∙◌, subst}
use mathlib.Core.Bool.{Bool, not}
use Prim.Native.Nat.{ℕ, zero, suc, ◌+◌, ◌-◌, ◌*◌, ◌/◌, ◌%◌, min, ◌≤◌, ◌<◌, compare, Ordering}
use native.Mathlib.Nat.{le_refl, le-suc, le_of_eq, le_of_lt, mul_comm, mul_assoc, mul_left_comm, mul-mul-mul_comm, mul-le-mul_right, mul-div_cancel, add-mul, suc-mul, div-add-mod', div-eq_of_lt, mod-lt, le-div_iff_mul-le}
use native.Mathlib.Omega.{arith}
use lib.Arith.{lt_of_le-ne, digits_div}
use lib.Dec.{T, lit<, is_le, compare_is_eq, eqb, leb→le, nleb→lt, eqb→eq, eqb_refl}
use lib.Ieee.{Float, nan, inf, fin, up, down, odd, nearest}
use lib.Ieee.Exact.{HasValue}
use lib.Ieee.Fits.{down_pos}
use lib.Ieee.Nearest.{closest, div_same}
use Rattle.rounding.specs.Rounding.{rounded, steps, limited, is_negative}

-- ---- how it is picked

-- What `compare` says.
abbrev pub Cmp : Ordering → ℕ → ℕ → Type 0
Cmp Ordering.lt a b = a < b
Cmp Ordering.eq a b = a ≡ b
Cmp Ordering.gt a b = b < a

pub cmp : (a b : ℕ) → Cmp (compare a b) a b
cmp a b = go (compare a b) (leb→le a b) (nleb→lt a b) (eqb→eq a b) (λ e. subst (λ x. T (eqb a x)) e (eqb_refl a))
  where
    go : (o : Ordering) → (T (is_le o) → a ≤ b) → (T (not (is_le o)) → b < a) → (T (compare_is_eq o) → a ≡ b) → (a ≡ b → T (compare_is_eq o)) → Cmp o a b
    go Ordering.lt h k e n = lt_of_le-ne (h tt) n
    go Ordering.eq h k e n = e tt
    go Ordering.gt h k e n = k tt

-- The whole number nearest to a fraction with the whole part q, where a half goes to h, by how its rest lies to a half.
abbrev picked : ℕ → ℕ → Ordering → ℕ
picked q h o = elim o [ Ordering.lt ↦ q | Ordering.eq ↦ h | Ordering.gt ↦ suc q ]

-- That of a / b.
abbrev pick : ℕ → ℕ → ℕ → ℕ
pick a b h = picked (a / b) h (compare (a % b * 2) b)

-- What is shown of each of the three cases holds of it.
pick-by : (P : ℕ → Type 0) (a b h : ℕ)
    → (a % b * 2 < b → P (a / b)) → (a % b * 2 ≡ b → P h) → (b < a % b * 2 → P (suc (a / b))) → P (pick a b h)
pick-by P a b h under half over = go (compare (a % b * 2) b) (cmp (a % b * 2) b)
  where
    go : (o : Ordering) → Cmp o (a % b * 2) b → P (picked (a / b) h o)
    go Ordering.lt k = under k
    go Ordering.eq k = half k
    go Ordering.gt k = over k

-- The rounding sends a half outward,
rounded-pick : (a b : ℕ) → rounded a b ≡ pick a b (suc (a / b))
unfolding rounded
rounded-pick a b = refl

-- and the one that the operations of binary32 use to the even neighbour.
closest-pick : (a b : ℕ) → closest a b ≡ pick a b (a / b + a / b % 2)
closest-pick a b = go (compare (a % b * 2) b)
  where
    go : (o : Ordering) → nearest (a / b) o ≡ picked (a / b) (a / b + a / b % 2) o
    go Ordering.lt = refl
    go Ordering.eq = refl
    go Ordering.gt = refl

-- ---- within a half

-- v lies within a half of a / b.
abbrev pub Half : ℕ → ℕ → ℕ → Type 0
Half v a b = (v * b * 2 ≤ a * 2 + b) × (a * 2 ≤ v * b * 2 + b)

-- Whichever neighbour a half goes to.
pick-half : (a b h : ℕ) → 0 < b → a / b ≤ h → h ≤ suc (a / b) → Half (pick a b h) a b
pick-half a b h B low high =
    let w = div-add-mod' a b in
    let l = mod-lt a B in
    pick-by (λ v. Half v a b) a b h
    (λ k. under (a / b) (a % b) w l k)
    (λ k. half (a / b) (a % b) w k low high)
    (λ k. over (a / b) (a % b) w l k)
  where
    under : (q r : ℕ) → q * b + r ≡ a → r < b → r * 2 < b → Half q a b
    under q r w l k = (omega arith, omega arith)

    half : (q r : ℕ) → q * b + r ≡ a → r * 2 ≡ b → q ≤ h → h ≤ suc q → Half h a b
    half q r w k low high =
        let e : suc q * b ≡ q * b + b = suc-mul q b in
        let m : q * b ≤ h * b = mul-le-mul_right b low in
        let n : h * b ≤ suc q * b = mul-le-mul_right b high in
        (omega arith, omega arith)

    over : (q r : ℕ) → q * b + r ≡ a → r < b → b < r * 2 → Half (suc q) a b
    over q r w l k = let e : suc q * b ≡ q * b + b = suc-mul q b in (omega arith, omega arith)

pub rounded-half : (a b : ℕ) → 0 < b → Half (rounded a b) a b
rounded-half a b B = rw (rounded-pick a b) (pick-half a b (suc (a / b)) B (le-suc (a / b)) (le_refl (suc (a / b))))

pub closest-half : (a b : ℕ) → 0 < b → Half (closest a b) a b
closest-half a b B = rw (closest-pick a b) (pick-half a b (a / b + a / b % 2) B (low (a / b)) (high (a / b)))
  where
    low : (q : ℕ) → q ≤ q + q % 2
    low q = omega arith

    high : (q : ℕ) → q + q % 2 ≤ suc q
    high q = omega arith

-- ---- a half added and the whole part taken

rounded-added : (a b : ℕ) → 0 < b → rounded a b ≡ (a * 2 + b) / (b * 2)
rounded-added a b B =
    let w = div-add-mod' a b in
    let l = mod-lt a B in
    rounded-pick a b
    ∙ pick-by (λ v. v ≡ (a * 2 + b) / (b * 2)) a b (suc (a / b))
    (λ k. under (a / b) (a % b) w l k)
    (λ k. over (a / b) (a % b) w l (le_of_eq (sym k)))
    (λ k. over (a / b) (a % b) w l (le_of_lt k))
  where
    whole : (v r : ℕ) → v * (b * 2) + r ≡ a * 2 + b → r < b * 2 → v ≡ (a * 2 + b) / (b * 2)
    whole v r e l = sym (digits_div v l) ∙ ap (λ x. x / (b * 2)) e

    under : (q r : ℕ) → q * b + r ≡ a → r < b → r * 2 < b → q ≡ (a * 2 + b) / (b * 2)
    under q r w l k = let e : q * (b * 2) ≡ q * b * 2 = sym (mul_assoc q b 2) in whole q (r * 2 + b) (omega arith) (omega arith)

    over : (q r : ℕ) → q * b + r ≡ a → r < b → b ≤ r * 2 → suc q ≡ (a * 2 + b) / (b * 2)
    over q r w l k =
        let e : suc q * (b * 2) ≡ suc q * b * 2 = sym (mul_assoc (suc q) b 2) in
        let f : suc q * b ≡ q * b + b = suc-mul q b in
        whole (suc q) (r * 2 - b) (omega arith) (omega arith)

-- Over 2 ^ 25.
pub rounded-sum : (w : ℕ) → rounded w 33554432 ≡ (w + 16777216) / 33554432
rounded-sum w = let e = rounded-added w 33554432 (lit< tt) in omega arith

-- At q + 1/2 it is q + 1.
pub rounded-outward : (a b q : ℕ) → 0 < b → a * 2 ≡ (q * 2 + 1) * b → rounded a b ≡ q + 1
rounded-outward a b q B h =
    let e : (q * 2 + 1) * b ≡ q * 2 * b + 1 * b = add-mul (q * 2) 1 b in
    let f : (q + 1) * (b * 2) ≡ q * (b * 2) + 1 * (b * 2) = add-mul q 1 (b * 2) in
    let g : q * (b * 2) ≡ q * 2 * b = ap (λ x. q * x) (mul_comm b 2) ∙ sym (mul_assoc q 2 b) in
    let s : a * 2 + b ≡ (q + 1) * (b * 2) = omega arith in
    rounded-added a b B ∙ ap (λ x. x / (b * 2)) s ∙ mul-div_cancel (q + 1) (omega arith)

-- ---- equal fractions agree, the limit, zero

pub rounded-same : (a b c d : ℕ) → 0 < b → 0 < d → a * d ≡ c * b → rounded a b ≡ rounded c d
rounded-same a b c d B D h =
    let x : (a * 2 + b) * (d * 2) ≡ a * 2 * (d * 2) + b * (d * 2) = add-mul (a * 2) b (d * 2) in
    let y : (c * 2 + d) * (b * 2) ≡ c * 2 * (b * 2) + d * (b * 2) = add-mul (c * 2) d (b * 2) in
    let f : a * 2 * (d * 2) ≡ c * 2 * (b * 2) = mul-mul-mul_comm a 2 d 2 ∙ ap (λ z. z * 4) h ∙ sym (mul-mul-mul_comm c 2 b 2) in
    let g : b * (d * 2) ≡ d * (b * 2) = mul_left_comm b d 2 in
    let e : (a * 2 + b) * (d * 2) ≡ (c * 2 + d) * (b * 2) = omega arith in
    rounded-added a b B ∙ div_same (a * 2 + b) (b * 2) (c * 2 + d) (d * 2) (omega arith) (omega arith) e ∙ sym (rounded-added c d D)

-- A fraction that is at least a whole number stays at least that.
pub rounded-ge : (n a b : ℕ) → 0 < b → n * b ≤ a → n ≤ rounded a b
rounded-ge n a b B h =
    let e : n * (b * 2) ≡ n * b * 2 = sym (mul_assoc n b 2) in
    let l : n * (b * 2) ≤ a * 2 + b = omega arith in
    let p : 0 < b * 2 = omega arith in
    rw (rounded-added a b B) ((le-div_iff_mul-le p).1 l)

pub at-limit : (a b : ℕ) → 0 < b → 127 * b ≤ a → min 127 (rounded a b) ≡ 127
at-limit a b B h = go (rounded a b) (rounded-ge 127 a b B h)
  where
    go : (n : ℕ) → 127 ≤ n → min 127 n ≡ 127
    go n k = omega arith

pub to-zero : (a b : ℕ) → a * 2 < b → rounded a b ≡ 0
to-zero a b h =
    let B : 0 < b = omega arith in
    let l : a * 2 + b < b * 2 = omega arith in
    rounded-added a b B ∙ div-eq_of_lt l

-- ---- of a number

-- The sign of what a whole number of units stands for.
pub odd-negative : (d : ℕ) (s : Bool) (q j l : ℕ) → is_negative (odd d s q j l) ≡ s
unfolding odd
odd-negative d s zero j l = refl
odd-negative d s (suc q) j l = refl

-- Its limited size, by any fraction that is its size.
pub limited-of : (x : Float) (s : Bool) (a c : ℕ) → 0 < c → HasValue x s a c → limited x ≡ min 127 (rounded a c)
limited-of nan s a c C h = absurd h
limited-of (inf t) s a c C h = absurd h
limited-of (fin t m e) s a c C h = ap (min 127) (rounded-same (m * up e) (down e) a c (down_pos e) C h.1)

pub limited-le : (x : Float) → limited x ≤ 127
limited-le x = go (steps x)
  where
    go : (n : ℕ) → min 127 n ≤ 127
    go n = omega arith
