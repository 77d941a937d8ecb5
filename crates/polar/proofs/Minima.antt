-- Laws of the least value over lists of bits, of sums, and of the digits of a place. Assumes nothing.
use mathlib.Core.Path.{◌≡◌, refl, ap, ap₂, ◌∙◌}
use mathlib.Core.Bool.{Bool, true, false}
use mathlib.Core.List.{List, [], ◌∷◌, ◌++◌}
use Prim.Native.Nat.{ℕ, zero, suc, ◌+◌, ◌-◌, ◌*◌, ◌/◌, ◌%◌, ◌≤◌, ◌<◌, min}
use native.Mathlib.Nat.{suc-add, zero-add, le_refl, zero-mul, suc-mul, mul-zero, mul-suc, add_comm, add-zero, mul-add-div, mul-add-mod_self_left, div-eq_of_lt, mod-eq_of_lt}
use native.Mathlib.Decide.{dec_le}
use native.Mathlib.Omega.{arith}
use lib.ListN.{length}
use Rattle.polar.specs.Code.{minimum, sum}

-- None of the lists has less.
pub minimum-le : (t : List Bool) (f : List Bool → ℕ) → minimum (length t) f ≤ f t
unfolding minimum
minimum-le [] f = le_refl _
minimum-le (false ∷ t) f = omega (arith, minimum-le t (λ s. f (false ∷ s)))
minimum-le (true ∷ t) f = omega (arith, minimum-le t (λ s. f (true ∷ s)))

-- One of the lists has it.
abbrev pub Attained : ℕ → (List Bool → ℕ) → Type 0
Attained k f = (t : List Bool) × (length t ≡ k) × (f t ≡ minimum k f)

pub minimum-at : (k : ℕ) (f : List Bool → ℕ) → Attained k f
unfolding minimum
minimum-at zero f = ([], refl, refl)
minimum-at (suc k) f = pick (minimum-at k (λ t. f (false ∷ t))) (minimum-at k (λ t. f (true ∷ t))) (dec_le _ _)
  where
    pick : Attained k (λ t. f (false ∷ t)) → Attained k (λ t. f (true ∷ t))
        → Dec (minimum k (λ t. f (false ∷ t)) ≤ minimum k (λ t. f (true ∷ t))) → Attained (suc k) f
    pick a b (yes l) = (false ∷ a.0, ap suc a.1, omega (arith, a.2))
    pick a b (no l) = (true ∷ b.0, ap suc b.1, omega (arith, b.2))

-- Only the lists of the length count.
pub minimum-cong : (k : ℕ) {f g : List Bool → ℕ} → ((t : List Bool) → length t ≡ k → f t ≡ g t) → minimum k f ≡ minimum k g
unfolding minimum
minimum-cong zero h = h [] refl
minimum-cong (suc k) h = ap₂ min (minimum-cong k (λ t e. h (false ∷ t) (ap suc e))) (minimum-cong k (λ t e. h (true ∷ t) (ap suc e)))

-- Over the first k bits, and then over the l others.
pub minimum-append : (k l : ℕ) (f : List Bool → ℕ) → minimum (k + l) f ≡ minimum k (λ s. minimum l (λ t. f (s ++ t)))
unfolding minimum
minimum-append zero l f = rw zero-add
minimum-append (suc k) l f = rw suc-add (ap₂ min (minimum-append k l (λ t. f (false ∷ t))) (minimum-append k l (λ t. f (true ∷ t))))

pub sum-cong : (n : ℕ) {f g : ℕ → ℕ} → ((i : ℕ) → i < n → f i ≡ g i) → sum n f ≡ sum n g
unfolding sum
sum-cong zero h = refl
sum-cong (suc n) h = ap₂ ◌+◌ (h zero (omega arith)) (sum-cong n (λ i l. h (suc i) (omega arith)))

pub sum-le : (n : ℕ) {f g : ℕ → ℕ} → ((i : ℕ) → f i ≤ g i) → sum n f ≤ sum n g
unfolding sum
sum-le zero h = le_refl _
sum-le (suc n) h = omega (arith, h zero, sum-le n (λ i. h (suc i)))

pub sum-zero : (n : ℕ) → sum n (λ i. 0) ≡ 0
unfolding sum
sum-zero zero = refl
sum-zero (suc n) = rw zero-add (sum-zero n)

pub sum-const : (n c : ℕ) → sum n (λ i. c) ≡ n * c
unfolding sum
sum-const zero c = rw zero-mul
sum-const (suc n) c = omega (arith, sum-const n c, suc-mul n c)

pub sum-append : (k l : ℕ) (f : ℕ → ℕ) → sum (k + l) f ≡ sum k f + sum l (λ i. f (k + i))
unfolding sum
sum-append zero l f = simp zero-add
sum-append (suc k) l f = simp suc-add (omega (arith, sum-append k l (λ i. f (suc i))))

-- A sum of nothing,
pub sum-none : (f : ℕ → ℕ) → sum 0 f ≡ 0
unfolding sum
sum-none f = refl

-- and one with its last part.
pub sum-next : (n : ℕ) (f : ℕ → ℕ) → sum (n + 1) f ≡ sum n f + f n
unfolding sum
sum-next n f = rw (sum-append n 1 f, add-zero n, add-zero (f n))

-- A part of a sum is no more than the sum.
pub sum-part : (n k : ℕ) (f : ℕ → ℕ) → n ≤ k → sum n f ≤ sum k f
sum-part n k f l =
    let e : k ≡ n + (k - n) = omega arith in
    omega (arith, ap (λ m. sum m f) e, sum-append n (k - n) f)

-- k blocks of w.
pub sum-blocks : (k w : ℕ) (f : ℕ → ℕ) → sum (k * w) f ≡ sum k (λ j. sum w (λ t. f (w * j + t)))
unfolding sum
sum-blocks zero w f = rw zero-mul
sum-blocks (suc k) w f =
    rw (suc-mul, add_comm (k * w) w, sum-append)
    (ap₂ ◌+◌
    (sum-cong w (λ t l. ap f (rw (mul-zero, zero-add))))
    (sum-blocks k w (λ i. f (w + i)) ∙ sum-cong k (λ j l. sum-cong w (λ t l. ap f (rw mul-suc (omega arith))))))

-- The digits of a place.
pub quot : (w j t : ℕ) → t < w → (w * j + t) / w ≡ j
quot w j t l = let pos : 0 < w = omega arith in rw (mul-add-div pos, div-eq_of_lt l, add-zero)

pub rest : (w j t : ℕ) → t < w → (w * j + t) % w ≡ t
rest w j t l = rw (mul-add-mod_self_left, mod-eq_of_lt l)

-- A constant paid by all.
pub minimum-shift : (c k : ℕ) (f : List Bool → ℕ) → minimum k (λ t. c + f t) ≡ c + minimum k f
unfolding minimum
minimum-shift c zero f = refl
minimum-shift c (suc k) f = omega (arith, minimum-shift c k (λ t. f (false ∷ t)), minimum-shift c k (λ t. f (true ∷ t)))

pub sum-add : (n : ℕ) (f g : ℕ → ℕ) → sum n (λ i. f i + g i) ≡ sum n f + sum n g
unfolding sum
sum-add zero f g = refl
sum-add (suc n) f g = omega (arith, sum-add n (λ i. f (suc i)) (λ i. g (suc i)))
