-- Laws of bits and of sums modulo 2. Assumes nothing.
use mathlib.Core.Path.{◌≡◌, refl, sym, ap, ap₂, ◌∙◌}
use mathlib.Core.Bool.{Bool, true, false, not, ◌&&◌, ◌||◌, and-true, and-false, and-eq-true_iff, false≢true}
use Prim.Native.Nat.{ℕ, zero, suc, ◌+◌, ◌*◌, ◌<◌}
use native.Mathlib.Nat.{suc-add, zero-add, zero-mul, suc-mul, mul-zero, mul-suc, add_comm}
use native.Mathlib.Omega.{arith}
use lib.Dec.{eqb, eqb-zero-suc, eqb-suc-zero, eqb-suc-suc}
use Rattle.base.specs.Bit.{◌⊕◌, parity, every}

pub ⊕-assoc : (a b c : Bool) → a ⊕ b ⊕ c ≡ a ⊕ (b ⊕ c)
⊕-assoc false b c = refl
⊕-assoc true false c = refl
⊕-assoc true true false = refl
⊕-assoc true true true = refl

pub ⊕-comm : (a b : Bool) → a ⊕ b ≡ b ⊕ a
⊕-comm false false = refl
⊕-comm false true = refl
⊕-comm true false = refl
⊕-comm true true = refl

pub ⊕-false : (a : Bool) → a ⊕ false ≡ a
⊕-false a = ⊕-comm a false

pub ⊕-swap : (a b c d : Bool) → a ⊕ b ⊕ (c ⊕ d) ≡ a ⊕ c ⊕ (b ⊕ d)
⊕-swap a b c d =
    ⊕-assoc a b (c ⊕ d)
    ∙ ap (λ x. a ⊕ x) (sym (⊕-assoc b c d) ∙ ap (λ x. x ⊕ d) (⊕-comm b c) ∙ ⊕-assoc c b d)
    ∙ sym (⊕-assoc a c (b ⊕ d))

pub ⊕-and : (a b c : Bool) → (a ⊕ b) && c ≡ (a && c) ⊕ (b && c)
⊕-and false b c = refl
⊕-and true false false = refl
⊕-and true false true = refl
⊕-and true true false = refl
⊕-and true true true = refl

pub and-⊕ : (a b c : Bool) → a && (b ⊕ c) ≡ (a && b) ⊕ (a && c)
and-⊕ false b c = refl
and-⊕ true b c = refl

-- Two bits whose sum is 0 are the same.
pub ⊕-same : (a b : Bool) → not (a ⊕ b) ≡ true → a ≡ b
⊕-same true true t = refl
⊕-same true false t = absurd (false≢true t)
⊕-same false true t = absurd (false≢true t)
⊕-same false false t = refl

pub ⊕-self : (a : Bool) → not (a ⊕ a) ≡ true
⊕-self true = refl
⊕-self false = refl

-- Where neither of two tests holds, each fails.
pub or-eq-false : (a b : Bool) → (a || b) ≡ false → (a ≡ false) × (b ≡ false)
or-eq-false true b e = absurd (false≢true (sym e))
or-eq-false false b e = (refl, e)

pub parity-cong : (n : ℕ) {f g : ℕ → Bool} → ((i : ℕ) → i < n → f i ≡ g i) → parity n f ≡ parity n g
unfolding parity
parity-cong zero h = refl
parity-cong (suc n) h = ap₂ ◌⊕◌ (h zero (omega arith)) (parity-cong n (λ i l. h (suc i) (omega arith)))

pub parity-append : (k l : ℕ) (f : ℕ → Bool) → parity (k + l) f ≡ parity k f ⊕ parity l (λ i. f (k + i))
unfolding parity
parity-append zero l f = simp zero-add
parity-append (suc k) l f =
    simp suc-add (ap (λ b. f zero ⊕ b) (parity-append k l (λ i. f (suc i))) ∙ sym (⊕-assoc (f zero) (parity k (λ i. f (suc i))) _))

-- One index more.
pub parity-last : (n : ℕ) (f : ℕ → Bool) → parity (suc n) f ≡ parity n f ⊕ f n
unfolding parity
parity-last zero f = ⊕-false (f zero)
parity-last (suc n) f = ap (λ b. f zero ⊕ b) (parity-last n (λ i. f (suc i))) ∙ sym (⊕-assoc (f zero) (parity n (λ i. f (suc i))) _)

-- k blocks of w.
pub parity-blocks : (k w : ℕ) (f : ℕ → Bool) → parity (k * w) f ≡ parity k (λ j. parity w (λ t. f (w * j + t)))
unfolding parity
parity-blocks zero w f = rw zero-mul
parity-blocks (suc k) w f =
    rw (suc-mul, add_comm (k * w) w, parity-append)
    (ap₂ ◌⊕◌
    (parity-cong w (λ t l. ap f (rw (mul-zero, zero-add))))
    (parity-blocks k w (λ i. f (w + i)) ∙ parity-cong k (λ j l. parity-cong w (λ t l. ap f (rw mul-suc (omega arith))))))

pub parity-and : (n : ℕ) (f : ℕ → Bool) (b : Bool) → parity n f && b ≡ parity n (λ i. f i && b)
unfolding parity
parity-and zero f b = refl
parity-and (suc n) f b = ⊕-and (f zero) _ b ∙ ap (λ c. (f zero && b) ⊕ c) (parity-and n (λ i. f (suc i)) b)

pub parity-false : (n : ℕ) → parity n (λ i. false) ≡ false
unfolding parity
parity-false zero = refl
parity-false (suc n) = parity-false n

pub and-parity : (n : ℕ) (b : Bool) (f : ℕ → Bool) → parity n (λ i. b && f i) ≡ b && parity n f
and-parity n false f = parity-false n
and-parity n true f = refl

pub parity-⊕ : (n : ℕ) (f g : ℕ → Bool) → parity n (λ i. f i ⊕ g i) ≡ parity n f ⊕ parity n g
unfolding parity
parity-⊕ zero f g = refl
parity-⊕ (suc n) f g = ap (λ b. f zero ⊕ g zero ⊕ b) (parity-⊕ n (λ i. f (suc i)) (λ i. g (suc i))) ∙ ⊕-swap (f zero) (g zero) _ _

pub parity-swap : (n k : ℕ) (f : ℕ → ℕ → Bool) → parity n (λ i. parity k (λ j. f i j)) ≡ parity k (λ j. parity n (λ i. f i j))
unfolding parity
parity-swap zero k f = sym (parity-false k)
parity-swap (suc n) k f = ap (λ b. parity k (f zero) ⊕ b) (parity-swap n k (λ i. f (suc i))) ∙ sym (parity-⊕ k (f zero) _)

-- Only index j counts.
pub parity-only : (n : ℕ) (x : ℕ → Bool) (j : ℕ) → j < n → parity n (λ k. x k && eqb k j) ≡ x j
unfolding parity
parity-only zero x j l = absurd (omega arith)
parity-only (suc n) x zero l =
    ap₂ ◌⊕◌ (and-true (x zero))
    (parity-cong n (λ i _. ap (λ b. x (suc i) && b) (eqb-suc-zero i) ∙ and-false (x (suc i))) ∙ parity-false n)
    ∙ ⊕-false (x zero)
parity-only (suc n) x (suc j) l =
    ap₂ ◌⊕◌ (ap (λ b. x zero && b) (eqb-zero-suc j) ∙ and-false (x zero))
    (parity-cong n (λ i _. ap (λ b. x (suc i) && b) (eqb-suc-suc i j)) ∙ parity-only n (λ k. x (suc k)) j (omega arith))

-- What a test of all indices shows of each, and back.
pub every-at : (n : ℕ) (f : ℕ → Bool) → every n f ≡ true → (i : ℕ) → i < n → f i ≡ true
unfolding every
every-at zero f t i l = absurd (omega arith)
every-at (suc n) f t zero l = ((and-eq-true_iff (f zero) _).0 t).0
every-at (suc n) f t (suc i) l = every-at n (λ k. f (suc k)) ((and-eq-true_iff (f zero) _).0 t).1 i (omega arith)

-- The computed test that two tables of a × b bits are the same, and what it shows.
unfoldable pub same_table : ℕ → ℕ → (ℕ → ℕ → Bool) → (ℕ → ℕ → Bool) → Bool
same_table a b f g = every a (λ i. every b (λ j. not (f i j ⊕ g i j)))

pub same-table : (a b : ℕ) (f g : ℕ → ℕ → Bool) → same_table a b f g ≡ true → (i j : ℕ) → i < a → j < b → f i j ≡ g i j
unfolding same_table
same-table a b f g t i j li lj = ⊕-same (f i j) (g i j) (every-at b (λ j. not (f i j ⊕ g i j)) (every-at a (λ i. every b (λ j. not (f i j ⊕ g i j))) t i li) j lj)
