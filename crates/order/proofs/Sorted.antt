-- A list that falls by a strict order is fixed by what stands in it. Assumes nothing.
use mathlib.Core.Path.{◌≡◌, refl, sym, ap₂, ◌∙◌, subst}
use mathlib.Core.List.Memᴰ
use mathlib.Core.List.{List, [], ◌∷◌, Memᴰ}
use mathlib.Core.Logic.{⊎_elim}
use Prim.Native.Nat.{ℕ, zero, suc, ◌<◌}
use native.Mathlib.Omega.{arith}
use lib.ListN.{length, get_or}

-- What an index below the length names stands in the list,
pub in-at : (l : List ℕ) (i : ℕ) → i < length l → Memᴰ (get_or l i 0) l
in-at [] i h = absurd (omega arith)
in-at (x ∷ l) zero h = Memᴰ.head refl
in-at (x ∷ l) (suc i) h = Memᴰ.tail (in-at l i (omega arith))

-- and what stands in it has an index.
pub index_of : (l : List ℕ) (x : ℕ) → Memᴰ x l → (i : ℕ) × (i < length l) × (get_or l i 0 ≡ x)
index_of [] x m = absurd (Memᴰ.not-nil m)
index_of (y ∷ l) x m =
    ⊎_elim
    (λ e. (zero, omega arith, sym e))
    (λ n. let r = index_of l x n in (suc r.0, omega arith, r.2))
    (Memᴰ.cases_cons m)

-- Each two neighbours of a list are in the order R.
abbrev pub Neighbours : (ℕ → ℕ → Type 0) → List ℕ → Type 0
Neighbours R l = (i : ℕ) → suc i < length l → R (get_or l i 0) (get_or l (suc i) 0)

module _ (R : ℕ → ℕ → Type 0) (trans : (x y z : ℕ) → R x y → R y z → R x z) (irr : (x : ℕ) → R x x → ⊥) where
  -- The first comes before all that stand after it,
  before-all : (a : ℕ) (l : List ℕ) → Neighbours R (a ∷ l) → (x : ℕ) → Memᴰ x l → R a x
  before-all a [] s x m = absurd (Memᴰ.not-nil m)
  before-all a (b ∷ l) s x m =
      let first : R a b = s 0 (omega arith) in
      ⊎_elim
      (λ e. subst (R a) (sym e) first)
      (λ n. trans a b x first (before-all b l (λ i h. s (suc i) (omega arith)) x n))
      (Memᴰ.cases_cons m)

  -- and so does not stand there again.
  not_first : (a b : ℕ) (l m : List ℕ) → Neighbours R (a ∷ l) → b ≡ a → (x : ℕ) → Memᴰ x l → Memᴰ x (b ∷ m) → Memᴰ x m
  not_first a b l m s e x k n =
      ⊎_elim (λ q. absurd (irr a (subst (R a) (q ∙ e) (before-all a l s x k)))) (λ r. r) (Memᴰ.cases_cons n)

  same_first : (a b : ℕ) (l m : List ℕ) → Neighbours R (a ∷ l) → Neighbours R (b ∷ m) → Memᴰ a (b ∷ m) → Memᴰ b (a ∷ l) → a ≡ b
  same_first a b l m s t p q =
      ⊎_elim
      (λ e. e)
      (λ n. ⊎_elim
      (λ e. sym e)
      (λ k. absurd (irr a (trans a b a (before-all a l s b k) (before-all b m t a n))))
      (Memᴰ.cases_cons q))
      (Memᴰ.cases_cons p)

  -- Two such lists with the same elements are the same.
  pub sorted-only : (l m : List ℕ) → Neighbours R l → Neighbours R m
      → ((x : ℕ) → Memᴰ x l → Memᴰ x m) → ((x : ℕ) → Memᴰ x m → Memᴰ x l) → l ≡ m
  sorted-only [] [] s t f g = refl
  sorted-only [] (b ∷ m) s t f g = absurd (Memᴰ.not-nil (g b (Memᴰ.head refl)))
  sorted-only (a ∷ l) [] s t f g = absurd (Memᴰ.not-nil (f a (Memᴰ.head refl)))
  sorted-only (a ∷ l) (b ∷ m) s t f g =
      let e = same_first a b l m s t (f a (Memᴰ.head refl)) (g b (Memᴰ.head refl)) in
      ap₂ ◌∷◌ e
      (sorted-only l m (λ i h. s (suc i) (omega arith)) (λ i h. t (suc i) (omega arith))
      (λ x k. not_first a b l m s (sym e) x k (f x (Memᴰ.tail k)))
      (λ x k. not_first b a m l t e x k (g x (Memᴰ.tail k))))
