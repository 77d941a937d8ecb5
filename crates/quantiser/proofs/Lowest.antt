-- Laws of the lowest index of which a test holds. Assumes nothing.
use mathlib.Core.Path.{◌≡◌, refl, sym, ap, ap₂, ◌∙◌}
use mathlib.Core.Bool.{Bool, true, false, false≢true}
use Prim.Native.Nat.{ℕ, zero, suc, ◌+◌, ◌-◌, ◌*◌, ◌≤◌, ◌<◌}
use native.Mathlib.Nat.{mul-add}
use native.Mathlib.Decide.{dec_lt}
use native.Mathlib.Omega.{arith}
use Rattle.quantiser.specs.Marks.{lowest}

-- The same with the test's first answer given.
abbrev next : ℕ → (ℕ → Bool) → Bool → ℕ
next n f b = elim b [ true ↦ 0 | false ↦ suc (lowest n (λ i. f (suc i))) ]

pub lowest-le : (n : ℕ) (f : ℕ → Bool) → lowest n f ≤ n
unfolding lowest
lowest-le zero f = omega arith
lowest-le (suc n) f = go (f zero) (lowest-le n (λ i. f (suc i)))
  where
    go : (b : Bool) → lowest n (λ i. f (suc i)) ≤ n → next n f b ≤ suc n
    go true l = omega arith
    go false l = omega arith

-- The test holds of it,
pub lowest-found : (n : ℕ) (f : ℕ → Bool) → lowest n f < n → f (lowest n f) ≡ true
unfolding lowest
lowest-found zero f l = absurd (omega arith)
lowest-found (suc n) f l = go (f zero) refl l (lowest-found n (λ i. f (suc i)))
  where
    go : (b : Bool) → f zero ≡ b → next n f b < suc n → (lowest n (λ i. f (suc i)) < n → f (suc (lowest n (λ i. f (suc i)))) ≡ true) → f (next n f b) ≡ true
    go true e l h = e
    go false e l h = h (omega arith)

-- and of none before it.
pub lowest-before : (n : ℕ) (f : ℕ → Bool) (i : ℕ) → i < lowest n f → f i ≡ false
unfolding lowest
lowest-before zero f i l = absurd (omega arith)
lowest-before (suc n) f i l = go i (f zero) refl l (lowest-before n (λ j. f (suc j)))
  where
    go : (i : ℕ) (b : Bool) → f zero ≡ b → i < next n f b → ((j : ℕ) → j < lowest n (λ k. f (suc k)) → f (suc j) ≡ false) → f i ≡ false
    go i true e l h = absurd (omega arith)
    go zero false e l h = e
    go (suc i) false e l h = h i (omega arith)

-- It is the only such index below n,
pub lowest-is : (n : ℕ) (f : ℕ → Bool) (i : ℕ) → i < n → ((j : ℕ) → j < i → f j ≡ false) → f i ≡ true → lowest n f ≡ i
lowest-is n f i l h e = go (dec_lt (lowest n f) i) (dec_lt i (lowest n f))
  where
    go : Dec (lowest n f < i) → Dec (i < lowest n f) → lowest n f ≡ i
    go (yes a) b = absurd (false≢true (sym (h (lowest n f) a) ∙ lowest-found n f (omega arith)))
    go (no a) (yes b) = absurd (false≢true (sym (lowest-before n f i b) ∙ e))
    go (no a) (no b) = omega arith

-- or n, where the test holds of none.
pub lowest-none : (n : ℕ) (f : ℕ → Bool) → ((j : ℕ) → j < n → f j ≡ false) → lowest n f ≡ n
lowest-none n f h = go (dec_lt (lowest n f) n)
  where
    go : Dec (lowest n f < n) → lowest n f ≡ n
    go (yes a) = absurd (false≢true (sym (h (lowest n f) a) ∙ lowest-found n f a))
    go (no a) = let l = lowest-le n f in omega arith

-- Tests that agree below n have the same.
pub lowest-cong : (n : ℕ) (f g : ℕ → Bool) → ((i : ℕ) → i < n → f i ≡ g i) → lowest n f ≡ lowest n g
unfolding lowest
lowest-cong zero f g h = refl
lowest-cong (suc n) f g h =
    ap₂ (λ b l. elim b [ true ↦ 0 | false ↦ suc l ]) (h zero (omega arith))
    (lowest-cong n (λ i. f (suc i)) (λ i. g (suc i)) (λ i l. h (suc i) (omega arith)))

-- ---- a search by blocks of w: it has passed n of them, and the place in the next is given
module _ (w n side : ℕ) (f : ℕ → Bool) (h : (k : ℕ) → k < w * n → f k ≡ false) (e : lowest w (λ j. f (w * n + j)) ≡ side) where
  before : (k : ℕ) → k < w * n + side → f k ≡ false
  before k l = go (dec_lt k (w * n))
    where
      go : Dec (k < w * n) → f k ≡ false
      go (yes a) = h k a
      go (no a) =
          let q : k ≡ w * n + (k - w * n) = omega arith in
          ap f q ∙ lowest-before w (λ j. f (w * n + j)) (k - w * n) (omega arith)

  -- It is found in this block,
  pub found : (all : ℕ) → side < w → w * n + side < all → (w * n + side < all) × (lowest all f ≡ w * n + side)
  found all l la = (la, lowest-is all f (w * n + side) la before (ap (λ j. f (w * n + j)) (sym e) ∙ lowest-found w (λ j. f (w * n + j)) (omega arith)))

  -- or this block is passed too.
  pub passed : w ≤ side → (k : ℕ) → k < w * (n + 1) → f k ≡ false
  passed l k lk = let s = mul-add w n 1 in before k (omega arith)
