-- The greater of two integers, and the greatest over lists of bits. Assumes nothing.
use mathlib.Core.Path.{◌≡◌, refl, sym, ap, ap₂, ◌∙◌}
use mathlib.Core.Bool.{Bool, true, false, cond, true≢false}
use mathlib.Core.List.{List, [], ◌∷◌}
use Prim.Native.Nat.{ℕ, zero, suc, ◌≤◌}
use native.Mathlib.Omega.{arith}
use borrow.Author.Tests.{ltb-true, ltb-false, lt-ltb, le-ltb}
use lib.IntN.{ℤ, pos, negsuc, nat_abs}
use lib.ListN.{length}
use lib.Signed.{lt_z}
use Rattle.values.specs.Value.{greater, best_of}

-- Of two integers neither of which is less than the other there is one,
same : (a b : ℤ) → lt_z a b ≡ false → lt_z b a ≡ false → a ≡ b
same (pos a) (pos b) p q = ap pos (omega (arith, ltb-false a b p, ltb-false b a q))
same (pos a) (negsuc b) p q = absurd (true≢false q)
same (negsuc a) (pos b) p q = absurd (true≢false p)
same (negsuc a) (negsuc b) p q = ap negsuc (omega (arith, ltb-false b a p, ltb-false a b q))

-- not both are less than the other,
one_less : (a b : ℤ) → lt_z a b ≡ true → lt_z b a ≡ false
one_less (pos a) (pos b) p = le-ltb b a (omega (arith, ltb-true a b p))
one_less (pos a) (negsuc b) p = absurd (true≢false (sym p))
one_less (negsuc a) (pos b) p = refl
one_less (negsuc a) (negsuc b) p = le-ltb a b (omega (arith, ltb-true b a p))

-- what is less than a lesser one is less,
less-less : (a b c : ℤ) → lt_z a b ≡ true → lt_z b c ≡ true → lt_z a c ≡ true
less-less (pos a) (pos b) (pos c) p q = lt-ltb a c (omega (arith, ltb-true a b p, ltb-true b c q))
less-less (pos a) (pos b) (negsuc c) p q = absurd (true≢false (sym q))
less-less (pos a) (negsuc b) c p q = absurd (true≢false (sym p))
less-less (negsuc a) (pos b) (pos c) p q = refl
less-less (negsuc a) (pos b) (negsuc c) p q = absurd (true≢false (sym q))
less-less (negsuc a) (negsuc b) (pos c) p q = refl
less-less (negsuc a) (negsuc b) (negsuc c) p q = lt-ltb c a (omega (arith, ltb-true b a p, ltb-true c b q))

-- and what is not less than one that is not less is not.
not-less : (a b c : ℤ) → lt_z a b ≡ false → lt_z b c ≡ false → lt_z a c ≡ false
not-less (pos a) (pos b) (pos c) p q = le-ltb a c (omega (arith, ltb-false a b p, ltb-false b c q))
not-less (pos a) b (negsuc c) p q = refl
not-less (pos a) (negsuc b) (pos c) p q = absurd (true≢false q)
not-less (negsuc a) (pos b) c p q = absurd (true≢false p)
not-less (negsuc a) (negsuc b) (pos c) p q = absurd (true≢false q)
not-less (negsuc a) (negsuc b) (negsuc c) p q = le-ltb c a (omega (arith, ltb-false b a p, ltb-false c b q))

-- The greater one, by the test.
pub greater-new : (a b : ℤ) → lt_z a b ≡ true → greater a b ≡ b
greater-new a b t = ap (λ c. cond c b a) t

pub greater-old : (a b : ℤ) → lt_z a b ≡ false → greater a b ≡ a
greater-old a b t = ap (λ c. cond c b a) t

-- The order of the two is free,
pub greater-comm : (a b : ℤ) → greater a b ≡ greater b a
greater-comm a b = go (lt_z a b) refl (lt_z b a) refl
  where
    go : (s : Bool) → lt_z a b ≡ s → (t : Bool) → lt_z b a ≡ t → greater a b ≡ greater b a
    go true p t q = greater-new a b p ∙ sym (greater-old b a (one_less a b p))
    go false p true q = greater-old a b p ∙ sym (greater-new b a q)
    go false p false q = greater-old a b p ∙ same a b p q ∙ sym (greater-old b a q)

-- and so is the bracketing of three.
pub greater-assoc : (a b c : ℤ) → greater (greater a b) c ≡ greater a (greater b c)
greater-assoc a b c = go (lt_z a b) refl (lt_z b c) refl
  where
    go : (s : Bool) → lt_z a b ≡ s → (t : Bool) → lt_z b c ≡ t → greater (greater a b) c ≡ greater a (greater b c)
    go true p true q =
        ap (λ z. greater z c) (greater-new a b p) ∙ greater-new b c q
        ∙ sym (ap (greater a) (greater-new b c q) ∙ greater-new a c (less-less a b c p q))
    go true p false q =
        ap (λ z. greater z c) (greater-new a b p) ∙ greater-old b c q
        ∙ sym (ap (greater a) (greater-old b c q) ∙ greater-new a b p)
    go false p true q = ap (λ z. greater z c) (greater-old a b p) ∙ sym (ap (greater a) (greater-new b c q))
    go false p false q =
        ap (λ z. greater z c) (greater-old a b p) ∙ greater-old a c (not-less a b c p q)
        ∙ sym (ap (greater a) (greater-old b c q) ∙ greater-old a b p)

-- Two pairs of numbers may be taken crosswise.
pub greater-swap : (a b c d : ℤ) → greater (greater a b) (greater c d) ≡ greater (greater a c) (greater b d)
greater-swap a b c d =
    greater-assoc a b (greater c d)
    ∙ ap (greater a) (sym (greater-assoc b c d) ∙ ap (λ z. greater z d) (greater-comm b c) ∙ greater-assoc c b d)
    ∙ sym (greater-assoc a c (greater b d))

-- The greater of two has at most a size that both have.
pub greater-small : (a b : ℤ) (n : ℕ) → nat_abs a ≤ n → nat_abs b ≤ n → nat_abs (greater a b) ≤ n
greater-small a b n ha hb = go (lt_z a b)
  where
    go : (c : Bool) → nat_abs (cond c b a) ≤ n
    go true = hb
    go false = ha

-- ---- the greatest over all lists of n bits

-- It is that of the same values,
pub best-cong : (n : ℕ) (f g : List Bool → ℤ) → ((t : List Bool) → length t ≡ n → f t ≡ g t) → best_of n f ≡ best_of n g
unfolding best_of
best-cong zero f g h = h [] refl
best-cong (suc n) f g h =
    ap₂ greater
    (best-cong n (λ t. f (false ∷ t)) (λ t. g (false ∷ t)) (λ t e. h (false ∷ t) (ap suc e)))
    (best-cong n (λ t. f (true ∷ t)) (λ t. g (true ∷ t)) (λ t e. h (true ∷ t) (ap suc e)))

-- the greatest of the greater of two is the greater of their greatest,
pub best-greater : (n : ℕ) (f g : List Bool → ℤ) → best_of n (λ t. greater (f t) (g t)) ≡ greater (best_of n f) (best_of n g)
unfolding best_of
best-greater zero f g = refl
best-greater (suc n) f g =
    ap₂ greater (best-greater n (λ t. f (false ∷ t)) (λ t. g (false ∷ t))) (best-greater n (λ t. f (true ∷ t)) (λ t. g (true ∷ t)))
    ∙ greater-swap (best_of n (λ t. f (false ∷ t))) (best_of n (λ t. g (false ∷ t))) (best_of n (λ t. f (true ∷ t))) (best_of n (λ t. g (true ∷ t)))

-- and it has at most a size that all have.
pub best-small : (n : ℕ) (f : List Bool → ℤ) (m : ℕ) → ((t : List Bool) → length t ≡ n → nat_abs (f t) ≤ m) → nat_abs (best_of n f) ≤ m
unfolding best_of
best-small zero f m h = h [] refl
best-small (suc n) f m h =
    greater-small (best_of n (λ t. f (false ∷ t))) (best_of n (λ t. f (true ∷ t))) m
    (best-small n (λ t. f (false ∷ t)) m (λ t e. h (false ∷ t) (ap suc e)))
    (best-small n (λ t. f (true ∷ t)) m (λ t e. h (true ∷ t) (ap suc e)))
