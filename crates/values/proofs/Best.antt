-- The greatest of best scores is the best score of the least total. Assumes nothing.
use mathlib.Core.Path.{◌≡◌, refl, ap, ap₂, ◌∙◌}
use mathlib.Core.Bool.{Bool, true, false}
use mathlib.Core.List.{List, ◌∷◌}
use Prim.Native.Nat.{ℕ, zero, suc, ◌≤◌, ◌<◌, min}
use native.Mathlib.Decide.{dec_lt}
use native.Mathlib.Omega.{arith}
use borrow.Author.Tests.{lt-ltb, le-ltb}
use lib.IntN.{pos, neg_ℤ}
use Rattle.polar.specs.Code.{minimum}
use Rattle.values.specs.Value.{greater, best_of}

-- The greater of two that are not positive, by their sizes.
pub greater-neg : (a b : ℕ) → greater (neg_ℤ (pos a)) (neg_ℤ (pos b)) ≡ neg_ℤ (pos (min a b))
greater-neg zero zero = refl
greater-neg zero (suc b) = ap (λ n. neg_ℤ (pos n)) {x = 0} {y = min 0 (suc b)} (omega arith)
greater-neg (suc a) zero = ap (λ n. neg_ℤ (pos n)) {x = 0} {y = min (suc a) 0} (omega arith)
greater-neg (suc a) (suc b) = go (dec_lt b a)
  where
    go : Dec (b < a) → greater (neg_ℤ (pos (suc a))) (neg_ℤ (pos (suc b))) ≡ neg_ℤ (pos (min (suc a) (suc b)))
    go (yes l) = rw (lt-ltb b a l) (ap (λ n. neg_ℤ (pos n)) {x = suc b} {y = min (suc a) (suc b)} (omega arith))
    go (no l) = let h : a ≤ b = omega arith in rw (le-ltb b a h) (ap (λ n. neg_ℤ (pos n)) {x = suc a} {y = min (suc a) (suc b)} (omega arith))

-- The same over all lists of n bits.
pub best-neg : (n : ℕ) (f : List Bool → ℕ) → best_of n (λ t. neg_ℤ (pos (f t))) ≡ neg_ℤ (pos (minimum n f))
unfolding best_of minimum
best-neg zero f = refl
best-neg (suc n) f = ap₂ greater (best-neg n (λ t. f (false ∷ t))) (best-neg n (λ t. f (true ∷ t))) ∙ greater-neg (minimum n (λ t. f (false ∷ t))) (minimum n (λ t. f (true ∷ t)))
