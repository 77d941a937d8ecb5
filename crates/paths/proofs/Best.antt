-- The greatest of a row of eight. Assumes nothing.
use mathlib.Core.Path.{◌≡◌, ap₂, ◌∙◌}
use mathlib.Core.List.{List}
use Prim.Native.Nat.{ℕ, ◌≤◌, ◌<◌}
use lib.IntN.{ℤ, pos, nat_abs}
use lib.ListN.{get_or}
use Rattle.base.specs.Bit.{bit}
use Rattle.values.specs.Value.{greater, best_of, Small}
use Rattle.values.proofs.Greater.{greater-swap, best-cong, best-greater, best-small}
use Rattle.values.specs.Path.{path_number, row_best}
use Rattle.values.proofs.Numbers.{path-below}

-- The greatest in the code's order: the two halves first.
pub row-best : (r : List ℤ)
    → greater
    (greater (greater (get_or r 0 (pos 0)) (get_or r 4 (pos 0))) (greater (get_or r 1 (pos 0)) (get_or r 5 (pos 0))))
    (greater (greater (get_or r 2 (pos 0)) (get_or r 6 (pos 0))) (greater (get_or r 3 (pos 0)) (get_or r 7 (pos 0))))
    ≡ row_best r
unfolding best_of
row-best r =
    ap₂ greater (greater-swap (at 0) (at 4) (at 1) (at 5)) (greater-swap (at 2) (at 6) (at 3) (at 7))
    ∙ greater-swap (greater (at 0) (at 1)) (greater (at 4) (at 5)) (greater (at 2) (at 3)) (greater (at 6) (at 7))
  where
    at : ℕ → ℤ
    at i = get_or r i (pos 0)

-- It is at most as large as the row's numbers,
pub row_small : (n : ℕ) (r : List ℤ) → Small n 8 r → nat_abs (row_best r) ≤ n
row_small n r h = best-small 3 _ n (λ t _. h (path_number (bit t 0) (bit t 1) (bit t 2)) (path-below (bit t 0) (bit t 1) (bit t 2)))

-- and of a row of the greater numbers of two rows it is the greater of their greatest.
pub row-greater : (x a b : List ℤ) → ((i : ℕ) → i < 8 → get_or x i (pos 0) ≡ greater (get_or a i (pos 0)) (get_or b i (pos 0)))
    → row_best x ≡ greater (row_best a) (row_best b)
row-greater x a b h =
    best-cong 3 _ _ (λ t _. h (path_number (bit t 0) (bit t 1) (bit t 2)) (path-below (bit t 0) (bit t 1) (bit t 2)))
    ∙ best-greater 3 (λ t. get_or a (path_number (bit t 0) (bit t 1) (bit t 2)) (pos 0)) (λ t. get_or b (path_number (bit t 0) (bit t 1) (bit t 2)) (pos 0))
