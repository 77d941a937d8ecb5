-- The entries of a list that pass a test, and the best of them by a key. Assumes nothing.
use Rattle.std.specs.Prelude.{◌≡◌, Bool, true, false, ◌≢◌, List, [], ◌∷◌, ℕ, ◌≤◌, ◌<◌, length, get_or}
use Rattle.list.specs.Sort.{sort}

-- The entries that pass a test, in the order in which they stand.
unfoldable pub filter : {X : Type 0} → (X → Bool) → List X → List X
filter test [] = []
filter test (x ∷ xs) = elim (test x) [ true ↦ x ∷ filter test xs | false ↦ filter test xs ]

-- Of n positions i is the best: it passes the test, none that passes has a lower key, and none that passes and has an equal key stands
-- before it.
pub record IsBestAt (test : ℕ → Bool) (key : ℕ → ℕ) (n i : ℕ) : Type 0 where
  pub inside : i < n
  pub passes : test i ≡ true
  pub least : (j : ℕ) → j < n → test j ≡ true → key i ≤ key j
  pub first : (j : ℕ) → j < i → test j ≡ true → key j ≢ key i

-- The entries that pass, by key, begin with the one at the best position; or there are none, and no entry passes. d stands for what is
-- past the end.
pub data BestFirst {X : Type 0} (test : X → Bool) (key : X → ℕ) (d : X) (xs : List X) : Type 0 where
  begins : (i : ℕ) (rest : List X) → IsBestAt (λ j. test (get_or xs j d)) (λ j. key (get_or xs j d)) (length xs) i
      → sort key (filter test xs) ≡ get_or xs i d ∷ rest → BestFirst test key d xs
  empty : sort key (filter test xs) ≡ [] → ((i : ℕ) → i < length xs → test (get_or xs i d) ≡ false) → BestFirst test key d xs
