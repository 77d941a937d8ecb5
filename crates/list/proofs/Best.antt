-- The entries that pass a test, by key, begin with the one at the best position, and there is only one such. Assumes nothing.
use mathlib.Core.Path.{◌≡◌, refl, sym, ap, ◌∙◌, subst}
use mathlib.Core.Bool.{Bool, true, false, false≢true}
use mathlib.Core.Logic.{◌≢◌}
use mathlib.Core.List.{List, [], ◌∷◌}
use Prim.Native.Nat.{ℕ, zero, suc, ◌+◌, ◌≤◌, ◌<◌}
use native.Mathlib.Decide.{dec_lt}
use native.Mathlib.Omega.{arith}
use borrow.Author.Tests.{leb-true, leb-false}
use lib.Dec.{leb}
use lib.ListN.{length, get_or}
use Rattle.list.specs.Sort.{insert, sort}
use Rattle.list.specs.Best.{filter, IsBestAt, BestFirst, begins, empty}
use Rattle.list.proofs.Sort.{pick}

module _ (test : ℕ → Bool) (key : ℕ → ℕ) where
  -- There is no other best position.
  pub best-only : (n i j : ℕ) → IsBestAt test key n i → IsBestAt test key n j → i ≡ j
  best-only n i j a b = go (dec_lt i j) (dec_lt j i)
    where
      go : Dec (i < j) → Dec (j < i) → i ≡ j
      go (yes l) r = absurd (b.first i l a.passes (omega (arith, a.least j b.inside b.passes, b.least i a.inside a.passes)))
      go (no l) (yes r) = absurd (a.first j r b.passes (omega (arith, a.least j b.inside b.passes, b.least i a.inside a.passes)))
      go (no l) (no r) = omega (arith, l, r)

  -- One position more, that does not pass or has no lower key, leaves it;
  pub best-stays : (n i : ℕ) → IsBestAt test key n i → (test n ≡ true → key i ≤ key n) → IsBestAt test key (n + 1) i
  best-stays n i b h =
      record { inside = omega (arith, b.inside); passes = b.passes; least = λ j l. at j l (dec_lt j n); first = b.first }
    where
      at : (j : ℕ) → j < n + 1 → Dec (j < n) → test j ≡ true → key i ≤ key j
      at j l (yes k) t = b.least j k t
      at j l (no k) t =
          let q : j ≡ n = omega (arith, k) in
          subst (λ m. key i ≤ key m) (sym q) (h (ap test (sym q) ∙ t))

  -- one that passes, with a lower key than all that pass before it, becomes it.
  pub best-new : (n : ℕ) → test n ≡ true → ((j : ℕ) → j < n → test j ≡ true → key n < key j) → IsBestAt test key (n + 1) n
  best-new n e h =
      record { inside = omega arith; passes = e; least = λ j l. at j l (dec_lt j n); first = λ j l t q. omega (arith, h j l t, q) }
    where
      at : (j : ℕ) → j < n + 1 → Dec (j < n) → test j ≡ true → key n ≤ key j
      at j l (yes k) t = omega (arith, h j k t)
      at j l (no k) t = let q : j ≡ n = omega (arith, k) in omega (arith, ap key q)

-- It depends on what holds below n alone.
pub best-cong : (test test' : ℕ → Bool) (key key' : ℕ → ℕ) (n i : ℕ) → ((j : ℕ) → j < n → test j ≡ test' j) → ((j : ℕ) → j < n → key j ≡ key' j)
    → IsBestAt test key n i → IsBestAt test' key' n i
best-cong test test' key key' n i et ek b =
    record {
      inside = b.inside;
      passes = sym (et i b.inside) ∙ b.passes;
      least = λ j l t. omega (arith, b.least j l (et j l ∙ t), ek i b.inside, ek j l);
      first = λ j l t q.
          let k : j < n = omega (arith, l, b.inside) in
          b.first j l (et j k ∙ t) (ek j k ∙ q ∙ sym (ek i b.inside));
    }

module _ {X : Type 0} (test : X → Bool) (key : X → ℕ) (d : X) where
  abbrev test_at : List X → ℕ → Bool
  test_at xs j = test (get_or xs j d)

  abbrev key_at : List X → ℕ → ℕ
  key_at xs j = key (get_or xs j d)

  -- An entry that does not pass, or has a greater key, put before others,
  best-behind : (x : X) (xs : List X) (i : ℕ) → (test x ≡ true → key (get_or xs i d) < key x) → IsBestAt (test_at xs) (key_at xs) (length xs) i
      → IsBestAt (test_at (x ∷ xs)) (key_at (x ∷ xs)) (length (x ∷ xs)) (suc i)
  best-behind x xs i h b = record { inside = omega (arith, b.inside); passes = b.passes; least = least'; first = first' }
    where
      least' : (j : ℕ) → j < length (x ∷ xs) → test_at (x ∷ xs) j ≡ true → key_at (x ∷ xs) (suc i) ≤ key_at (x ∷ xs) j
      least' zero l t = omega (arith, h t)
      least' (suc j) l t = b.least j (omega (arith, l)) t

      first' : (j : ℕ) → j < suc i → test_at (x ∷ xs) j ≡ true → key_at (x ∷ xs) j ≢ key_at (x ∷ xs) (suc i)
      first' zero l t q = omega (arith, h t, q)
      first' (suc j) l t q = b.first j (omega (arith, l)) t q

  -- and one that passes, with a key that no other that passes is below.
  best-in-front : (x : X) (xs : List X) → test x ≡ true → ((j : ℕ) → j < length xs → test_at xs j ≡ true → key x ≤ key_at xs j)
      → IsBestAt (test_at (x ∷ xs)) (key_at (x ∷ xs)) (length (x ∷ xs)) 0
  best-in-front x xs e h = record { inside = omega arith; passes = e; least = least'; first = λ j l. absurd (omega (arith, l)) }
    where
      least' : (j : ℕ) → j < length (x ∷ xs) → test_at (x ∷ xs) j ≡ true → key x ≤ key_at (x ∷ xs) j
      least' zero l t = omega arith
      least' (suc j) l t = h j (omega (arith, l)) t

  -- The entries that pass, by key, begin with the one at the best position.
  pub best-first : (xs : List X) → BestFirst test key d xs
  unfolding filter sort insert
  best-first [] = empty refl (λ i l. absurd (omega (arith, l)))
  best-first (x ∷ xs) = go (test x) refl (best-first xs)
    where
      -- What those that pass are, by key, where x passes or not.
      is : (b : Bool) → test x ≡ b → sort key (filter test (x ∷ xs)) ≡ sort key (pick b (x ∷ filter test xs) (filter test xs))
      is b e = ap (λ c. sort key (pick c (x ∷ filter test xs) (filter test xs))) e

      none : test x ≡ false → ((i : ℕ) → i < length xs → test_at xs i ≡ false) → (i : ℕ) → i < length (x ∷ xs) → test_at (x ∷ xs) i ≡ false
      none e h zero l = e
      none e h (suc i) l = h i (omega (arith, l))

      go : (b : Bool) → test x ≡ b → BestFirst test key d xs → BestFirst test key d (x ∷ xs)
      go false e (empty s h) = empty (is false e ∙ s) (none e h)
      go false e (begins i rest b s) = begins (suc i) rest (best-behind x xs i (λ t. absurd (false≢true (sym e ∙ t))) b) (is false e ∙ s)
      go true e (empty s h) = begins 0 [] (best-in-front x xs e (λ j l t. absurd (false≢true (sym (h j l) ∙ t)))) (is true e ∙ ap (insert key x) s)
      go true e (begins i rest b s) = put (leb (key x) (key (get_or xs i d))) refl
        where
          put : (c : Bool) → leb (key x) (key (get_or xs i d)) ≡ c → BestFirst test key d (x ∷ xs)
          put true k =
              begins 0 (get_or xs i d ∷ rest) (best-in-front x xs e (λ j l t. omega (arith, leb-true (key x) (key (get_or xs i d)) k, b.least j l t)))
              (is true e ∙ ap (insert key x) s ∙ ap (λ c. pick c (x ∷ get_or xs i d ∷ rest) (get_or xs i d ∷ insert key x rest)) k)
          put false k =
              begins (suc i) (insert key x rest) (best-behind x xs i (λ _. leb-false (key x) (key (get_or xs i d)) k) b)
              (is true e ∙ ap (insert key x) s ∙ ap (λ c. pick c (x ∷ get_or xs i d ∷ rest) (get_or xs i d ∷ insert key x rest)) k)

  -- A single entry is in order.
  pub sort-single : (x : X) → sort key (filter test (x ∷ [])) ≡ filter test (x ∷ [])
  unfolding filter sort insert
  sort-single x = go (test x)
    where
      go : (b : Bool) → sort key (pick b (x ∷ []) []) ≡ pick b (x ∷ []) []
      go true = refl
      go false = refl

  -- It is kept where it passes.
  pub filter-single : (x : X) (b : Bool) → test x ≡ b → filter test (x ∷ []) ≡ pick b (x ∷ []) []
  unfolding filter
  filter-single x b e = ap (λ c. pick c (x ∷ []) []) e
