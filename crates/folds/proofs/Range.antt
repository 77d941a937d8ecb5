-- Laws of the first value outside the range. Assumes nothing.
use mathlib.Core.Path.{◌≡◌, refl, sym, ap, ap₂, ◌∙◌}
use mathlib.Core.Bool.{Bool, true, false, cond, not}
use mathlib.Core.List.{List, [], ◌∷◌, ◌++◌}
use Prim.Native.Nat.{ℕ, zero, suc, ◌+◌, ◌≤◌, ◌<◌}
use native.Mathlib.Nat.{zero-add, le_trans}
use native.Mathlib.Numerals.{add-one}
use native.Mathlib.Decide.{dec_lt}
use native.Mathlib.Omega.{arith}
use borrow.Author.Tests.{leb-true, leb-false, ltb-true, ltb-false}
use lib.Dec.{leb, ltb}
use lib.IntN.{ℤ, pos, nat_abs}
use lib.ListN.{length, get_or, take, drop, length-drop, take-append-drop, get_or-eq_default}
use lib.Seq.{drop-cons, drop-length, drop-drop, length-take-le, get_or-take, get_or-drop, ext_get_or}
use Rattle.std.specs.Prelude.{None, Some}
use Rattle.std.specs.List.{position, position_or_len}
use Rattle.base.specs.Place.{FoundBelow}
use Rattle.folds.specs.Range.{first_outside}

-- ---- what the number says of the values

-- The lowest index outside is at most the number of values.
pub outside-le : (limit : ℕ) (ys : List ℤ) → first_outside limit ys ≤ length ys
unfolding first_outside
outside-le limit [] = omega arith
outside-le limit (y ∷ ys) = go (leb (nat_abs y) limit) (outside-le limit ys)
  where
    go : (c : Bool) → first_outside limit ys ≤ length ys → elim c [ true ↦ suc (first_outside limit ys) | false ↦ 0 ] ≤ suc (length ys)
    go true l = omega arith
    go false l = omega arith

-- The values before the lowest index outside are within the limit.
pub outside-lowest : (limit : ℕ) (ys : List ℤ) (i : ℕ) → i < first_outside limit ys → nat_abs (get_or ys i (pos 0)) ≤ limit
unfolding first_outside
outside-lowest limit [] i l = absurd (omega arith)
outside-lowest limit (y ∷ ys) i l = go i (leb (nat_abs y) limit) refl l (outside-lowest limit ys)
  where
    go : (i : ℕ) (c : Bool) → leb (nat_abs y) limit ≡ c → i < elim c [ true ↦ suc (first_outside limit ys) | false ↦ 0 ]
        → ((k : ℕ) → k < first_outside limit ys → nat_abs (get_or ys k (pos 0)) ≤ limit) → nat_abs (get_or (y ∷ ys) i (pos 0)) ≤ limit
    go zero true t l r = leb-true (nat_abs y) limit t
    go (suc i) true t l r = r i (omega arith)
    go i false t l r = absurd (omega arith)

-- The value at the lowest index outside is beyond the limit.
pub outside-found : (limit : ℕ) (ys : List ℤ) → first_outside limit ys < length ys → limit < nat_abs (get_or ys (first_outside limit ys) (pos 0))
unfolding first_outside
outside-found limit [] l = absurd (omega arith)
outside-found limit (y ∷ ys) l = go (leb (nat_abs y) limit) refl l (outside-found limit ys)
  where
    go : (c : Bool) → leb (nat_abs y) limit ≡ c → elim c [ true ↦ suc (first_outside limit ys) | false ↦ 0 ] < suc (length ys)
        → (first_outside limit ys < length ys → limit < nat_abs (get_or ys (first_outside limit ys) (pos 0)))
        → limit < nat_abs (get_or (y ∷ ys) (elim c [ true ↦ suc (first_outside limit ys) | false ↦ 0 ]) (pos 0))
    go true t l r = r (omega arith)
    go false t l r = leb-false (nat_abs y) limit t

-- Where no value is outside, none is named.
pub outside-all : (limit : ℕ) (ys : List ℤ) → ((i : ℕ) → i < length ys → nat_abs (get_or ys i (pos 0)) ≤ limit) → first_outside limit ys ≡ length ys
outside-all limit ys h = go (dec_lt (first_outside limit ys) (length ys))
  where
    go : Dec (first_outside limit ys < length ys) → first_outside limit ys ≡ length ys
    go (yes l) = absurd (omega (arith, outside-found limit ys l, h (first_outside limit ys) l))
    go (no l) = omega (arith, outside-le limit ys)

-- Where no value is outside, every one is within the limit, and so is the 0 past their end.
pub outside-none : (limit : ℕ) (ys : List ℤ) → first_outside limit ys ≡ length ys → (i : ℕ) → nat_abs (get_or ys i (pos 0)) ≤ limit
outside-none limit ys e i = go (dec_lt i (length ys))
  where
    go : Dec (i < length ys) → nat_abs (get_or ys i (pos 0)) ≤ limit
    go (yes l) = outside-lowest limit ys i (omega arith)
    go (no l) = rw (get_or-eq_default ys (pos 0) {n = i} (omega arith)) (omega arith)

-- A wider limit leaves none outside either.
pub outside_wider : (m n : ℕ) → m ≤ n → (ys : List ℤ) → first_outside m ys ≡ length ys → first_outside n ys ≡ length ys
outside_wider m n l ys e = outside-all n ys (λ i _. le_trans (outside-none m ys e i) l)

-- ---- the search

is-outside : (limit : ℕ) (y : ℤ) (ys : List ℤ) → leb (nat_abs y) limit ≡ false → first_outside limit (y ∷ ys) ≡ 0
unfolding first_outside
is-outside limit y ys t = ap (λ c. elim c [ true ↦ suc (first_outside limit ys) | false ↦ 0 ]) t

is-inside : (limit : ℕ) (y : ℤ) (ys : List ℤ) → leb (nat_abs y) limit ≡ true → first_outside limit (y ∷ ys) ≡ suc (first_outside limit ys)
unfolding first_outside
is-inside limit y ys t = ap (λ c. elim c [ true ↦ suc (first_outside limit ys) | false ↦ 0 ]) t

-- The position of the first value outside is their number.
outside-position : (limit : ℕ) (ys : List ℤ) → position_or_len (λ y. ltb limit (nat_abs y)) ys ≡ first_outside limit ys
unfolding first_outside
outside-position limit [] = refl
outside-position limit (y ∷ ys) = go (ltb limit (nat_abs y)) (leb (nat_abs y) limit) refl refl (outside-position limit ys)
  where
    go : (t c : Bool) → ltb limit (nat_abs y) ≡ t → leb (nat_abs y) limit ≡ c → position_or_len (λ y. ltb limit (nat_abs y)) ys ≡ first_outside limit ys
        → cond (not t) (1 + position_or_len (λ y. ltb limit (nat_abs y)) ys) 0 ≡ elim c [ true ↦ suc (first_outside limit ys) | false ↦ 0 ]
    go true false d e r = refl
    go false true d e r = omega arith
    go true true d e r = absurd (omega (arith, ltb-true limit (nat_abs y) d, leb-true (nat_abs y) limit e))
    go false false d e r = absurd (omega (arith, ltb-false limit (nat_abs y) d, leb-false (nat_abs y) limit e))

-- What the search by position answers.
pub position-outside : (limit : ℕ) (ys : List ℤ)
    → FoundBelow (length ys) (first_outside limit ys) (position (λ y. ltb limit (nat_abs y)) ys)
position-outside limit ys = go (ltb (position_or_len (λ y. ltb limit (nat_abs y)) ys) (length ys)) refl
  where
    n : ℕ
    n = position_or_len (λ y. ltb limit (nat_abs y)) ys

    go : (t : Bool) → ltb n (length ys) ≡ t → FoundBelow (length ys) (first_outside limit ys) (cond t (Some n) None)
    go true e = (ltb-true n (length ys) e, sym (outside-position limit ys))
    go false e = omega (arith, ltb-false n (length ys) e, outside-position limit ys, outside-le limit ys)

-- The search has passed i values, and goes on in the others.
abbrev pub Passed : ℕ → List ℤ → ℕ → Type 0
Passed limit ys i = first_outside limit ys ≡ i + first_outside limit (drop i ys)

module _ (limit : ℕ) (ys : List ℤ) (i : ℕ) (h : i < length ys) (e : Passed limit ys i) where
  -- The search ends at a value outside.
  pub found : leb (nat_abs (get_or ys i (pos 0))) limit ≡ false → i ≡ first_outside limit ys
  found t = let f = ap (first_outside limit) (drop-cons ys i (pos 0) h) ∙ is-outside limit (get_or ys i (pos 0)) (drop (suc i) ys) t in omega arith

  -- It passes any other.
  pub passed : leb (nat_abs (get_or ys i (pos 0))) limit ≡ true → Passed limit ys (i + 1)
  passed t =
      let f = ap (first_outside limit) (drop-cons ys i (pos 0) h) ∙ is-inside limit (get_or ys i (pos 0)) (drop (suc i) ys) t in
      rw add-one (omega arith)

-- The search ends at the end of the values.
pub passed-all : (limit : ℕ) (ys : List ℤ) (i : ℕ) → i ≤ length ys → length ys ≤ i → Passed limit ys i → i ≡ first_outside limit ys
unfolding first_outside
passed-all limit ys i p q e =
    let s : i ≡ length ys = omega arith in
    let f : first_outside limit (drop i ys) ≡ 0 = rw (s, drop-length ys) in
    omega arith

-- ---- the search block by block

outside-front : (limit : ℕ) (xs ys : List ℤ) → first_outside limit xs < length xs → first_outside limit (xs ++ ys) ≡ first_outside limit xs
unfolding first_outside
outside-front limit [] ys l = absurd (omega arith)
outside-front limit (x ∷ xs) ys l = go (leb (nat_abs x) limit) l (outside-front limit xs ys)
  where
    go : (c : Bool) → elim c [ true ↦ suc (first_outside limit xs) | false ↦ 0 ] < suc (length xs)
        → (first_outside limit xs < length xs → first_outside limit (xs ++ ys) ≡ first_outside limit xs)
        → ◌≡◌ {A = ℕ} (elim c [ true ↦ suc (first_outside limit (xs ++ ys)) | false ↦ 0 ]) (elim c [ true ↦ suc (first_outside limit xs) | false ↦ 0 ])
    go true l ih = ap suc (ih (omega arith))
    go false l ih = refl

outside-past : (limit : ℕ) (xs ys : List ℤ) → length xs ≤ first_outside limit xs → first_outside limit (xs ++ ys) ≡ length xs + first_outside limit ys
unfolding first_outside
outside-past limit [] ys l = sym (zero-add (first_outside limit ys))
outside-past limit (x ∷ xs) ys l = go (leb (nat_abs x) limit) l (outside-past limit xs ys)
  where
    go : (c : Bool) → suc (length xs) ≤ elim c [ true ↦ suc (first_outside limit xs) | false ↦ 0 ]
        → (length xs ≤ first_outside limit xs → first_outside limit (xs ++ ys) ≡ length xs + first_outside limit ys)
        → elim c [ true ↦ suc (first_outside limit (xs ++ ys)) | false ↦ 0 ] ≡ suc (length xs) + first_outside limit ys
    go true l ih = omega (arith, ih (omega arith))
    go false l ih = absurd (omega arith)

module _ (limit : ℕ) (ys : List ℤ) (i n : ℕ) (h : i + n ≤ length ys) (e : Passed limit ys i)
    (block : List ℤ) (lb : length block ≡ n) (is : (t : ℕ) → t < n → get_or block t (pos 0) ≡ get_or ys (i + t) (pos 0)) where
  rest : drop i ys ≡ block ++ drop (i + n) ys
  rest =
      sym (take-append-drop n (drop i ys))
      ∙ ap₂ (λ (x y : List ℤ). x ++ y)
      (sym (ext_get_or (pos 0) block (take n (drop i ys)) (lb ∙ sym (length-take-le n (drop i ys) (omega (arith, length-drop i ys))))
      (λ t l. is t (omega arith) ∙ sym (get_or-take n (drop i ys) t (pos 0) (omega arith) ∙ get_or-drop i ys t (pos 0)))))
      (drop-drop n i ys)

  -- The search ends in the block,
  pub found_in : first_outside limit block < n → i + first_outside limit block ≡ first_outside limit ys
  found_in l = let f = ap (first_outside limit) rest ∙ outside-front limit block (drop (i + n) ys) (omega arith) in omega arith

  -- or passes it.
  pub passed-block : n ≤ first_outside limit block → Passed limit ys (i + n)
  passed-block l = let f = ap (first_outside limit) rest ∙ outside-past limit block (drop (i + n) ys) (omega arith) in omega arith
