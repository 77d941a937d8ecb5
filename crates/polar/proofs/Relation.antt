-- Relations that can be solved, with an invertible matrix, make an invertible kernel. Assumes nothing.
use mathlib.Core.Path.{◌≡◌, refl, sym, ap, ap₂, ◌∙◌}
use mathlib.Core.Bool.{Bool, true, false, ◌&&◌, and_comm, and-false, and-eq-true_iff}
use mathlib.Core.List.{List, [], ◌∷◌}
use Prim.Native.Nat.{ℕ, zero, suc, ◌<◌}
use borrow.Author.Tests.{ltb-true, eqb-true}
use lib.Dec.{eqb, ltb}
use lib.ListN.{length, get_or, length-map, get_or-map}
use Rattle.base.specs.Bit.{◌⊕◌, bit, parity, tabulate, same}
use Rattle.base.proofs.Bool.{and-⊕, parity-cong, parity-false, parity-⊕, parity-only}
use Rattle.base.proofs.List.{length-tabulate, tabulate-at, same_bits, same-eq, same_self, length-find, find-holds}
use Rattle.polar.specs.Code.{Code, UndoneBy, symbols_in}
use Rattle.polar.specs.Kernel.{matrix, product, Inverse}
use Rattle.polar.specs.Relation.{Relation, sum_of, symbols, tied, word_by, unit, row}
use Rattle.polar.proofs.Undo.{symbols-are}
use Rattle.polar.proofs.Matrix.{inverse-undoes, product-word, product-inverse, inverse_test, tested}

-- Whether a relation names v i an odd number of times.
unfoldable pub names : ℕ → Relation → Bool
names i [] = false
names i (j ∷ r) = eqb i j ⊕ names i r

-- The relations as a matrix: entry i, s is 1 where symbol s uses v i.
unfoldable pub uses : List Relation → ℕ → ℕ → Bool
uses rs i s = names i (get_or rs s [])

-- Whether a relation, and every relation of a list, names v below n only.
unfoldable pub within : ℕ → Relation → Bool
within n [] = true
within n (j ∷ r) = ltb j n && within n r

unfoldable pub all_within : ℕ → List Relation → Bool
all_within n [] = true
all_within n (r ∷ rs) = within n r && all_within n rs

-- A sum of v by the matrix.
sum-names : (n : ℕ) (r : Relation) → within n r ≡ true → (v : List Bool) → sum_of r v ≡ parity n (λ i. bit v i && names i r)
unfolding sum_of names within
sum-names n [] t v = sym (parity-cong n (λ i _. and-false (bit v i)) ∙ parity-false n)
sum-names n (j ∷ r) t v =
    let h = (and-eq-true_iff (ltb j n) (within n r)).0 t in
    ap₂ ◌⊕◌ (sym (parity-only n (bit v) j (ltb-true j n h.0))) (sum-names n r h.1 v)
    ∙ sym (parity-⊕ n (λ i. bit v i && eqb i j) (λ i. bit v i && names i r))
    ∙ sym (parity-cong n (λ i _. and-⊕ (bit v i) (eqb i j) (names i r)))

within-at : (n : ℕ) (rs : List Relation) → all_within n rs ≡ true → (s : ℕ) → within n (get_or rs s []) ≡ true
unfolding all_within within
within-at n [] t s = refl
within-at n (r ∷ rs) t zero = ((and-eq-true_iff (within n r) _).0 t).0
within-at n (r ∷ rs) t (suc s) = within-at n rs ((and-eq-true_iff (within n r) _).0 t).1 s

pub length_symbols : (rs : List Relation) (v : List Bool) → length (symbols rs v) ≡ length rs
unfolding symbols
length_symbols rs v = length-map rs (λ r. sum_of r v)

symbols-at : (rs : List Relation) (v : List Bool) (s : ℕ) → bit (symbols rs v) s ≡ sum_of (get_or rs s []) v
unfolding symbols sum_of
symbols-at rs v s = get_or-map (λ r. sum_of r v) rs s []

-- Symbol s of v by the matrix.
pub symbol-uses : (n : ℕ) (rs : List Relation) → all_within n rs ≡ true → (v : List Bool) (s : ℕ)
    → bit (symbols rs v) s ≡ parity n (λ i. bit v i && uses rs i s)
unfolding uses
symbol-uses n rs t v s = symbols-at rs v s ∙ sum-names n (get_or rs s []) (within-at n rs t s) v

-- What is computed of two lists of n relations: qs give back each v from its symbols by rs.
pub record Solves (n : ℕ) (rs qs : List Relation) : Type 0 where
  pub count : length rs ≡ n
  pub solutions : length qs ≡ n
  pub bounded : all_within n rs ≡ true
  pub within-too : all_within n qs ≡ true
  pub product-unit : Inverse n (uses rs) (uses qs)

-- The computed test of that.
unfoldable pub solves_test : ℕ → List Relation → List Relation → Bool
solves_test n rs qs =
    eqb (length rs) n && eqb (length qs) n && all_within n rs && all_within n qs && inverse_test n (uses rs) (uses qs)

pub solves-by : (n : ℕ) (rs qs : List Relation) → solves_test n rs qs ≡ true → Solves n rs qs
unfolding solves_test
solves-by n rs qs t =
    let a = (and-eq-true_iff _ (inverse_test n (uses rs) (uses qs))).0 t in
    let b = (and-eq-true_iff _ (all_within n qs)).0 a.0 in
    let c = (and-eq-true_iff _ (all_within n rs)).0 b.0 in
    let d = (and-eq-true_iff (eqb (length rs) n) (eqb (length qs) n)).0 c.0 in
    record {
      count = eqb-true (length rs) n d.0;
      solutions = eqb-true (length qs) n d.1;
      bounded = c.1;
      within-too = b.1;
      product-unit = tested n (uses rs) (uses qs) a.1;
    }

-- Each of the first n bits of any v comes back from its symbols,
pub solved-bit : (n : ℕ) (rs qs : List Relation) → Solves n rs qs → (v : List Bool) (i : ℕ) → i < n → bit (symbols qs (symbols rs v)) i ≡ bit v i
solved-bit n rs qs k v i l =
    symbol-uses n qs k.within-too (symbols rs v) i
    ∙ parity-cong n (λ s h. ap (λ b. b && uses qs s i) (symbol-uses n rs k.bounded v s))
    ∙ inverse-undoes n (uses rs) (uses qs) k.product-unit (bit v) i l

-- and so a v of n bits.
pub solved-symbols : (n : ℕ) (rs qs : List Relation) → Solves n rs qs → (v : List Bool) → length v ≡ n → symbols qs (symbols rs v) ≡ v
solved-symbols n rs qs k v e =
    same_bits n (symbols qs (symbols rs v)) v (length_symbols qs (symbols rs v) ∙ k.solutions) e (solved-bit n rs qs k v)

-- What is computed of a kernel: relations that can be solved, both ways, and a matrix F with its inverse G.
pub record Solution (n : ℕ) (F G : ℕ → ℕ → Bool) (rs qs : List Relation) : Type 0 where
  pub solves : Solves n rs qs
  pub solved : Solves n qs rs
  pub right : Inverse n F G
  pub left : Inverse n G F

module _ (n : ℕ) (F G : ℕ → ℕ → Bool) (rs qs : List Relation) (k : Solution n F G rs qs) where
  -- Every u belongs to some v,
  pub symbols-tied : (u : List Bool) → length u ≡ n → symbols rs (tied rs u) ≡ u
  unfolding tied
  symbols-tied u e =
      same-eq (symbols rs (tied rs u)) u
      (find-holds (length rs) (λ v. same (symbols rs v) u) (symbols qs u)
      (length_symbols qs u ∙ k.solves.solutions ∙ sym k.solves.count)
      (ap (λ w. same w u) (solved-symbols n qs rs k.solved u e) ∙ same_self u))

  pub length-tied : (u : List Bool) → length (tied rs u) ≡ n
  unfolding tied
  length-tied u = length-find (length rs) _ ∙ k.solves.count

  -- and to one only.
  pub one-v : (v w : List Bool) → length v ≡ n → length w ≡ n → symbols rs v ≡ symbols rs w → v ≡ w
  one-v v w ev ew e = sym (solved-symbols n rs qs k.solves v ev) ∙ ap (symbols qs) e ∙ solved-symbols n rs qs k.solves w ew

  pub tied-symbols : (v : List Bool) → length v ≡ n → tied rs (symbols rs v) ≡ v
  tied-symbols v e =
      one-v (tied rs (symbols rs v)) v (length-tied (symbols rs v)) e (symbols-tied (symbols rs v) (length_symbols rs v ∙ k.solves.count))

  -- The word of the symbols of v is vF.
  pub word-symbols : (v : List Bool) → length v ≡ n → (j : ℕ) → word_by F rs (symbols rs v) j ≡ parity n (λ i. bit v i && F i j)
  unfolding word_by
  word-symbols v e j =
      ap₂ (λ m w. parity m (λ i. bit w i && F i j)) k.solves.count (tied-symbols v e)

  -- It is the one that the solution gives.
  pub tied-solution : (u : List Bool) → length u ≡ n → tied rs u ≡ symbols qs u
  tied-solution u e =
      one-v (tied rs u) (symbols qs u) (length-tied u) (length_symbols qs u ∙ k.solves.solutions)
      (symbols-tied u e ∙ sym (solved-symbols n qs rs k.solved u e))

  -- The word of any symbols, by the product of the solution and F.
  pub word-product : (u : List Bool) → length u ≡ n → (j : ℕ) → word_by F rs u j ≡ parity n (λ s. bit u s && product n (uses qs) F s j)
  unfolding word_by
  word-product u e j =
      ap₂ (λ m w. parity m (λ i. bit w i && F i j)) k.solves.count (tied-solution u e)
      ∙ parity-cong n (λ i _. ap (λ b. b && F i j) (symbol-uses n qs k.solves.within-too u i))
      ∙ product-word n n (uses qs) F (bit u) j

  -- The rows of the kernel are those of the product.
  pub row-product : (s j : ℕ) → s < n → row F rs s j ≡ product n (uses qs) F s j
  row-product s j l =
      ap (λ m. word_by F rs (unit m s) j) k.solves.count
      ∙ word-product (unit n s) (length-tabulate n _) j
      ∙ parity-cong n (λ i h. ap (λ b. b && product n (uses qs) F i j) (tabulate-at n (λ i. eqb i s) i false h) ∙ and_comm (eqb i s) (product n (uses qs) F i j))
      ∙ parity-only n (λ i. product n (uses qs) F i j) s l

  -- A word is the sum of the rows of its symbols.
  pub word_rows : (u : List Bool) → length u ≡ n → (j : ℕ) → word_by F rs u j ≡ parity n (λ s. bit u s && row F rs s j)
  word_rows u e j = word-product u e j ∙ parity-cong n (λ s l. ap (λ b. bit u s && b) (sym (row-product s j l)))

  -- The kernel of the relations can be inverted.
  pub row-inverse : Inverse n (row F rs) (product n G (uses rs))
  row-inverse s j ls lj =
      parity-cong n (λ i l. ap (λ b. b && product n G (uses rs) i j) (row-product s i ls))
      ∙ product-inverse n (uses qs) F (uses rs) G k.solved.product-unit k.right s j ls lj

  pub inverse-row : Inverse n (product n G (uses rs)) (row F rs)
  inverse-row s j ls lj =
      parity-cong n (λ i l. ap (λ b. product n G (uses rs) s i && b) (row-product i j l))
      ∙ product-inverse n G (uses rs) F (uses qs) k.left k.solves.product-unit s j ls lj

  -- The code of the relations, and the matrix that undoes it.
  abbrev pub related : Code
  related = record { size = n; places = n; word = word_by F rs }

  abbrev pub unrelated : Code
  unrelated = matrix n n (product n G (uses rs))

  pub related-undo : UndoneBy related unrelated
  related-undo = record {
    back = refl;
    there = refl;
    undo = λ u e s l.
        parity-cong n (λ j h. ap (λ b. b && product n G (uses rs) j s) (tabulate-at n (word_by F rs u) j false h ∙ word_rows u e j))
        ∙ inverse-undoes n (row F rs) (product n G (uses rs)) row-inverse (bit u) s l;
  }

  pub related-redo : UndoneBy unrelated related
  related-redo = record {
    back = refl;
    there = refl;
    undo = λ c e j l.
        word_rows (tabulate n (unrelated.word c)) (length-tabulate n _) j
        ∙ parity-cong n (λ s h. ap (λ b. b && row F rs s j) (tabulate-at n (unrelated.word c) s false h))
        ∙ inverse-undoes n (product n G (uses rs)) (row F rs) inverse-row (bit c) j l;
  }

  -- The symbols of a word, by that matrix.
  pub symbols-product : (c : List Bool) → length c ≡ n → (s : ℕ) → s < n
      → bit (symbols_in related c) s ≡ parity n (λ j. bit c j && product n G (uses rs) j s)
  symbols-product c e s l = ap (λ u. bit u s) (symbols-are related unrelated related-undo related-redo c e) ∙ tabulate-at n (unrelated.word c) s false l
