-- The rows of a wide window, one from the other, whether v3 is known or free. Assumes nothing.
use mathlib.Core.Path.{◌≡◌, sym, ap, ◌∙◌}
use mathlib.Core.Bool.{Bool, false}
use mathlib.Core.List.{List, [], ◌∷◌}
use Prim.Native.Nat.{ℕ, ◌<◌}
use lib.IntN.{ℤ, ◌+ℤ◌}
use Rattle.base.specs.Bit.{◌⊕◌, bit}
use Rattle.folds.specs.Rows.{row_of}
use Rattle.values.specs.Value.{gain}
use Rattle.values.specs.Arikan.{arikan_word}
use Rattle.values.specs.Path.{path_bits, value8, value9, value10, value11, value12, entry, RowOf}
use Rattle.phase_scores.specs.Quarter.{PlacesOf}
use Rattle.phase_scores.proofs.Block.{best, AfterOf, eighth, ninth, tenth, eleventh, twelfth}
use Rattle.phase_scores.proofs.Kernel2.{best2-8, best2-9, best2-10}
use Rattle.phase_scores.proofs.Kernel1.{best1-12}

-- Both rows of a phase: what its values add to the entries of the row before it.
abbrev pub Added : (Bool → Bool → Bool → ℤ) → List ℤ → List (List ℤ) → Type 0
Added val row rows = (b d g a : Bool) → entry (row_of rows b) d g a ≡ entry row d g a +ℤ gain (val d g a) b

-- What the row before holds, and what the phase adds to it for this symbol.
added-to : (o : Bool) (val F G : Bool → Bool → Bool → ℤ) (row : List ℤ) (rows : List (List ℤ)) (b : Bool) → RowOf o F row → Added val row rows
    → ((d g a : Bool) → G g d (((a ⊕ d) ⊕ g) ⊕ o) ≡ F g d (((a ⊕ d) ⊕ g) ⊕ o) +ℤ gain (val d g a) b)
    → RowOf o G (row_of rows b)
added-to o val F G row rows b h s e d g a = s b d g a ∙ ap (λ z. z +ℤ gain (val d g a) b) (h d g a) ∙ sym (e d g a)

module _ (ys : List ℤ) (v0 v1 v2 v3 v4 : Bool) (w : ℕ → Bool) (o : Bool)
    (word : (d g a : Bool) (j : ℕ) → j < 8 → arikan_word 3 (v0 ∷ v1 ∷ v2 ∷ v3 ∷ v4 ∷ g ∷ d ∷ (((a ⊕ d) ⊕ g) ⊕ o) ∷ []) j ≡ w j ⊕ path_bits o d g a j) where
  module _ (x : List ℤ) (h : PlacesOf ys w o x) where
    -- The row of v8,
    pub row-eight : (row : List ℤ) (rows : List (List ℤ))
        → RowOf o (λ x y z. best ys (v0 ∷ v1 ∷ v2 ∷ v3 ∷ v4 ∷ x ∷ y ∷ z ∷ [])) row → Added (value8 x) row rows
        → (v8 : Bool) → RowOf o (best2-8 ys v0 v1 v2 v3 v4 v8) (row_of rows v8)
    row-eight row rows hr s v8 =
        added-to o (value8 x) (λ x y z. best ys (v0 ∷ v1 ∷ v2 ∷ v3 ∷ v4 ∷ x ∷ y ∷ z ∷ [])) (best2-8 ys v0 v1 v2 v3 v4 v8) row rows v8 hr s
        (λ d g a. eighth ys v0 v1 v2 v3 v4 d g a (((a ⊕ d) ⊕ g) ⊕ o) w o (word d g a) x h v8)

    -- of u = v6 + v9,
    pub row-nine : (v8 : Bool) (row : List ℤ) (rows : List (List ℤ))
        → RowOf o (best2-8 ys v0 v1 v2 v3 v4 v8) row → Added (value9 x v8) row rows
        → (u : Bool) → RowOf o (best2-9 ys v0 v1 v2 v3 v4 v8 u) (row_of rows u)
    row-nine v8 row rows hr s u =
        added-to o (value9 x v8) (best2-8 ys v0 v1 v2 v3 v4 v8) (best2-9 ys v0 v1 v2 v3 v4 v8 u) row rows u hr s
        (λ d g a. ninth ys v0 v1 v2 v3 v4 d g a (((a ⊕ d) ⊕ g) ⊕ o) w o (word d g a) x h v8 u)

    -- of t = v5 + v6 + v10,
    pub row-ten : (v8 u : Bool) (row : List ℤ) (rows : List (List ℤ))
        → RowOf o (best2-9 ys v0 v1 v2 v3 v4 v8 u) row → Added (value10 x v8 u) row rows
        → (t : Bool) → RowOf o (best2-10 ys v0 v1 v2 v3 v4 v8 u t) (row_of rows t)
    row-ten v8 u row rows hr s t =
        added-to o (value10 x v8 u) (best2-9 ys v0 v1 v2 v3 v4 v8 u) (best2-10 ys v0 v1 v2 v3 v4 v8 u t) row rows t hr s
        (λ d g a. tenth ys v0 v1 v2 v3 v4 d g a (((a ⊕ d) ⊕ g) ⊕ o) w o (word d g a) x h v8 u t)

    -- of v11,
    pub row-eleven : (v8 u t : Bool) (row : List ℤ) (rows : List (List ℤ))
        → RowOf o (best2-10 ys v0 v1 v2 v3 v4 v8 u t) row → Added (value11 x v8 u t) row rows
        → (v11 : Bool) → RowOf o (λ x y z. best ys (v0 ∷ v1 ∷ v2 ∷ v3 ∷ v4 ∷ x ∷ y ∷ z ∷ v8 ∷ (u ⊕ y) ∷ (t ⊕ (x ⊕ y)) ∷ v11 ∷ [])) (row_of rows v11)
    row-eleven v8 u t row rows hr s v11 =
        added-to o (value11 x v8 u t) (best2-10 ys v0 v1 v2 v3 v4 v8 u t) (λ x y z. best ys (v0 ∷ v1 ∷ v2 ∷ v3 ∷ v4 ∷ x ∷ y ∷ z ∷ v8 ∷ (u ⊕ y) ∷ (t ⊕ (x ⊕ y)) ∷ v11 ∷ [])) row rows v11 hr s
        (λ d g a. eleventh ys v0 v1 v2 v3 v4 d g a (((a ⊕ d) ⊕ g) ⊕ o) w o (word d g a) x h v8 u t v11)

  -- and of v12.
  pub row-twelve : (v8 u t v11 : Bool) (x : List ℤ) → AfterOf ys w o (bit (((v8 ⊕ u) ⊕ t) ∷ u ∷ t ∷ false ∷ [])) v11 x → (row : List ℤ) (rows : List (List ℤ))
      → RowOf o (λ x y z. best ys (v0 ∷ v1 ∷ v2 ∷ v3 ∷ v4 ∷ x ∷ y ∷ z ∷ v8 ∷ (u ⊕ y) ∷ (t ⊕ (x ⊕ y)) ∷ v11 ∷ [])) row → Added (value12 x) row rows
      → (v12 : Bool) → RowOf o (best1-12 ys v0 v1 v2 v3 v4 v8 u t v12 v11) (row_of rows v12)
  row-twelve v8 u t v11 x h row rows hr s v12 =
      added-to o (value12 x) (λ x y z. best ys (v0 ∷ v1 ∷ v2 ∷ v3 ∷ v4 ∷ x ∷ y ∷ z ∷ v8 ∷ (u ⊕ y) ∷ (t ⊕ (x ⊕ y)) ∷ v11 ∷ [])) (best1-12 ys v0 v1 v2 v3 v4 v8 u t v12 v11) row rows v12 hr s
      (λ d g a. twelfth ys v0 v1 v2 v3 v4 d g a (((a ⊕ d) ⊕ g) ⊕ o) w o (word d g a) v8 u t v11 x h v12)
