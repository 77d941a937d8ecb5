-- One of kernel 1's two blocks of eight paths, that of o = v3: what its rows hold, phase by phase, and that they have room. Assumes nothing.
use mathlib.Core.Path.{◌≡◌, sym, ap, subst}
use mathlib.Core.Bool.{Bool, false}
use mathlib.Core.List.{List, [], ◌∷◌}
use Prim.Native.Nat.{ℕ}
use lib.IntN.{ℤ}
use lib.ListN.{length, get_or}
use mir.Val.{bool_byte}
use Rattle.base.specs.Bit.{◌⊕◌, bit}
use Rattle.folds.specs.Range.{value_limit, first_outside}
use Rattle.folds.specs.Rows.{row_of}
use Rattle.windows.proofs.Following.{byte-digit}
use Rattle.values.specs.Value.{Small}
use Rattle.values.specs.Arikan.{arikan_word, best_v}
use Rattle.values.specs.Path.{value8, value9, value10, value11, value12, RowOf}
use Rattle.phase_scores.proofs.Tests.{path-word1}
use Rattle.phase_scores.specs.Quarter.{PlacesOf}
use Rattle.phase_scores.proofs.Block.{AfterOf}
use Rattle.phase_scores.proofs.Window.{Added, row-eight, row-nine, row-ten, row-eleven, row-twelve}
use Rattle.quarters.proofs.Rows.{row_small}

-- Two rows: for each bit b the best scores of the words that begin with P b and a path's v5, v6 and v7.
pub record Rows (ys : List ℤ) (o : Bool) (P : Bool → Bool → Bool → Bool → List Bool) (rows : List (List ℤ)) : Type 0 where
  pub holds : (b : Bool) → RowOf o (λ x y z. best_v ys (P b x y z)) (row_of rows b)
  pub small : (b : Bool) → Small 16777216 8 (row_of rows b)

module _ {ys : List ℤ} {o : Bool} {P : Bool → Bool → Bool → Bool → List Bool} {rows : List (List ℤ)} (h : Rows ys o P rows) (b : Bool) where
  -- The row that the code chooses by a bit.
  chosen : row_of rows b ≡ get_or rows (bool_byte b) []
  chosen = ap (λ n. get_or rows n []) (sym (byte-digit b))

  pub kept : RowOf o (λ x y z. best_v ys (P b x y z)) (get_or rows (bool_byte b) [])
  kept = subst (λ row. RowOf o (λ x y z. best_v ys (P b x y z)) row) chosen (h.holds b)

  pub kept_small : Small 16777216 8 (get_or rows (bool_byte b) [])
  kept_small = subst (λ row. Small 16777216 8 row) chosen (h.small b)

-- The word of the v that both blocks know.
abbrev pub known1 : Bool → Bool → Bool → Bool → ℕ → Bool
known1 v0 v1 v2 v4 = arikan_word 3 (v0 ∷ v1 ∷ v2 ∷ false ∷ v4 ∷ false ∷ false ∷ false ∷ [])

-- The v of a path up to v7, v8, v9, v10, v11 and v12, by u = v6 + v9 and t = v5 + v6 + v10.
abbrev pub upto7 : Bool → Bool → Bool → Bool → Bool → Bool → Bool → Bool → List Bool
upto7 v0 v1 v2 v4 o x y z = v0 ∷ v1 ∷ v2 ∷ o ∷ v4 ∷ x ∷ y ∷ z ∷ []

abbrev pub upto8 : Bool → Bool → Bool → Bool → Bool → Bool → Bool → Bool → Bool → List Bool
upto8 v0 v1 v2 v4 o v8 x y z = v0 ∷ v1 ∷ v2 ∷ o ∷ v4 ∷ x ∷ y ∷ z ∷ v8 ∷ []

abbrev pub upto9 : Bool → Bool → Bool → Bool → Bool → Bool → Bool → Bool → Bool → Bool → List Bool
upto9 v0 v1 v2 v4 o v8 u x y z = v0 ∷ v1 ∷ v2 ∷ o ∷ v4 ∷ x ∷ y ∷ z ∷ v8 ∷ (u ⊕ y) ∷ []

abbrev pub upto10 : Bool → Bool → Bool → Bool → Bool → Bool → Bool → Bool → Bool → Bool → Bool → List Bool
upto10 v0 v1 v2 v4 o v8 u t x y z = v0 ∷ v1 ∷ v2 ∷ o ∷ v4 ∷ x ∷ y ∷ z ∷ v8 ∷ (u ⊕ y) ∷ (t ⊕ (x ⊕ y)) ∷ []

abbrev pub upto11 : Bool → Bool → Bool → Bool → Bool → Bool → Bool → Bool → Bool → Bool → Bool → Bool → List Bool
upto11 v0 v1 v2 v4 o v8 u t v11 x y z = v0 ∷ v1 ∷ v2 ∷ o ∷ v4 ∷ x ∷ y ∷ z ∷ v8 ∷ (u ⊕ y) ∷ (t ⊕ (x ⊕ y)) ∷ v11 ∷ []

abbrev pub upto12 : Bool → Bool → Bool → Bool → Bool → Bool → Bool → Bool → Bool → Bool → Bool → Bool → Bool → List Bool
upto12 v0 v1 v2 v4 o v8 u t v11 v12 x y z = v0 ∷ v1 ∷ v2 ∷ o ∷ v4 ∷ x ∷ y ∷ z ∷ v8 ∷ (u ⊕ y) ∷ (t ⊕ (x ⊕ y)) ∷ v11 ∷ v12 ∷ []

module _ (ys : List ℤ) (e : length ys ≡ 16) (f : first_outside value_limit ys ≡ 16) (v0 v1 v2 v4 o : Bool) where
  -- Rows that hold best scores have room.
  rows_of : (P : Bool → Bool → Bool → Bool → List Bool) (rows : List (List ℤ)) → ((b : Bool) → RowOf o (λ x y z. best_v ys (P b x y z)) (row_of rows b)) → Rows ys o P rows
  rows_of P rows h = record { holds = h; small = λ b. row_small ys e f o (P b) (row_of rows b) (h b) }

  module _ (x : List ℤ) (hx : PlacesOf ys (known1 v0 v1 v2 v4) o x) where
    -- The phase of v8,
    pub eight : (row : List ℤ) (rows : List (List ℤ)) → RowOf o (λ x y z. best_v ys (upto7 v0 v1 v2 v4 o x y z)) row → Added (value8 x) row rows
        → Rows ys o (upto8 v0 v1 v2 v4 o) rows
    eight row rows hr s =
        rows_of (upto8 v0 v1 v2 v4 o) rows (row-eight ys v0 v1 v2 o v4 (known1 v0 v1 v2 v4) o (path-word1 v0 v1 v2 o v4) x hx row rows hr s)

    -- of u,
    pub nine : (v8 : Bool) (before rows : List (List ℤ)) → Rows ys o (upto8 v0 v1 v2 v4 o) before → Added (value9 x v8) (get_or before (bool_byte v8) []) rows
        → Rows ys o (upto9 v0 v1 v2 v4 o v8) rows
    nine v8 before rows h s =
        rows_of (upto9 v0 v1 v2 v4 o v8) rows
        (row-nine ys v0 v1 v2 o v4 (known1 v0 v1 v2 v4) o (path-word1 v0 v1 v2 o v4) x hx v8 (get_or before (bool_byte v8) []) rows (kept h v8) s)

    -- of t,
    pub ten : (v8 u : Bool) (before rows : List (List ℤ)) → Rows ys o (upto9 v0 v1 v2 v4 o v8) before → Added (value10 x v8 u) (get_or before (bool_byte u) []) rows
        → Rows ys o (upto10 v0 v1 v2 v4 o v8 u) rows
    ten v8 u before rows h s =
        rows_of (upto10 v0 v1 v2 v4 o v8 u) rows
        (row-ten ys v0 v1 v2 o v4 (known1 v0 v1 v2 v4) o (path-word1 v0 v1 v2 o v4) x hx v8 u (get_or before (bool_byte u) []) rows (kept h u) s)

    -- of v11,
    pub eleven : (v8 u t : Bool) (row : List ℤ) (rows : List (List ℤ)) → RowOf o (λ x y z. best_v ys (upto10 v0 v1 v2 v4 o v8 u t x y z)) row → Added (value11 x v8 u t) row rows
        → Rows ys o (upto11 v0 v1 v2 v4 o v8 u t) rows
    eleven v8 u t row rows hr s =
        rows_of (upto11 v0 v1 v2 v4 o v8 u t) rows
        (row-eleven ys v0 v1 v2 o v4 (known1 v0 v1 v2 v4) o (path-word1 v0 v1 v2 o v4) x hx v8 u t row rows hr s)

  -- and of v12 for one v11.
  pub twelve : (v8 u t v11 : Bool) (x : List ℤ) → AfterOf ys (known1 v0 v1 v2 v4) o (bit (((v8 ⊕ u) ⊕ t) ∷ u ∷ t ∷ false ∷ [])) v11 x
      → (before rows : List (List ℤ)) → Rows ys o (upto11 v0 v1 v2 v4 o v8 u t) before → Added (value12 x) (row_of before v11) rows
      → Rows ys o (upto12 v0 v1 v2 v4 o v8 u t v11) rows
  twelve v8 u t v11 x hx before rows h s =
      rows_of (upto12 v0 v1 v2 v4 o v8 u t v11) rows
      (row-twelve ys v0 v1 v2 o v4 (known1 v0 v1 v2 v4) o (path-word1 v0 v1 v2 o v4) v8 u t v11 x hx (row_of before v11) rows (h.holds v11) s)
