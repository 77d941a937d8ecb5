-- The rows of kernel 2's wide window, one from the other: v3 is known. Assumes nothing.
use mathlib.Core.Bool.{Bool, false}
use mathlib.Core.List.{List, [], ◌∷◌}
use Prim.Native.Nat.{ℕ}
use lib.IntN.{ℤ}
use Rattle.folds.specs.Rows.{row_of}
use Rattle.values.specs.Arikan.{arikan_word}
use Rattle.values.specs.Path.{value8, value9, value10, RowOf}
use Rattle.phase_scores.proofs.Tests.{path-word2}
use Rattle.phase_scores.specs.Quarter.{PlacesOf}
use Rattle.phase_scores.proofs.Block.{best}
use Rattle.phase_scores.proofs.Kernel2.{best2-8, best2-9, best2-10}
use Rattle.phase_scores.proofs.Window.{Added}
use Rattle.phase_scores.proofs.Window as window

module _ (ys : List ℤ) (v0 v1 v2 v3 v4 : Bool) (x : List ℤ) (h : PlacesOf ys (arikan_word 3 (v0 ∷ v1 ∷ v2 ∷ v3 ∷ v4 ∷ false ∷ false ∷ false ∷ [])) false x) where
  known : ℕ → Bool
  known = arikan_word 3 (v0 ∷ v1 ∷ v2 ∷ v3 ∷ v4 ∷ false ∷ false ∷ false ∷ [])

  -- The row of v8,
  pub row-eight : (row : List ℤ) (rows : List (List ℤ)) (v8 : Bool)
      → RowOf false (λ x y z. best ys (v0 ∷ v1 ∷ v2 ∷ v3 ∷ v4 ∷ x ∷ y ∷ z ∷ [])) row → Added (value8 x) row rows
      → RowOf false (best2-8 ys v0 v1 v2 v3 v4 v8) (row_of rows v8)
  unfolding known
  row-eight row rows v8 hr s = window.row-eight ys v0 v1 v2 v3 v4 known false (path-word2 v0 v1 v2 v3 v4) x h row rows hr s v8

  -- of u = v6 + v9,
  pub row-nine : (v8 : Bool) (row : List ℤ) (rows : List (List ℤ)) (u : Bool)
      → RowOf false (best2-8 ys v0 v1 v2 v3 v4 v8) row → Added (value9 x v8) row rows
      → RowOf false (best2-9 ys v0 v1 v2 v3 v4 v8 u) (row_of rows u)
  unfolding known
  row-nine v8 row rows u hr s = window.row-nine ys v0 v1 v2 v3 v4 known false (path-word2 v0 v1 v2 v3 v4) x h v8 row rows hr s u

  -- and of t = v5 + v6 + v10.
  pub row-ten : (v8 u : Bool) (row : List ℤ) (rows : List (List ℤ)) (t : Bool)
      → RowOf false (best2-9 ys v0 v1 v2 v3 v4 v8 u) row → Added (value10 x v8 u) row rows
      → RowOf false (best2-10 ys v0 v1 v2 v3 v4 v8 u t) (row_of rows t)
  unfolding known
  row-ten v8 u row rows t hr s = window.row-ten ys v0 v1 v2 v3 v4 known false (path-word2 v0 v1 v2 v3 v4) x h v8 u row rows hr s t
