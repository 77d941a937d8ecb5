-- The greater of two rows of paths, place by place, and kernel 1's score of v12 by the rows of both v11. Assumes nothing.
use mathlib.Core.Path.{◌≡◌, ap₂, ◌∙◌}
use mathlib.Core.Bool.{Bool, true, false}
use mathlib.Core.List.{List, [], ◌∷◌}
use Prim.Native.Nat.{ℕ, ◌<◌}
use lib.IntN.{ℤ, pos, ◌-ℤ◌}
use lib.ListN.{get_or}
use Rattle.base.specs.Bit.{tabulate}
use Rattle.base.proofs.List.{tabulate-at}
use Rattle.polar.specs.Code.{channel, score}
use Rattle.kernel.specs.Kernels.{kernel_code}
use Rattle.values.specs.Value.{greater}
use Rattle.values.specs.Path.{path_number, row_best, RowOf}
use Rattle.values.proofs.Numbers.{path-below}
use Rattle.paths.proofs.Best.{row-greater}
use Rattle.phase_scores.proofs.Kernel1.{best1-11, best1-12, score1-8}

-- Each entry of m is the greater of those of a and b.
abbrev pub GreaterOf : List ℤ → List ℤ → List ℤ → Type 0
GreaterOf a b m = (i : ℕ) → i < 8 → get_or m i (pos 0) ≡ greater (get_or a i (pos 0)) (get_or b i (pos 0))

pub greater-row : (o : Bool) (F G : Bool → Bool → Bool → ℤ) (a b m : List ℤ) → GreaterOf a b m → RowOf o F a → RowOf o G b → RowOf o (λ x y z. greater (F x y z) (G x y z)) m
greater-row o F G a b m h ha hb d g c = h (path_number d g c) (path-below d g c) ∙ ap₂ greater (ha d g c) (hb d g c)

-- There is such a row.
both : List ℤ → List ℤ → List ℤ
both a b = tabulate 8 (λ i. greater (get_or a i (pos 0)) (get_or b i (pos 0)))

both_is : (a b : List ℤ) → GreaterOf a b (both a b)
unfolding both
both_is a b i l = tabulate-at 8 (λ i. greater (get_or a i (pos 0)) (get_or b i (pos 0))) i (pos 0) l

-- Phase 8: the greatest over both v11, less with v12 = 1 than with v12 = 0.
module _ (ys : List ℤ) (v0 v1 v2 v4 v8 u t v3 : Bool) where
  pub score-twelve : (z0 z1 o0 o1 : List ℤ)
      → RowOf v3 (best1-12 ys v0 v1 v2 v3 v4 v8 u t false false) z0 → RowOf v3 (best1-12 ys v0 v1 v2 v3 v4 v8 u t true false) z1
      → RowOf v3 (best1-12 ys v0 v1 v2 v3 v4 v8 u t false true) o0 → RowOf v3 (best1-12 ys v0 v1 v2 v3 v4 v8 u t true true) o1
      → score (kernel_code 1) (channel ys) (v0 ∷ v1 ∷ v2 ∷ v4 ∷ v8 ∷ u ∷ t ∷ v3 ∷ []) ≡ greater (row_best z0) (row_best o0) -ℤ greater (row_best z1) (row_best o1)
  score-twelve z0 z1 o0 o1 hz0 hz1 ho0 ho1 =
      score1-8 ys v0 v1 v2 v4 v8 u t v3 (both z0 o0) (both z1 o1) (row false z0 o0 hz0 ho0) (row true z1 o1 hz1 ho1)
      ∙ ap₂ ◌-ℤ◌ (row-greater (both z0 o0) z0 o0 (both_is z0 o0)) (row-greater (both z1 o1) z1 o1 (both_is z1 o1))
    where
      row : (v12 : Bool) (a b : List ℤ) → RowOf v3 (best1-12 ys v0 v1 v2 v3 v4 v8 u t v12 false) a → RowOf v3 (best1-12 ys v0 v1 v2 v3 v4 v8 u t v12 true) b
          → RowOf v3 (best1-11 ys v0 v1 v2 v3 v4 v8 u t v12) (both a b)
      row v12 a b = greater-row v3 (best1-12 ys v0 v1 v2 v3 v4 v8 u t v12 false) (best1-12 ys v0 v1 v2 v3 v4 v8 u t v12 true) a b (both a b) (both_is a b)
