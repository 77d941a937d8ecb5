-- The relations solved, by computed products: the three kernels are invertible. Assumes nothing.
use mathlib.Core.Path.{◌≡◌, refl}
use mathlib.Core.Bool.{true}
use mathlib.Core.List.{List, [], ◌∷◌}
use Prim.Native.Nat.{ℕ, zero, suc}
use Rattle.base.specs.Bit.{parity, every}
use Rattle.base.proofs.Bool.{same_table}
use Rattle.polar.specs.Kernel.{arikan, product, Inverse, Invertible}
use Rattle.polar.specs.Relation.{Relation}
use Rattle.polar.proofs.Matrix.{inverse_test, tested}
use Rattle.polar.proofs.Relation.{names, uses, within, all_within, solves_test, solves-by, Solution, row-inverse, inverse-row}
use Rattle.kernel.specs.Kernels.{F, relations, kernel}

-- The relations solved: v0 to v15 as sums of the symbols.
unfoldable pub solved : ℕ → List Relation
solved zero = relations zero
solved (suc zero) =
    (0 ∷ []) ∷ (1 ∷ []) ∷ (2 ∷ []) ∷ (7 ∷ []) ∷ (3 ∷ []) ∷ (6 ∷ 9 ∷ 10 ∷ []) ∷ (9 ∷ []) ∷ (11 ∷ [])
    ∷ (4 ∷ []) ∷ (5 ∷ 9 ∷ []) ∷ (10 ∷ []) ∷ (12 ∷ []) ∷ (8 ∷ []) ∷ (13 ∷ []) ∷ (14 ∷ []) ∷ (15 ∷ []) ∷ []
solved (suc (suc k)) =
    (0 ∷ []) ∷ (1 ∷ []) ∷ (2 ∷ []) ∷ (3 ∷ []) ∷ (4 ∷ []) ∷ (7 ∷ 8 ∷ 9 ∷ []) ∷ (8 ∷ []) ∷ (10 ∷ [])
    ∷ (5 ∷ []) ∷ (6 ∷ 8 ∷ []) ∷ (9 ∷ []) ∷ (11 ∷ []) ∷ (12 ∷ []) ∷ (13 ∷ []) ∷ (14 ∷ []) ∷ (15 ∷ []) ∷ []

-- F is its own inverse.
pub F-inverse : Inverse 16 F F
unfolding arikan inverse_test same_table every parity
F-inverse = tested 16 F F refl

-- Relations and solved solve one another: one computed test for each kernel and direction.
there : (k : ℕ) → solves_test 16 (relations k) (solved k) ≡ true
unfolding solves_test relations solved all_within within inverse_test same_table every parity uses names
there zero = refl
there (suc zero) = refl
there (suc (suc k)) = refl

back : (k : ℕ) → solves_test 16 (solved k) (relations k) ≡ true
unfolding solves_test relations solved all_within within inverse_test same_table every parity uses names
back zero = refl
back (suc zero) = refl
back (suc (suc k)) = refl

pub solution : (k : ℕ) → Solution 16 F F (relations k) (solved k)
solution k = record {
  solves = solves-by 16 (relations k) (solved k) (there k);
  solved = solves-by 16 (solved k) (relations k) (back k);
  right = F-inverse;
  left = F-inverse;
}

-- The three kernels are instances of the theory.
unfoldable pub invertible : (k : ℕ) → Invertible (kernel k)
invertible k = record {
  inverse = product 16 F (uses (relations k));
  right = row-inverse 16 F F (relations k) (solved k) (solution k);
  left = inverse-row 16 F F (relations k) (solved k) (solution k);
}
