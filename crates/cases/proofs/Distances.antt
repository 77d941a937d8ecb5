-- The table of partial distances holds, by one computed test over the three kernels. Assumes nothing.
use mathlib.Core.Path.{◌≡◌, refl, ◌∙◌}
use mathlib.Core.Bool.{Bool, true, false}
use Prim.Native.Nat.{ℕ, ◌<◌}
use native.Mathlib.Omega.{arith}
use borrow.Author.Tests.{eqb-true}
use lib.Dec.{eqb}
use lib.ListN.{get_or, replicate, length-replicate}
use Rattle.base.specs.Bit.{tabulate, parity, every}
use Rattle.base.proofs.Bool.{every-at}
use Rattle.bits.specs.Packed.{bits}
use Rattle.polar.specs.Kernel.{arikan}
use Rattle.polar.specs.Relation.{sum_of, symbols}
use Rattle.polar.specs.Fold.{folded, blocks}
use Rattle.polar.specs.Distance.{weight, partial_distance}
use Rattle.folds.specs.Rows.{least_to}
use Rattle.kernel.specs.Kernels.{kernel_code}
use Rattle.kernel.specs.Distances.{distance_table}
use Rattle.windows.specs.Windows.{windows, solutions}
use Rattle.cases.proofs.Computed.{path_by, least_by_paths, least_by}

unfoldable distance_test : ℕ → ℕ → Bool
distance_test k s = eqb (least_by_paths k weight (replicate s false) true) (get_or (distance_table k) s 0)

tested : every 3 (λ k. every 16 (distance_test k)) ≡ true
unfolding distance_test least_by_paths path_by least_to windows solutions every parity tabulate bits symbols sum_of folded blocks arikan
tested = refl

-- The table has the partial distances of the three kernels.
pub distance-table : (k s : ℕ) → k < 3 → s < 16 → partial_distance (kernel_code k) s ≡ get_or (distance_table k) s 0
unfolding partial_distance distance_test
distance-table k s lk ls =
    least_by k lk weight (replicate s false) (omega (arith, length-replicate s false)) true
    ∙ eqb-true _ _ (every-at 16 (distance_test k) (every-at 3 (λ k. every 16 (distance_test k)) tested k lk) s ls)
