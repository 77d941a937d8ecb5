-- The constant windows fix their phases and are smallest, by one computed test for each kernel. Assumes nothing.
use mathlib.Core.Path.{◌≡◌, refl}
use mathlib.Core.Bool.{true}
use Prim.Native.Nat.{ℕ, zero, suc, ◌≤◌}
use native.Mathlib.Omega.{arith}
use borrow.Author.Tests.{leb-true}
use lib.Dec.{leb}
use lib.ListN.{length, take}
use Rattle.base.specs.Bit.{tabulate, parity, every}
use Rattle.base.proofs.Bool.{every-at, same_table}
use Rattle.polar.specs.Window.{reach, height, IsWindow}
use Rattle.polar.proofs.Matrix.{inverse_test}
use Rattle.polar.proofs.Relation.{names, uses, within, all_within, solves_test}
use Rattle.polar.proofs.Window.{Windowed, window_test, windowed-by, is-window}
use Rattle.kernel.specs.Kernels.{relations}
use Rattle.windows.specs.Windows.{windows, window, solutions, solution}

tested : (k : ℕ) → every 17 (λ i. window_test (take i (relations k)) (window k i) (solution k i)) ≡ true
unfolding window_test solves_test height reach all_within within inverse_test same_table every parity uses names relations windows solutions tabulate
tested zero = refl
tested (suc zero) = refl
tested (suc (suc k)) = refl

-- The window after i symbols, solved.
pub windowed : (k i : ℕ) → i ≤ 16 → Windowed (take i (relations k)) (window k i) (solution k i)
windowed k i l =
    windowed-by (take i (relations k)) (window k i) (solution k i)
    (every-at 17 (λ i. window_test (take i (relations k)) (window k i) (solution k i)) (tested k) i (omega arith))

-- Each constant window is a decoding window: it fixes its symbols, and no smaller set does.
pub window-is : (k i : ℕ) → i ≤ 16 → IsWindow (take i (relations k)) (window k i)
window-is k i l = is-window (take i (relations k)) (window k i) (solution k i) (windowed k i l)

-- How many members the windows of each kernel have at most.
abbrev pub widest : ℕ → ℕ
widest zero = 0
widest (suc zero) = 4
widest (suc (suc k)) = 3

small : (k : ℕ) → every 17 (λ i. leb (length (window k i)) (widest k)) ≡ true
unfolding every windows
small zero = refl
small (suc zero) = refl
small (suc (suc k)) = refl

pub window-size : (k i : ℕ) → i ≤ 16 → length (window k i) ≤ widest k
window-size k i l = leb-true (length (window k i)) (widest k) (every-at 17 (λ i. leb (length (window k i)) (widest k)) (small k) i (omega arith))
