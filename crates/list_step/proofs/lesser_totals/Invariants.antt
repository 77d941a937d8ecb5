use mathlib.Core.Path.{◌≡◌}
use mathlib.Core.Bool.{true, false}
use Prim.Native.Nat.{ℕ, ◌+◌, ◌<◌, min}
use lib.ListN.{length, get_or}
use Rattle.folds.specs.Rows.{cell}
use Rattle.list_step.proofs.lesser_totals.Given as goal

abbrev pub invariant-loop-i : goal.invariant-loop-i
invariant-loop-i l = (length l.out ≡ 16) × ((j : ℕ) → j < l.i → get_or l.out j 0 ≡ min (cell 0 l.pair (l.first + j) false) (cell 0 l.pair (l.first + j) true))
