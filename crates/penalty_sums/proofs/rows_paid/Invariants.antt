use mathlib.Core.List.{[]}
use Prim.Native.Nat.{ℕ, ◌+◌, ◌<◌}
use lib.ListN.{get_or}
use Rattle.penalty_sums.specs.Paid.{RowPaid}
use Rattle.penalty_sums.proofs.rows_paid.Given as goal

abbrev pub invariant-loop-i : goal.invariant-loop-i
invariant-loop-i l = ((k : ℕ) → k < l.i → RowPaid l.scores l.symbols (l.first + k) (get_or l.out k []))
