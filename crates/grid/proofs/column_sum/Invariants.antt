use Prim.Native.Nat.{◌<◌, ◌^◌}
use Rattle.kernel.specs.Rows.{row_bit}
use Rattle.kernel.proofs.Rows.{Summed}
use Rattle.grid.proofs.column_sum.Given as goal

abbrev pub invariant-loop-r : goal.invariant-loop-r
invariant-loop-r l = (l.c < 2 ^ 16) × Summed l.rows (λ s. row_bit l.choosing s l.j) l.c l.r
