use mathlib.Core.Path.{◌≡◌}
use lib.ListN.{get_or}
use Rattle.base.proofs.List.{filled}
use Rattle.kernel.specs.Rows.{row_sum}
use Rattle.grid.proofs.inner_stage.Given as goal

abbrev pub invariant-loop-row : goal.invariant-loop-row
invariant-loop-row l = l.rows ≡ filled (λ q. row_sum l.table (get_or l.initial.rows q 0)) l.row-index l.initial.rows
