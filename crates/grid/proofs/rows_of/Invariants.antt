use mathlib.Core.Path.{◌≡◌}
use Rattle.base.proofs.List.{filled}
use Rattle.grid.specs.Grid.{byte_row}
use Rattle.grid.proofs.rows_of.Given as goal

abbrev pub invariant-loop-r : goal.invariant-loop-r
invariant-loop-r l = l.out ≡ filled (byte_row l.bytes) l.r l.initial.out
