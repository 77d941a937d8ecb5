use mathlib.Core.Path.{◌≡◌}
use Prim.Native.Nat.{◌*◌}
use Rattle.base.proofs.List.{filled}
use Rattle.grid.proofs.Grid.{turned}
use Rattle.grid.proofs.stage_rows.Given as goal

abbrev pub invariant-loop-g : goal.invariant-loop-g
invariant-loop-g l = l.out ≡ filled (turned l.table (16 * l.s) l.from) (16 * l.g) l.initial.out
