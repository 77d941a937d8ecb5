use mathlib.Core.Path.{◌≡◌}
use Prim.Native.Nat.{◌*◌}
use Rattle.base.proofs.List.{filled}
use Rattle.grid.specs.Grid.{byte_of}
use Rattle.grid.proofs.store_rows.Given as goal

abbrev pub invariant-loop-r : goal.invariant-loop-r
invariant-loop-r l = l.out ≡ filled (byte_of l.rows) (2 * l.r) l.initial.out
