use Prim.Native.Nat.{◌≤◌}
use lib.IntN.{pos, ◌+ℤ◌}
use lib.ListN.{get_or}
use Rattle.values.specs.Value.{gain}
use Rattle.folds.proofs.Fill.{Filled}
use Rattle.paths.proofs.added.Given as goal

abbrev pub invariant-loop-i : goal.invariant-loop-i
invariant-loop-i l = (l.i ≤ 8) × Filled (pos 0) 8 l.i (λ j b. get_or l.kept j (pos 0) +ℤ gain (get_or l.values j (pos 0)) b) l.rows
