use Rattle.polar.specs.Code.{channel}
use Rattle.folds.proofs.Fill.{Filled}
use Rattle.folds.proofs.cost_rows.Given as goal

abbrev pub invariant-loop-i : goal.invariant-loop-i
invariant-loop-i l = Filled 0 16 l.i (channel l.values) l.out
