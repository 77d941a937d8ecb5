use Rattle.list_run.proofs.Outer.{PairsSo}
use Rattle.list_run.proofs.row_costs.Given as goal

abbrev pub invariant-loop-i : goal.invariant-loop-i
invariant-loop-i l = PairsSo l.outer.kernel l.outer.costs.now l.r l.planes l.initial.held l.i l.held l.pairs
