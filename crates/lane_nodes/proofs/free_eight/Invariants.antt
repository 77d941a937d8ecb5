use Rattle.lane_nodes.proofs.Places.{free_nodes, Folded}
use Rattle.lane_nodes.proofs.free_eight.Given as goal

abbrev pub invariant-loop-j : goal.invariant-loop-j
invariant-loop-j l = Folded l.costs (free_nodes l.costs) l.initial.out l.j l.out
