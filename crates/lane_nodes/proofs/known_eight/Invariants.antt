use Rattle.lane_nodes.proofs.Places.{KnownTo}
use Rattle.lane_nodes.proofs.known_eight.Given as goal

abbrev pub invariant-loop-j : goal.invariant-loop-j
invariant-loop-j l = KnownTo l.words l.costs l.both l.initial.out l.j l.out
