use Rattle.lane_moves.proofs.Planes.{Planed}
use Rattle.lane_moves.proofs.planes_of.Given as goal

abbrev pub invariant-loop-l : goal.invariant-loop-l
invariant-loop-l l = Planed l.words l.l l.planes
