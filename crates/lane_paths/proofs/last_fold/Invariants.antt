use Rattle.base.specs.Bit.{◌⊕◌}
use Rattle.folds.proofs.Fill.{Filled}
use Rattle.lane.specs.Lanes.{lane_bit}
use Rattle.lane_paths.specs.Places.{two_costs}
use Rattle.lane_paths.proofs.last_fold.Given as goal

abbrev pub invariant-loop-l : goal.invariant-loop-l
invariant-loop-l g l = Filled 0 16 l.l (λ ll b. g.A.Fold.onto l.fold ll 1 (two_costs l.two ll) 0 (lane_bit l.own ll ⊕ b)) l.out
