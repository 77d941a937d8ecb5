use Rattle.base.specs.Bit.{bit}
use Rattle.bits.specs.Packed.{bits}
use Rattle.lane.specs.Lanes.{node_costs}
use Rattle.lane_paths.proofs.Filling.{Filled}
use Rattle.lane_paths.proofs.two_folds.Given as goal

abbrev pub invariant-loop-l : goal.invariant-loop-l
invariant-loop-l g l = Filled l.l (λ ll. g.B.Fold.onto l.second ll 2 (g.A.Fold.onto l.first ll 4 (node_costs l.nodes (bit (bits 16 l.other)) ll))) l.out
