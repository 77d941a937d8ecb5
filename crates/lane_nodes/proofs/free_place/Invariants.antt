use mathlib.Core.List.{[], ◌∷◌}
use Rattle.polar.specs.Fold.{free_fold}
use Rattle.folds.proofs.Fill.{Filled}
use Rattle.lane.specs.Lanes.{lane_costs}
use Rattle.lane_nodes.proofs.free_place.Given as goal

abbrev pub invariant-loop-l : goal.invariant-loop-l
invariant-loop-l l = Filled 0 16 l.l (λ i. free_fold 1 (lane_costs (l.p ∷ l.q ∷ []) i) 0) l.out
