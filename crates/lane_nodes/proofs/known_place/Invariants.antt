use mathlib.Core.List.{[], ◌∷◌}
use Rattle.polar.specs.Fold.{known_fold}
use Rattle.folds.proofs.Fill.{Filled}
use Rattle.lane.specs.Lanes.{lane_bit, lane_costs}
use Rattle.lane_nodes.proofs.known_place.Given as goal

abbrev pub invariant-loop-l : goal.invariant-loop-l
invariant-loop-l l = Filled 0 16 l.l (λ i. known_fold 1 (λ _. lane_bit l.plane i) (lane_costs (l.p ∷ l.q ∷ []) i) 0) l.out
