use Rattle.lane_moves.specs.Moves.{MovedRow}
use Rattle.lane_moves.proofs.Places.{Replaced}
use Rattle.lane_moves.proofs.rearrange.Given as goal

abbrev pub invariant-loop-t : goal.invariant-loop-t
invariant-loop-t z = Replaced (λ _ _. MovedRow z.from) z.initial.rows z.t z.rows
