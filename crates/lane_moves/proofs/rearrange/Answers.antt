-- `lane_moves::rearrange` meets its contract: the first t entries are moved. Assumes nothing.
use Rattle.lane_moves.specs.Moves.{MovedRow}
use Rattle.lane_moves.proofs.Places.{replaced-within, twice-within}
use Rattle.lane_moves.proofs.rearrange.Goals as goal

pub returns-clause-within : goal.returns-clause-within
returns-clause-within c =
    let k = c.loop-t in
    let a = c.args in
    λ m. replaced-within (λ _ _. MovedRow a.from.now) a.rows.now k.t k.rows m k.invariant (λ i b p q _ e w. twice-within m _ q e (λ l ll. w _ (c.requires.1 l ll)))
