-- `lane_nodes::free_eight` meets its contract: the first j places are folded. Assumes nothing.
use Prim.Native.Nat.{◌+◌}
use borrow.Author.Rules.{rules}
use Rattle.lane_nodes.proofs.Places.{free_nodes, none_within, folded-next, free-doubles}
use Rattle.lane_nodes.proofs.free_eight.Goals as goal

pub loop-j-preserved : goal.loop-j-preserved
loop-j-preserved c =
    let k = c.loop-j in
    let costs = c.args.costs.now in
    folded-next costs (free_nodes costs) (free-doubles costs) _ k.j (search rules) _ c.free_place.ensures k.out k.invariant

pub returns-clause-within : goal.returns-clause-within
returns-clause-within c = λ n w. c.loop-j.invariant.within n w (none_within (n + n))
