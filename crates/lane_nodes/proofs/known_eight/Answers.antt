-- `lane_nodes::known_eight` meets its contract: the first j places are folded, and the others where asked for. Assumes nothing.
use Prim.Native.Nat.{◌<◌}
use borrow.Author.Rules.{rules}
use Rattle.lane_nodes.proofs.Places.{known-one, known_both}
use Rattle.lane_nodes.proofs.known_eight.Goals as goal
use Rattle.lane_nodes.proofs.known_eight.Goals.{else-both, then-both}

pub loop-j-preserved : goal.loop-j-preserved
loop-j-preserved c =
    let k = c.loop-j in
    let a = c.args in
    let lj : k.j < 8 = search rules in
    elim c.if-both.branch [
      | then-both w ↦ known_both a.words.now a.costs.now a.both a.out.now k.j lj k.out k.invariant _ c.known_place.ensures _ w.known_place-then-both.ensures c.if-both.out w.out-is
      | else-both w ↦ known-one a.words.now a.costs.now a.both a.out.now k.j lj k.out k.invariant _ c.known_place.ensures w.if-both.false c.if-both.out w.out-is
    ]
