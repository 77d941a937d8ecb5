-- `lane_paths::last_fold` meets its contract: below lane l the rows are filled with the folded costs. Assumes nothing.
use mathlib.Core.Path.{◌∙◌}
use mathlib.Core.Bool.{true, false}
use Prim.Native.Nat.{◌<◌}
use native.Mathlib.Omega.{arith}
use borrow.Author.Rules.{rules}
use Rattle.folds.proofs.Fill.{fill-both}
use Rattle.lane_paths.specs.Places.{two_costs}
use Rattle.lane_paths.proofs.Turn.{lane-bit, turned-pays}
use Rattle.lane_paths.proofs.last_fold.Goals as goal

pub fold_pair-last-requires : goal.fold_pair-last-requires
fold_pair-last-requires g c =
    let l = c.loop-l.l in
    let ll : l < 16 = search rules in
    let most = c.requires.small in
    let p = c.of_two.ensures in
    let q = c.of_two-in-loop-l.ensures in
    (omega (arith, p.0, most 0 l false (omega arith) ll), omega (arith, p.1, most 0 l true (omega arith) ll), omega (arith, q.0, most 1 l false (omega arith) ll), omega (arith, q.1, most 1 l true (omega arith) ll))

pub loop-l-preserved : goal.loop-l-preserved
loop-l-preserved g c =
    let k = c.loop-l in
    let a = c.args in
    let ll : k.l < 16 = search rules in
    let m = two_costs a.two.now k.l in
    let own = lane-bit a.flags.now a.own k.l _ c.requires.lanes ll c.has.ensures in
    let last = c.fold_pair-last.ensures 1 0 m c.of_two.ensures c.of_two-in-loop-l.ensures in
    let r = turned-pays (g.A.Fold.onto a.fold.now k.l 1 m) 0 _ _ _ _ _ _ (last.0 ∙ c.bit.ensures 1 m false, last.1 ∙ c.bit.ensures 1 m true) own c.turned-r.ensures in
    fill-both 0 16 k.l _ k.out k.invariant _ _ ll r.0 r.1
