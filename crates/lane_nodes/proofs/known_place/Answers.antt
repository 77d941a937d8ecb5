-- `lane_nodes::known_place` meets its contract: the lanes below l are folded. Assumes nothing.
use mathlib.Core.Path.{ap}
use mathlib.Core.List.{[], ◌∷◌}
use Prim.Native.Nat.{◌<◌}
use borrow.Author.Rules.{rules}
use lib.ListN.{get_or}
use Rattle.folds.proofs.Fill.{fill-both}
use Rattle.folds.proofs.Pairs.{known-pays}
use Rattle.lane.specs.Lanes.{lane_bit, lane_costs}
use Rattle.lane_nodes.proofs.Places.{read-within}
use Rattle.lane_nodes.proofs.known_place.Goals as goal

pub known-r-requires : goal.known-r-requires
known-r-requires c =
    let a = c.args in
    let p = read-within 16383 a.p.now _ _ _ c.at.ensures c.requires.1 (search rules) in
    let q = read-within 16383 a.q.now _ _ _ c.at-in-loop-l.ensures c.requires.2 (search rules) in
    (p.0, p.1, q.0, q.1)

pub loop-l-preserved : goal.loop-l-preserved
loop-l-preserved c =
    let k = c.loop-l in
    let a = c.args in
    let m = lane_costs (a.p.now ∷ a.q.now ∷ []) k.l in
    let ll : k.l < 16 = search rules in
    let e = c.has.ensures k.l ll (ap (λ f. get_or f k.l 0) c.requires.0) in
    let r = known-pays 1 0 m _ _ _ _ _ _ c.at.ensures c.at-in-loop-l.ensures (λ _. lane_bit a.plane k.l) _ e c.known-r.ensures.0 c.known-r.ensures.1 in
    fill-both 0 16 k.l _ k.out k.invariant _ _ ll r.0 r.1
