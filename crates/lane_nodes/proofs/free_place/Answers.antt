-- `lane_nodes::free_place` meets its contract. Assumes nothing.
use borrow.Author.Rules.{rules}
use Rattle.lane_nodes.proofs.Places.{read-within}
use Rattle.lane_nodes.proofs.free_place.Goals as goal

pub free-r-requires : goal.free-r-requires
free-r-requires c =
    let a = c.args in
    let p = read-within 16383 a.p.now _ _ _ c.at.ensures c.requires.0 (search rules) in
    let q = read-within 16383 a.q.now _ _ _ c.at-in-loop-l.ensures c.requires.1 (search rules) in
    (p.0, p.1, q.0, q.1)
