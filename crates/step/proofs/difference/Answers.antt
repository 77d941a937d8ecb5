-- `step::difference` meets its contract: both greatest scores are small, so their difference fits. Assumes nothing.
use Rattle.windows.proofs.Edges.{less-fits, zero-small, one-small, is-difference}
use Rattle.step.proofs.difference.Goals as goal

-- It fits whichever rows the two scores are greatest of, and in either order.
pub overflow_sub-result : goal.overflow_sub-result
overflow_sub-result c =
    let g = c in
    let s = g in
    let rows = s.args.rows.now in
    let n = s.args.n in
    search (less-fits, zero-small rows n s.requires.by_index, one-small rows n s.requires.by_index, g.greatest.ensures, c.greatest-2.ensures)

pub returns : goal.returns
returns c =
    let g = c in
    let s = g in
    is-difference s.args.rows.now s.args.n s.requires.by_index g.greatest.result c.greatest-2.result g.greatest.ensures c.greatest-2.ensures
