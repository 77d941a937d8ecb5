-- `lane_words::words_of` meets its contract: the planes of the first s symbols are added. Assumes nothing.
use borrow.Author.Rules.{rules}
use Rattle.lane_words.proofs.Sums.{made_none, made-next}
use Rattle.lane_words.proofs.words_of.Goals as goal

pub loop-s-init : goal.loop-s-init
loop-s-init c = (search rules, made_none c.args.table.now c.args.planes.now)

pub loop-s-preserved : goal.loop-s-preserved
loop-s-preserved c =
    let a = c.args in
    let l = c.loop-s in
    (search rules, made-next a.table.now a.planes.now l.words c.with_plane-next.result l.s l.invariant.1 c.with_plane-next.ensures)
