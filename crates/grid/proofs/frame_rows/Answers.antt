-- `grid::frame_rows` meets its contract: after l layers the rows hold what their stages make. Assumes nothing.
use mathlib.Core.Path.{refl, sym, ◌∙◌}
use Rattle.grid.proofs.Stages.{going-fits, going_next, going-last, rows_few}
use borrow.Author.Rules.{rules}
use Rattle.grid.proofs.frame_rows.Goals as goal

pub inner_stage-requires : goal.inner_stage-requires
inner_stage-requires c = let p = c.requires in rows_few _ _ p.1 p.2

pub outer_stage-requires : goal.outer_stage-requires
outer_stage-requires c =
    let l = c.loop-l in
    let f = going-fits _ _ _ l.s l.l l.rows (search rules) l.invariant in
    (f.some, f.few, f.blocks, f.small)

pub loop-l-preserved : goal.loop-l-preserved
loop-l-preserved c =
    let l = c.loop-l in
    let h = c.outer_stage.ensures in
    going_next _ _ _ l.s _ l.l l.rows _ refl (search rules) h.0 h.1 l.invariant

pub returns : goal.returns
returns c =
    let z = c in
    let l = c.loop-l in
    let h = c.inner_stage.ensures in
    (l.invariant.long ∙ sym z.requires.2, going-last z.args.tables z.args.m z.args.rows.now _ l.s l.l l.rows (search rules) z.requires.2 h.1 l.invariant)
