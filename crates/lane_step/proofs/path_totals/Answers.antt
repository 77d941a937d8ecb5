-- `lane_step::path_totals` meets its contract. Assumes nothing.
use mathlib.Core.Path.{◌∙◌}
use mathlib.Core.Logic.{inl, inr}
use Rattle.lane_step.proofs.Fresh.{other-is, total-is}
use Rattle.lane_step.proofs.path_totals.Goals as goal
use Rattle.lane_step.proofs.path_totals.Goals.{else-phase-lt8, then-phase-lt8}

pub returns : goal.returns
returns c =
    let a = c.args in
    let p = a.phase.now in
    let added = c.word-c.result in
    let other = c.if-phase-lt8.other in
    λ l b ll. c.path_pair.ensures l b ll
    ∙ total-is p.table.now a.words a.nodes.now p.number p.high a.w added other p.within.1 c.word-c.ensures c.with_plane-mine.result c.with_plane-mine.ensures
    (elim c.if-phase-lt8.branch [
      | then-phase-lt8 t ↦ other-is p.high added other (inl (t.if-phase-lt8.true, t.other-is))
      | else-phase-lt8 e ↦ other-is p.high added other (inr (e.if-phase-lt8.false, e.other-is))
    ])
    l b ll
