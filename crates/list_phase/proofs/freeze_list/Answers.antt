-- `list_phase::freeze_list` meets its contract. The first i records are done. Assumes nothing.
use mathlib.Core.Path.{◌∙◌}
use native.Mathlib.Omega.{arith}
use lib.ListN.{get_or}
use Rattle.path.specs.Path.{path_at}
use Rattle.list_phase.specs.Next.{Frozen}
use Rattle.list_phase.proofs.Turns.{frozen-read, record-next, records-after}
use Rattle.list_phase.proofs.freeze_list.Goals as goal

pub loop-i-preserved : goal.loop-i-preserved
loop-i-preserved c =
    let l = c.loop-i in
    let a = c.args in
    let first = a.scratch.now in
    let new = c.store.new.scratch in
    let e = c.store.ensures in
    let here : Frozen (get_or a.pens.now l.i 0) (path_at l.i first) (path_at l.i new) =
    frozen-read (get_or a.pens.now l.i 0) (path_at l.i first) c.load-before.result c.frozen-after.result (path_at l.i new)
    (c.load-before.ensures ∙ l.invariant.3 l.i (omega arith) (omega arith)) c.frozen-after.ensures e.1 in (
      e.0 ∙ l.invariant.0,
      e.3 ∙ l.invariant.1,
      record-next (λ j r. Frozen (get_or a.pens.now j 0) (path_at j first) r) l.i l.scratch new (omega arith) e.2 here l.invariant.2,
      records-after l.i first l.scratch new (omega arith) e.2 l.invariant.3,
    )
