-- `list_run::InnerRow::phases` meets its contract: one phase or a pair after the other. Assumes nothing.
use mathlib.Core.Path.{◌≡◌}
use mathlib.Core.Bool.{false}
use Prim.Native.Nat.{◌≤◌, ◌<◌}
use lib.ListN.{length}
use Rattle.list_step.specs.Step.{Lanes}
use Rattle.list_run.specs.Run.{marked_of, pair_of}
use Rattle.list_run.proofs.Phases.{turn-any, row_done, row-begins}
use borrow.Author.Rules.{rules}
use Rattle.list_run.proofs.InnerRow.phases.Goals as goal

pub loop-s-init : goal.loop-s-init
loop-s-init c =
    let o = c.args.self.now in
    let st = c.args.state.now in
    let some : 1 ≤ st.count = search rules in
    let few : st.count ≤ 8 = search rules in
    let lanes : Lanes st.costs.now st.halves.now st.rows.now = search rules in
    let home : length st.home ≡ 8 = search rules in
    let e : st.stepped ≡ false = c.requires.begins.0 in
    rw e (row-begins o.kernel o.number o.list _ st.count _ _ _ _ _ some few lanes home c.requires.begins.1 c.requires.clean_2.1)

pub loop-s-preserved : goal.loop-s-preserved
loop-s-preserved c =
    let k = c.loop-s in
    let o = c.args.self.now in
    let st = k.state in
    let t = c.take in
    let new = t.new.state in
    let w = c.turn_at-turn in
    let m = c.is_marked-state.ensures in
    let q = c.phase_count-s.ensures.0 in
    let lr : o.number < 16 = search rules in
    let lanes : Lanes new.costs.now new.halves.now new.rows.now = search rules in
    let home : length new.home ≡ 8 = search rules in
    rw (q, m) (turn-any o.kernel o.number o.list _ c.args.state.now.count _ _ k.s st.count st.stepped _ _ _ _ _ lr c.loop-s-test.true k.invariant
    (marked_of w.result) (pair_of w.result) new.count _ new.costs.now new.halves.now new.rows.now new.home w.ensures.marked
    (λ t. let x = w.ensures.pair t in (x.0, x.1, x.2)) lanes home t.ensures.rest.0 t.ensures.rest.1 t.ensures.clean t.ensures.advanced)

pub returns : goal.returns
returns c =
    let k = c.loop-s in
    let o = c.args.self.now in
    row_done o.kernel o.number o.list _ c.args.state.now.count _ _ k.s k.state.count k.state.stepped _ _ _ _ _ (search rules) k.invariant
