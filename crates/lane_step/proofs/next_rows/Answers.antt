-- `lane_step::next_rows` meets its contract. Assumes nothing.
use mathlib.Core.Path.{◌≡◌, sym, ap, ◌∙◌}
use native.Mathlib.Omega.{arith}
use borrow.Author.Tests.{lt-ltb}
use lib.ListN.{get_or}
use Rattle.windows.specs.Tables.{shape_at}
use Rattle.windows.proofs.Stepping.{in-range}
use Rattle.lane_nodes.proofs.Places.{none_within}
use Rattle.lane_step.proofs.Fresh.{free-rounds, known-rounds}
use Rattle.lane_step.proofs.Stepping.{fresh-lanes, again-late, again-small-lane, again-held-lane}
use borrow.Author.Rules.{rules}
use Rattle.lane_step.proofs.next_rows.Goals as goal

pub invariant_of-this_phase : goal.invariant_of-this_phase
invariant_of-this_phase c =
    let p = c.requires in
    record { within = in-range c.args.kernel c.args.phase p.kernel_bound.0 p.kernel_bound.1 0 c.args.shape p.shape_value.0 }

pub invariant_of-this_phase-2 : goal.invariant_of-this_phase-2
invariant_of-this_phase-2 c =
    let p = c.requires in
    record { within = in-range c.args.kernel c.args.phase p.kernel_bound.0 p.kernel_bound.1 0 c.args.shape p.shape_value.0 }

pub again-requires-clause-by_index : goal.again-requires-clause-by_index
again-requires-clause-by_index c =
    let a = c.args in
    let p = c.requires in
    let f : shape_at a.kernel a.phase 1 ≡ 0 → ⊥ = λ z. c.if-shape-ne0.true (ap (λ l. get_or l 1 0) p.shape_value.0 ∙ z) in
    again-small-lane a.kernel a.phase p.kernel_bound.0 p.kernel_bound.1 a.costs.now a.planes.now (get_or a.shape 0 0) a.table.now (ap (λ l. get_or l 0 0) p.shape_value.0) p.shape_value.1 f

pub returns-then-shape-ne0 : goal.returns-then-shape-ne0
returns-then-shape-ne0 c =
    let s = c in
    let a = s.args in
    let p = s.requires in
    let f : shape_at a.kernel a.phase 1 ≡ 0 → ⊥ = λ z. c.if-shape-ne0.true (ap (λ l. get_or l 1 0) p.shape_value.0 ∙ z) in
    let late = again-late a.kernel a.phase p.kernel_bound.0 p.kernel_bound.1 a.costs.now a.planes.now f in record {
      room = search rules;
      held = λ l ll kept. again-held-lane a.kernel a.phase p.kernel_bound.0 p.kernel_bound.1 a.costs.now a.planes.now (get_or a.shape 0 0) a.table.now (ap (λ l. get_or l 0 0) p.shape_value.0) p.shape_value.1 f a.rows.now c.again.new.rows
          l ll (kept late c.if-shape-ne0.true) c.again.ensures;
    }

pub returns-then-high-lt8 : goal.returns-then-high-lt8
returns-then-high-lt8 c =
    let w = c in
    let s = w in
    let a = s.args in
    let p = s.requires in
    let r = in-range a.kernel a.phase p.kernel_bound.0 p.kernel_bound.1 0 a.shape p.shape_value.0 in
    let f : shape_at a.kernel a.phase 1 ≡ 0 = sym (ap (λ l. get_or l 1 0) p.shape_value.0) ∙ w.if-shape-ne0.false in record {
      room = search rules;
      held = λ l ll _. fresh-lanes a.kernel a.phase p.kernel_bound.0 p.kernel_bound.1 a.costs.now a.planes.now (get_or a.shape 0 0) a.table.now (ap (λ l. get_or l 0 0) p.shape_value.0) p.shape_value.1 f c.all_paths.new.rows
          (λ v l b lv ll. c.all_paths.ensures v l b lv ll
          ∙ free-rounds a.table.now a.planes.now w.words_of-words.result a.costs.now a.phase (get_or a.shape 0 0) r.0 r.1 w.words_of-words.ensures v l ll
          a.halves.now (p.lanes_within.1 c.if-high-lt8.true).1 c.if-high-lt8.true b) l ll;
    }

pub all_paths-requires-2 : goal.all_paths-requires-2
all_paths-requires-2 c =
    let k = c in
    let s = k in
    let a = s.args in
    let p = s.requires in
    let r = in-range a.kernel a.phase p.kernel_bound.0 p.kernel_bound.1 0 a.shape p.shape_value.0 in
    (p.kernel_bound.2, λ j lj l b ll. omega (arith, k.known_eight.ensures.within 2047 p.lanes_within.0 (none_within 4094) j lj l b ll))

pub returns : goal.returns
returns c =
    let k = c in
    let e = k in
    let w = e in
    let s = w in
    let a = s.args in
    let p = s.requires in
    let r = in-range a.kernel a.phase p.kernel_bound.0 p.kernel_bound.1 0 a.shape p.shape_value.0 in
    let f : shape_at a.kernel a.phase 1 ≡ 0 = sym (ap (λ l. get_or l 1 0) p.shape_value.0) ∙ w.if-shape-ne0.false in record {
      room = search rules;
      held = λ l ll _. fresh-lanes a.kernel a.phase p.kernel_bound.0 p.kernel_bound.1 a.costs.now a.planes.now (get_or a.shape 0 0) a.table.now (ap (λ l. get_or l 0 0) p.shape_value.0) p.shape_value.1 f c.all_paths-2.new.rows
          (λ v l b lv ll. c.all_paths-2.ensures v l b lv ll
          ∙ known-rounds a.table.now a.planes.now w.words_of-words.result a.costs.now a.phase (get_or a.shape 0 0) r.0 r.1 w.words_of-words.ensures v l ll
          k.known_eight.new.out k.known_eight.ensures.nodes (λ d. k.known_eight.ensures.others (lt-ltb a.phase (get_or a.shape 0 0) d)) e.if-high-lt8.false b) l ll;
    }
