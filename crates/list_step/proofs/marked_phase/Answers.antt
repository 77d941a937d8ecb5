-- `list_step::marked_phase` meets its contract. Assumes nothing.
use mathlib.Core.Path.{◌≡◌, ap, ◌∙◌}
use mathlib.Core.List.{List}
use Prim.Native.Nat.{ℕ, ◌/◌, ◌<◌}
use native.Mathlib.Omega.{arith}
use lib.ListN.{get_or}
use Rattle.lane.specs.Lanes.{lane_costs}
use Rattle.list_step.specs.Marked.{chosen}
use Rattle.list_step.proofs.Candidates.{inside}
use Rattle.list_step.proofs.marked_phase.Goals as goal

-- What comes from place i comes from the place that i is.
taken-over : {x i j : ℕ} (g : ℕ → ℕ) → x ≡ g i → i ≡ j → x ≡ g j
taken-over g e f = e ∙ ap g f

pub settle-order-requires : goal.settle-order-requires
settle-order-requires c =
    let p = c.requires in
    record {
      at_bound = (p.at_bound.0, p.at_bound.1, p.at_bound.2, p.at_bound.3, p.at_bound.4, p.at_bound.6);
      by_index = p.by_index;
    }

pub follow_parents-requires : goal.follow_parents-requires
follow_parents-requires c =
    let p = c.requires in
    let e = c.settle-order in
    let q = c.parents-from in
    (omega (arith, c.kept-keep.ensures, p.at_bound.2), p.at_bound.5, λ i l. omega (arith, q.ensures i l, inside e.ensures.settled.pens e.result e.ensures.settled.order_is i (omega arith)), p.lanes_2)

pub returns : goal.returns
returns c =
    let s = c in
    let a = s.args in
    let p = s.requires in
    let st = c.settle-order in
    let e = st.ensures.settled in
    let q = c.parents-from in
    let k = c.kept-keep in
    let f = c.follow_parents.ensures in
    let parent : (j : ℕ) → j < k.result → get_or q.result j 0 ≡ chosen e.pens j / 2 =
    λ j l. q.ensures j (omega (arith, l, k.ensures, p.at_bound.2)) ∙ ap (λ (o : List ℕ). get_or o j 0 / 2) e.order_is in record {
      lanes = f.lanes;
      rest = st.ensures.rest;
      marked = record {
        pens = e.pens;
        pens-are = e.pens-are;
        count-is = k.ensures;
        record-so = λ j l. e.record-so j (omega (arith, l, k.ensures));
        lane-so = λ j t b l lt. taken-over (λ i. lane_costs a.costs.now i t b) (f.costs j t b l lt) (parent j l);
        row-so = λ j t b l lt. taken-over (λ i. lane_costs a.rows.now i t b) (f.rows j t b l lt) (parent j l);
        home-so = λ j l. taken-over (λ i. get_or a.home.now i 0) (f.home j l) (parent j l);
      };
    }
