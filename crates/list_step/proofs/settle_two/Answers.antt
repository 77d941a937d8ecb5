-- `list_step::settle_two` meets its contract. Assumes nothing.
use mathlib.Core.Path.{◌∙◌}
use mathlib.Core.List.{List, [], ◌∷◌}
use Prim.Native.Nat.{ℕ}
use native.Mathlib.Omega.{arith}
use Rattle.list_step.proofs.Candidates.{inside}
use Rattle.list_step.proofs.Two.{one-is, one-small, two_is, lanes-below, from-below, from_is, two-small, settled-two}
use Rattle.list_step.proofs.settle_two.Goals as goal

pub settle-first-requires : goal.settle-first-requires
settle-first-requires c =
    let s = c in
    let p = s.requires in record {
      at_bound = (omega (arith, p.at_bound.0), p.at_bound.1, p.at_bound.2, p.at_bound.3, p.at_bound.4, p.at_bound.5);
      by_index = one-small s.args.n s.args.pair.now (c.lesser_totals.result ∷ c.lesser_totals-2.result ∷ []) p.at_bound.4 p.by_index (one-is s.args.pair.now _ _ c.lesser_totals.ensures c.lesser_totals-2.ensures);
    }

pub moved_row-requires : goal.moved_row-requires
moved_row-requires c =
    let e = c.settle-first in
    let h = c.chosen_lanes-lanes in
    lanes-below e.ensures.settled.pens e.result h.result e.ensures.settled.order_is h.ensures

pub moved_row-requires-2 : goal.moved_row-requires-2
moved_row-requires-2 c =
    let e = c.settle-first in
    let h = c.chosen_lanes-lanes in
    lanes-below e.ensures.settled.pens e.result h.result e.ensures.settled.order_is h.ensures

pub settle-second-requires : goal.settle-second-requires
settle-second-requires c =
    let s = c in
    let p = s.requires in
    let pair = s.args.pair.now in
    let k = c.kept in
    let st = c.settle-first in
    let e = st.ensures.settled in
    let h = c.chosen_lanes-lanes in
    let z = c.lesser_totals in
    let o = c.lesser_totals-2 in
    let x = c.moved_row in
    let y = c.moved_row-2 in record {
      at_bound = (omega (arith, p.at_bound.0), p.at_bound.1, p.at_bound.2, omega (arith, k.ensures, p.at_bound.1, p.at_bound.3), omega (arith, k.ensures, p.at_bound.2), omega (arith, st.ensures.rest.0, p.at_bound.5));
      by_index = λ i b l. two-small s.args.at s.args.list s.args.n pair (z.result ∷ o.result ∷ []) (x.result ∷ y.result ∷ []) s.args.scratch.now st.result st.new.scratch p.at_bound.4 p.by_index
          (one-is pair z.result o.result z.ensures o.ensures) e
          (two_is e.pens st.result h.result e.order_is h.ensures pair x.result y.result x.ensures y.ensures) i b (omega (arith, l, k.ensures, p.at_bound.2)) (omega (arith, l, k.ensures));
    }

pub parent_lanes-requires : goal.parent_lanes-requires
parent_lanes-requires c =
    let e = c.settle-second in
    λ j l. inside e.ensures.settled.pens e.result e.ensures.settled.order_is j (omega arith)

pub returns : goal.returns
returns c =
    let s = c in
    let p = s.requires in
    let pair = s.args.pair.now in
    let k = c.kept in
    let st = c.settle-first in
    let e = st.ensures.settled in
    let su = c.settle-second in
    let f = su.ensures.settled in
    let h = c.chosen_lanes-lanes in
    let z = c.lesser_totals in
    let o = c.lesser_totals-2 in
    let x = c.moved_row in
    let y = c.moved_row-2 in
    let q = c.parent_lanes in
    let between = st.new.scratch in
    let two : List (List ℕ) = x.result ∷ y.result ∷ [] in record {
      rest = (su.ensures.rest.0 ∙ st.ensures.rest.0, su.ensures.rest.1 ∙ st.ensures.rest.1);
      below = from-below e.pens st.result h.result e.order_is h.ensures f.pens su.result q.result f.order_is q.ensures;
      settled = settled-two s.args.at s.args.list s.args.n pair s.args.scratch.now q.result su.new.scratch (z.result ∷ o.result ∷ []) two st.result su.result between k.result k.ensures
          (one-is pair z.result o.result z.ensures o.ensures) e
          (λ j b l. two_is e.pens st.result h.result e.order_is h.ensures pair x.result y.result x.ensures y.ensures j b (omega (arith, l, p.at_bound.2)))
          f
          (λ j l. from_is e.pens st.result h.result e.order_is h.ensures f.pens su.result q.result f.order_is q.ensures j (omega (arith, l, p.at_bound.2)));
    }
