-- `list_step::two_phases` meets its contract. Assumes nothing.
use mathlib.Core.Path.{◌≡◌, ap, ◌∙◌}
use mathlib.Core.List.{List, []}
use Prim.Native.Nat.{ℕ, ◌+◌, ◌-◌, ◌*◌, ◌%◌, ◌^◌, ◌≤◌, min}
use native.Mathlib.Omega.{arith}
use lib.ListN.{get_or}
use Rattle.windows.specs.Tables.{shape_at}
use Rattle.windows.proofs.Stepping.{in-range}
use Rattle.windows.proofs.Words.{pow-le, paths-are}
use Rattle.lane.specs.Lanes.{lane_costs}
use Rattle.list_step.proofs.Twofold.{twin-small, two_steps}
use borrow.Author.Rules.{rules}
use Rattle.list_step.proofs.two_phases.Goals as goal

pub settle_two-from-requires : goal.settle_two-from-requires
settle_two-from-requires c =
    let s = c in
    let a = s.args in
    let p = s.requires in
    let h = p.lanes_2 in
    let t = c.next_totals-pair in record {
      at_bound = (omega (arith, p.inner_bound.1, p.inner_bound.2), p.inner_bound.3, p.inner_bound.4, p.inner_bound.5, p.inner_bound.6, p.inner_bound.7);
      by_index = twin-small a.inner a.r a.s a.n t.result a.scratch.now a.costs.now h.costs-within h.cost-room p.inner_bound.6 t.ensures.totals;
    }

pub overflow_cast-high : goal.overflow_cast-high
overflow_cast-high c =
    let s = c in
    let a = s.args in
    let p = s.requires in
    let z = in-range a.inner (a.s + 1) p.inner_bound.0 (omega (arith, p.inner_bound.2)) 0 _ (ap (λ (t : List (List ℕ)). get_or t (a.s + 1) []) p.shapes_value.0) in
    record { fits = omega (arith, z.1) }

pub overflow_sub-high : goal.overflow_sub-high
overflow_sub-high c =
    let s = c in
    let a = s.args in
    let p = s.requires in
    let z = in-range a.inner (a.s + 1) p.inner_bound.0 (omega (arith, p.inner_bound.2)) 0 _ (ap (λ (t : List (List ℕ)). get_or t (a.s + 1) []) p.shapes_value.0) in
    omega (arith, z.0)

pub overflow_shl-high : goal.overflow_shl-high
overflow_shl-high c =
    let s = c in
    let a = s.args in
    let p = s.requires in
    let z = in-range a.inner (a.s + 1) p.inner_bound.0 (omega (arith, p.inner_bound.2)) 0 _ (ap (λ (t : List (List ℕ)). get_or t (a.s + 1) []) p.shapes_value.0) in
    omega (arith, z.2)

pub move_rows-requires : goal.move_rows-requires
move_rows-requires c =
    let s = c in
    let a = s.args in
    let p = s.requires in
    let z = in-range a.inner (a.s + 1) p.inner_bound.0 (omega (arith, p.inner_bound.2)) 0 _ (ap (λ (t : List (List ℕ)). get_or t (a.s + 1) []) p.shapes_value.0) in
    let d : ℕ = get_or (get_or a.shapes.now (a.s + 1) []) 0 0 - (a.s + 1) in
    (omega (arith, c.kept-count.ensures, p.inner_bound.4), omega (arith, paths-are d z.2, pow-le d z.2), c.settle_two-from.ensures.below)

pub move_costs-requires : goal.move_costs-requires
move_costs-requires c =
    let s = c in
    let a = s.args in
    let p = s.requires in
    let h = p.lanes_2 in
    (omega (arith, c.kept-count.ensures, p.inner_bound.4), λ j l. omega (arith, c.lower_lanes-below.ensures j l), (h.costs-within, h.halves-within, h.halves_are, h.cost-room, h.costs-twins))

pub returns : goal.returns
returns c =
    let s = c in
    let a = s.args in
    let p = s.requires in
    let h = p.lanes_2 in
    let t = c.next_totals-pair in
    let rows = t.new.rows in
    let m = c.settle_two-from in
    let new = m.new.scratch in
    let v = c.move_rows in
    let rows' = v.new.rows in
    let b = c.lower_lanes-below in
    let u = c.move_costs in
    let costs' = u.new.costs in
    let halves' = u.new.halves in
    let home = u.new.home in
    let e : get_or (get_or a.shapes.now (a.s + 1) []) 0 0 ≡ shape_at a.inner (a.s + 1) 0 = ap (λ (t : List (List ℕ)). get_or (get_or t (a.s + 1) []) 0 0) p.shapes_value.0 in
    let z = in-range a.inner (a.s + 1) p.inner_bound.0 (omega (arith, p.inner_bound.2)) 0 _ (ap (λ (t : List (List ℕ)). get_or t (a.s + 1) []) p.shapes_value.0) in
    let d : ℕ = get_or (get_or a.shapes.now (a.s + 1) []) 0 0 - (a.s + 1) in
    let narrow : shape_at a.inner (a.s + 1) 0 - (a.s + 1) ≤ 4 = omega (arith, e, z.2) in
    let paths : 1 * 2 ^ (get_or (get_or a.shapes.now (a.s + 1) []) 0 0 - (a.s + 1)) % 2 ^ 64 ≡ 2 ^ (shape_at a.inner (a.s + 1) 0 - (a.s + 1)) = paths-are d z.2 ∙ ap (λ n. 2 ^ (n - (a.s + 1))) e in
    let count : c.kept-count.result ≡ min a.list (2 * min a.list (2 * a.n)) = c.kept-count.ensures ∙ ap (λ k. min a.list (2 * k)) c.kept.ensures in
    let small = twin-small a.inner a.r a.s a.n t.result a.scratch.now a.costs.now h.costs-within h.cost-room p.inner_bound.6 t.ensures.totals in
    let q = two_steps a.inner a.r a.s a.n p.inner_bound.0 p.inner_bound.1 p.inner_bound.2 p.inner_bound.5 p.inner_bound.6 t.result a.scratch.now a.costs.now rows p.clean_2 h.costs-twins t.ensures.totals small t.ensures.held
    a.list p.inner_bound.3 p.inner_bound.4 a.home.now _ m.result new costs' rows' home narrow paths m.ensures.settled
    (λ j t c l lt. u.ensures.costs j t c (omega (arith, l, count)) lt ∙ ap (λ i. lane_costs a.costs.now i t c) (b.ensures j (omega (arith, l, p.inner_bound.4))))
    (λ j t c l lt. v.ensures j t c (omega (arith, l, count)) lt)
    (λ j l. u.ensures.home j (omega (arith, l, count)) ∙ ap (λ i. get_or a.home.now i 0) (b.ensures j (omega (arith, l, p.inner_bound.4))))
    c.kept-count.result count in
    let w = u.ensures.lanes in record {
      lanes = (record { costs-within = w.0; halves-within = w.1; halves_are = w.2; cost-room = w.3; row_room = search rules; costs-twins = w.4 }, search rules);
      rest = m.ensures.rest;
      clean = q.1;
      phases = q.0;
    }
