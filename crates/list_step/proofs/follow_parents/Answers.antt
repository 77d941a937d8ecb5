-- `list_step::follow_parents` meets its contract. Assumes nothing.
use native.Mathlib.Omega.{arith}
use borrow.Author.Rules.{rules}
use Rattle.list_step.proofs.follow_parents.Goals as goal

pub move_rows-requires : goal.move_rows-requires
move_rows-requires c =
    let p = c.requires in
    (p.0, p.1, λ l ll. omega (arith, p.2 l ll))

pub move_costs-requires : goal.move_costs-requires
move_costs-requires c =
    let p = c.requires in
    let h = p.3 in
    (p.0, p.2, (h.costs-within, h.halves-within, h.halves_are, h.cost-room, h.costs-twins))

pub returns : goal.returns
returns c =
    let v = c.move_rows.ensures in
    let u = c.move_costs.ensures in
    let w = u.lanes in record {
      lanes = record { costs-within = w.0; halves-within = w.1; halves_are = w.2; cost-room = w.3; row_room = search rules; costs-twins = w.4 };
      costs = u.costs;
      rows = v;
      home = u.home;
    }
