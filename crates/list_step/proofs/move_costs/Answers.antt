-- `list_step::move_costs` meets its contract. Assumes nothing.
use mathlib.Core.Path.{◌≡◌, sym, ap}
use Prim.Native.Nat.{ℕ, ◌<◌}
use native.Mathlib.Omega.{arith}
use lib.ListN.{get_or}
use Rattle.lane.specs.Lanes.{lane_costs}
use borrow.Author.Rules.{rules}
use Rattle.list_step.proofs.move_costs.Goals as goal

pub returns-then-not-is_moved : goal.returns-then-not-is_moved
returns-then-not-is_moved c =
    let a = c.args in
    let same : (j : ℕ) → j < a.n → get_or a.from.now j 0 ≡ j = c.is_moved.ensures c.if-not-is_moved.true in record {
      lanes = c.requires.2;
      costs = λ j t b l _. ap (λ i. lane_costs a.costs.now i t b) (sym (same j l));
      home = λ j l. ap (λ i. get_or a.home.now i 0) (sym (same j l));
    }

pub free_eight-requires : goal.free_eight-requires
free_eight-requires c =
    let w = c.rearrange.ensures.within 2047 c.requires.2.0 in
    λ j lj l b ll. omega (arith, w j lj l b ll)

pub returns : goal.returns
returns c =
    let n = c.free_eight.ensures in
    let m = c.rearrange.ensures in
    let w = m.within 2047 c.requires.2.0 in record {
      lanes = (w, λ j lj l b ll. omega (arith, n.within 2047 w j lj l b ll), n.nodes, search rules, m.twins);
      costs = λ j t b l lt. m.moved t j b lt (omega (arith, l, c.requires.0));
      home = λ j l. c.moved_home.ensures j (omega (arith, l, c.requires.0));
    }
