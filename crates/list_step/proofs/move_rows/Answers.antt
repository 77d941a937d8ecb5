-- `list_step::move_rows` meets its contract. Assumes nothing.
use mathlib.Core.Path.{◌≡◌, sym, ap}
use Prim.Native.Nat.{ℕ, ◌<◌}
use native.Mathlib.Omega.{arith}
use lib.ListN.{get_or}
use Rattle.lane.specs.Lanes.{lane_costs}
use Rattle.list_step.proofs.move_rows.Goals as goal

pub returns-then-not-is_moved : goal.returns-then-not-is_moved
returns-then-not-is_moved c =
    let a = c.args in
    let same : (j : ℕ) → j < a.n → get_or a.from.now j 0 ≡ j = c.is_moved.ensures c.if-not-is_moved.true in
    λ j t b l _. ap (λ i. lane_costs a.rows.now i t b) (sym (same j l))

pub returns : goal.returns
returns c = λ j t b l lt. c.rearrange.ensures.moved t j b lt (omega (arith, l, c.requires.0))
