-- `lane_costs::outer_costs` meets its contract. Assumes nothing.
use mathlib.Core.Path.{ap, ◌∙◌}
use Prim.Native.Nat.{ℕ, ◌+◌, ◌*◌, ◌≤◌, ◌<◌}
use native.Mathlib.Omega.{arith}
use lib.IntN.{pos, nat_abs}
use lib.ListN.{get_or}
use Rattle.polar.specs.Code.{pay}
use Rattle.folds.proofs.Range.{outside-none}
use Rattle.lane_costs.proofs.outer_costs.Goals as goal
use Rattle.lane_costs.proofs.outer_costs.Goals.{After-wide_values-wide}

-- The values are in range.
small : (c : After-wide_values-wide) → (i : ℕ) → i < 256 → nat_abs (get_or c.wide_values-wide.result i (pos 0)) ≤ 127
small c i l =
    let z = c.before in
    rw (c.wide_values-wide.ensures i l) (outside-none 127 z.args.values.now z.requires.2 (256 * z.args.g + i))

pub value_costs-requires : goal.value_costs-requires
value_costs-requires c = λ i l. omega (arith, small (goal.at.value_costs-requires c).After-wide_values-wide i l)

pub returns : goal.returns
returns c =
    let w = c in (
      (λ j t b lj lt. c.value_costs.ensures.costs j t b lj lt ∙ ap (λ y. pay y b) (w.wide_values-wide.ensures (16 * j + t) (omega arith))),
      c.value_costs.ensures.within 127 (small (goal.at.returns c).After-wide_values-wide),
    )
