use mathlib.Core.Path.{◌≡◌}
use mathlib.Core.Bool.{Bool}
use Prim.Native.Nat.{ℕ, ◌-◌, ◌<◌, min}
use Rattle.folds.specs.Rows.{cell, least_to}
use Rattle.lane.specs.Lanes.{lane_costs}
use Rattle.lane_rows.proofs.least_pair.Given as goal

abbrev pub invariant-loop-w : goal.invariant-loop-w
invariant-loop-w z = (l : ℕ) (b : Bool) → l < 16 → cell 0 z.found l b ≡ least_to (λ i. lane_costs z.rows l i b) (min (z.w - 1) (z.n - 1))
