use Prim.Native.Nat.{ℕ, ◌<◌}
use Rattle.lane_phases.specs.Rows.{KeptLane}
use Rattle.lane_totals.specs.Totals.{Again}
use Rattle.lane_totals.proofs.totals_from.Given as goal

abbrev pub invariant-loop-q : goal.invariant-loop-q
invariant-loop-q z = (l : ℕ) → l < 16 → (0 < z.first → Again z.kernel z.first → KeptLane z.kernel z.costs z.planes z.first z.initial.rows l) → 0 < z.q → Again z.kernel z.q → KeptLane z.kernel z.costs z.planes z.q z.rows l
