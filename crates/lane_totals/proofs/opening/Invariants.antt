use Prim.Native.Nat.{ℕ, ◌≤◌, ◌<◌}
use Rattle.lane_totals.specs.Totals.{Again}
use Rattle.lane_totals.proofs.opening.Given as goal

abbrev pub invariant-loop-q : goal.invariant-loop-q
invariant-loop-q l = (l.q ≤ l.phase) × ((p : ℕ) → l.q < p → p ≤ l.phase → Again l.kernel p)

abbrev pub decreases-loop-q : goal.decreases-loop-q
decreases-loop-q l = l.q
