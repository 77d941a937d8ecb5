use mathlib.Core.Path.{◌≡◌}
use mathlib.Core.Bool.{Bool}
use mathlib.Core.List.{[]}
use Prim.Native.Nat.{ℕ, ◌-◌, ◌<◌}
use lib.ListN.{length, get_or}
use Rattle.folds.specs.Rows.{cell}
use Rattle.lane.specs.Lanes.{lane_bit, lane_costs}
use Rattle.lane_step.specs.Step.{number_before}
use Rattle.lane_step.proofs.again.Given as goal

abbrev pub invariant-loop-w : goal.invariant-loop-w
invariant-loop-w z =
    record {
      room : length z.rows ≡ 16;
      done : (i : ℕ) → i < z.w → (l : ℕ) (b : Bool) → l < 16
          → cell 0 (get_or z.rows i []) l b ≡ lane_costs z.initial.rows l (number_before z.phase.table.now z.phase.number z.phase.high z.planes i l b) (lane_bit (get_or z.planes (z.phase.number - 1) 0) l);
    }
