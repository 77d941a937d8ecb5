use mathlib.Core.Path.{◌≡◌}
use mathlib.Core.List.{[]}
use Prim.Native.Nat.{ℕ, ◌<◌}
use lib.ListN.{length, get_or}
use Rattle.lane.specs.Lanes.{lane_bit, lane_costs}
use Rattle.lane_rows.proofs.kept_rows.Given as goal

abbrev pub invariant-loop-w : goal.invariant-loop-w
invariant-loop-w z =
    record {
      long : length z.out ≡ 16;
      done : (i : ℕ) → i < z.w → (l : ℕ) → l < 16 → get_or (get_or z.out i []) l 0 ≡ lane_costs z.rows l i (lane_bit z.plane l);
    }
