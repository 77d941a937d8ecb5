use mathlib.Core.Path.{◌≡◌}
use Prim.Native.Nat.{ℕ, ◌<◌}
use lib.ListN.{length, get_or}
use Rattle.folds.specs.Rows.{cell}
use Rattle.lane.specs.Lanes.{lane_bit}
use Rattle.lane_rows.proofs.kept_row.Given as goal

abbrev pub invariant-loop-l : goal.invariant-loop-l
invariant-loop-l l =
    record {
      long : length l.o-items ≡ 16;
      done : (i : ℕ) → i < l.l → get_or l.o-items i 0 ≡ cell 0 l.pair i (lane_bit l.plane i);
    }
