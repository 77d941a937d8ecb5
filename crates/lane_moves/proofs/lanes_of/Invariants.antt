use mathlib.Core.Path.{◌≡◌}
use mathlib.Core.List.{[]}
use Prim.Native.Nat.{ℕ, ◌<◌}
use lib.ListN.{length, get_or}
use Rattle.lane_moves.proofs.Places.{LanePlace}
use Rattle.lane_moves.proofs.lanes_of.Given as goal

abbrev pub invariant-loop-j : goal.invariant-loop-j
invariant-loop-j l =
    record {
      long : length l.o-items ≡ 16;
      done : (i : ℕ) → i < l.j → LanePlace l.pairs i (get_or l.o-items i []);
    }
