use mathlib.Core.Path.{◌≡◌}
use lib.ListN.{length, get_or}
use Rattle.lane_moves.specs.Moves.{Twice}
use Rattle.lane_moves.proofs.moved_row.Given as goal

abbrev pub invariant-loop-l : goal.invariant-loop-l
invariant-loop-l l =
    record {
      long : length l.out ≡ 16;
      done : Twice (λ i. get_or l.row (get_or l.from i 0) 0) l.l l.out;
    }
