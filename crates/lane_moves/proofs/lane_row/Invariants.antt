use mathlib.Core.Path.{◌≡◌}
use mathlib.Core.List.{[]}
use lib.ListN.{length, get_or}
use Rattle.lane_moves.specs.Moves.{Twice}
use Rattle.lane_moves.proofs.lane_row.Given as goal

abbrev pub invariant-loop-l : goal.invariant-loop-l
invariant-loop-l l =
    record {
      long : length l.out ≡ 16;
      done : Twice (λ i. get_or (get_or (get_or l.pairs i []) l.b []) l.j 0) l.l l.out;
    }
