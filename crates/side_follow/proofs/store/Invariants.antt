use mathlib.Core.Path.{◌≡◌}
use lib.ListN.{length}
use Rattle.base.proofs.List.{filled}
use Rattle.side_follow.specs.Rows.{phase_major}
use Rattle.side_follow.proofs.store.Given as goal

abbrev pub invariant-loop-i : goal.invariant-loop-i
invariant-loop-i l =
    record {
      long : length l.scores ≡ length l.initial.scores;
      done : l.scores ≡ filled (phase_major l.found) l.i l.initial.scores;
    }
