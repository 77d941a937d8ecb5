use mathlib.Core.Path.{◌≡◌}
use lib.Seq.{paste}
use Rattle.follow.proofs.store_scores.Given as goal

abbrev pub invariant-loop-i : goal.invariant-loop-i
invariant-loop-i l = l.out ≡ paste l.initial.out 0 l.found l.i
