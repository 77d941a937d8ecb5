use Rattle.folds.proofs.Range.{Passed}
use Rattle.decode_checks.proofs.frame_outside.Given as goal

abbrev pub invariant-loop-i : goal.invariant-loop-i
invariant-loop-i l = Passed 127 l.values l.i
