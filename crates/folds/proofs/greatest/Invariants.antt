use Rattle.folds.specs.Rows.{IsGreatest}
use Rattle.folds.proofs.greatest.Given as goal

abbrev pub invariant-loop-i : goal.invariant-loop-i
invariant-loop-i l = IsGreatest l.row l.i l.m
