use Rattle.folds.specs.Rows.{costs_of}
use Rattle.folds.proofs.Fill.{Filled}
use Rattle.place_folds.proofs.two_folds.Given as goal

abbrev pub invariant-loop-i : goal.invariant-loop-i
invariant-loop-i g l = Filled 0 4 l.i (g.B.Fold.folded l.second 4 (g.A.Fold.folded l.first 8 (costs_of l.rows))) l.out
