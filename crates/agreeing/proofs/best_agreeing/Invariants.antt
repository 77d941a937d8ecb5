use Rattle.agreeing.specs.Found.{BestFound}
use Rattle.agreeing.proofs.best_agreeing.Given as goal

abbrev pub invariant-loop-i : goal.invariant-loop-i
invariant-loop-i l = BestFound l.mask l.scratch l.n l.i l.best
