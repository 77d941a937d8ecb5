use Rattle.triple_run.proofs.Stepping.{Stepped}
use Rattle.triple_run.proofs.stage.Given as goal

abbrev pub invariant-loop-g : goal.invariant-loop-g
invariant-loop-g l = Stepped l.outer l.costs l.planes l.r l.initial.rows l.g l.rows l.out
