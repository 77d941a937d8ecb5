use Rattle.side_follow.proofs.Phases.{AfterSide}
use Rattle.side_follow.proofs.run.Given as goal

abbrev pub invariant-loop-s : goal.invariant-loop-s
invariant-loop-s l = AfterSide l.kernel l.costs l.planes l.s l.rows l.out
