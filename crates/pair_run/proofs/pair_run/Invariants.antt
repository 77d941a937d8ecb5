use Rattle.base.specs.Bit.{bit}
use Rattle.pair_run.specs.Run.{front}
use Rattle.pair_run.proofs.Rows.{AfterRows}
use Rattle.pair_run.proofs.pair_run.Given as goal

abbrev pub invariant-loop-r : goal.invariant-loop-r
invariant-loop-r l =
    AfterRows l.inner l.outer l.costs (bit (front 16 l.free)) (bit (front 16 l.given)) l.at l.initial.scores l.r l.symbols l.planes l.rows l.scores
