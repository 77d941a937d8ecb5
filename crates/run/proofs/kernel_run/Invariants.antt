use Rattle.base.specs.Bit.{bit}
use Rattle.bits.specs.Packed.{bits}
use Rattle.folds.specs.Rows.{costs_of}
use Rattle.run.proofs.Phases.{AfterPhases}
use Rattle.run.proofs.kernel_run.Given as goal

abbrev pub invariant-loop-s : goal.invariant-loop-s
invariant-loop-s l =
    AfterPhases l.kernel (costs_of l.costs) (bit (bits 16 l.free)) (bit (bits 16 l.given)) l.s (bits 16 l.symbols) l.scores l.rows l.own
