use Rattle.list_run.specs.Run.{AfterRows}
use Rattle.list_run.proofs.list_run.Given as goal

-- `l.kernels.1.1.1.0` is what the values pay, of the outer kernels.
abbrev pub invariant-loop-r : goal.invariant-loop-r
invariant-loop-r l = AfterRows l.inner l.outer l.list l.values l.marks l.kernels.1.1.1.0.now l.initial.scratch l.r l.n l.planes l.held l.scratch
