use Rattle.bits.specs.Packed.{bits}
use Rattle.hadamard_run.proofs.Packing.{Packing}
use Rattle.hadamard_run.proofs.packed.Given as goal

abbrev pub invariant-loop-s : goal.invariant-loop-s
invariant-loop-s l = Packing l.symbols (bits 16 l.out) l.s
