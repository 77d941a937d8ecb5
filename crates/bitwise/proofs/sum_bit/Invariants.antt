use mathlib.Core.Path.{◌≡◌}
use Rattle.base.specs.Bit.{bit}
use Rattle.bits.specs.Packed.{bits}
use Rattle.kernel.specs.Rows.{chosen_bit}
use Rattle.bitwise.proofs.sum_bit.Given as goal

abbrev pub invariant-loop-s : goal.invariant-loop-s
invariant-loop-s l = l.sum ≡ chosen_bit l.rows (bit (bits 16 l.x)) l.s l.j
