use Prim.Native.Nat.{◌^◌, ◌≤◌, ◌<◌}
use Rattle.base.specs.Bit.{bit}
use Rattle.bits.specs.Packed.{bits}
use Rattle.kernel.proofs.Rows.{Summed}
use Rattle.kernel.proofs.row_sum.Given as goal

abbrev pub invariant-loop-s : goal.invariant-loop-s
invariant-loop-s l = (l.s ≤ 16) × Summed l.rows (bit (bits 16 l.x)) l.c l.s × (l.c < 2 ^ 16)
