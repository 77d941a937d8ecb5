use mathlib.Core.Path.{◌≡◌}
use mathlib.Core.Bool.{Bool}
use mathlib.Core.List.{List}
use Prim.Native.Nat.{ℕ}
use Rattle.base.specs.Bit.{bit, tabulate}
use Rattle.bits.specs.Packed.{bits, number}
use Rattle.kernel.specs.Rows.{chosen_bit}
use Rattle.bitwise.proofs.row_sum_by_bits.Given as goal

-- Bit j of the sum.
abbrev pub bit_of : List ℕ → ℕ → ℕ → Bool
bit_of rows x = chosen_bit rows (bit (bits 16 x)) 16

abbrev pub invariant-loop-j : goal.invariant-loop-j
invariant-loop-j l = l.c ≡ number (tabulate l.j (bit_of l.rows l.x))
