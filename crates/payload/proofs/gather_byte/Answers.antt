-- `payload::gather_byte` meets its contract. Assumes nothing.
use native.Mathlib.Omega.{arith}
use Prim.Native.Nat.{◌%◌}
use borrow.Author.Rules.{rules}
use Rattle.base.specs.Bit.{tabulate}
use Rattle.bits.specs.Packed.{bits, number}
use Rattle.payload.specs.Payload.{ones, gather}
use Rattle.payload.specs.Tables.{ones_table, gather_table}
use Rattle.payload.proofs.Tables.{ones-four, gather-byte-lt, gather-made}
use Rattle.payload.proofs.gather_byte.Goals as goal

pub overflow_shl-result : goal.overflow_shl-result
unfolding ones_table tabulate bits ones
overflow_shl-result c = omega (arith, ones-four (c.args.m % 16) (search rules))

pub overflow_add-result : goal.overflow_add-result
unfolding ones_table gather_table tabulate bits number ones gather
overflow_add-result c =
    omega (arith, gather-made c.args.m (search rules) c.args.u (search rules), gather-byte-lt c.args.m (bits 8 c.args.u))

pub returns : goal.returns
unfolding ones_table gather_table tabulate bits number ones gather
returns c = gather-made c.args.m (search rules) c.args.u (search rules)
