-- `payload::marks` meets its contract. Assumes nothing.
use native.Mathlib.Omega.{arith}
use borrow.Author.Rules.{rules}
use Rattle.base.specs.Bit.{tabulate}
use Rattle.bits.specs.Packed.{bits}
use Rattle.payload.specs.Payload.{ones}
use Rattle.payload.specs.Tables.{ones_table}
use Rattle.payload.proofs.Tables.{marks-le, marks-made}
use Rattle.payload.proofs.marks.Goals as goal

pub overflow_add-result : goal.overflow_add-result
unfolding ones_table tabulate bits ones
overflow_add-result c = omega (arith, marks-made c.args.m (search rules), marks-le 8 c.args.m)

pub returns : goal.returns
unfolding ones_table tabulate bits ones
returns c = marks-made c.args.m (search rules)
