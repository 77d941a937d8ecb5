-- `bits::word_bit` meets its contract. Assumes nothing.
use mathlib.Core.Path.{sym}
use native.Mathlib.Omega.{arith}
use Rattle.bits.proofs.Packed.{bits-shift}
use Rattle.bits.proofs.word_bit.Goals as goal

pub returns : goal.returns
returns c = sym (bits-shift 15 c.args.x c.args.i (omega arith))
