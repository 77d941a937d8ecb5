-- `bits::with_word_bit` meets its contract. Assumes nothing.
use native.Mathlib.Omega.{arith}
use Rattle.bits.proofs.Packed.{bits-or}
use Rattle.bits.proofs.with_word_bit.Goals as goal

pub returns : goal.returns
returns c = bits-or 15 c.args.x c.args.i (omega arith)
