-- `bits::set_bit` meets its contract. Assumes nothing.
use Prim.Native.Nat.{◌%◌}
use native.Mathlib.Omega.{arith}
use Rattle.bits.proofs.Packed.{bits-or, unpack-set}
use Rattle.bits.proofs.set_bit.Goals as goal

pub returns : goal.returns
returns c = unpack-set _ c.args.i _ _ (bits-or 7 _ (c.args.i % 8) (omega arith))
