-- `checksum::checksum` meets its contract. The loop's invariant: the register, with the bits that are left put in, is the checksum. Assumes nothing.
use mathlib.Core.Path.{sym, ◌∙◌}
use native.Mathlib.Omega.{arith}
use Rattle.bits.specs.Packed.{bits}
use Rattle.checksum.proofs.Register.{next_bit, no_bits}
use Rattle.checksum.proofs.checksum.Goals as goal

pub loop-i-preserved : goal.loop-i-preserved
loop-i-preserved c =
    let l = c.loop-i in
    next_bit _ l.i l.register c.crc_bit-register.result c.bit.result (omega arith) c.bit.ensures c.crc_bit-register.ensures ∙ l.invariant

pub returns : goal.returns
returns c = sym (no_bits _ c.loop-i.i (bits 16 c.loop-i.register) (omega arith)) ∙ c.loop-i.invariant
