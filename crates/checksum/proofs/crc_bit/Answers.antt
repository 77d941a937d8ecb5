-- `checksum::crc_bit` meets its contract. Assumes nothing.
use mathlib.Core.Path.{refl, ◌∙◌}
use native.Mathlib.Omega.{arith}
use Rattle.checksum.proofs.Register.{differs, added, plain}
use Rattle.checksum.proofs.crc_bit.Goals as goal

pub returns-then-b-register : goal.returns-then-b-register
returns-then-b-register c =
    let a = c.args in
    added a.register _ a.b refl (differs a.register a.b (omega arith) ∙ c.if-b-register.true)

pub returns : goal.returns
returns c =
    let a = c.args in
    plain a.register a.b (differs a.register a.b (omega arith) ∙ c.if-b-register.false)
