-- `bits::bit` meets its contract. Assumes nothing.
use mathlib.Core.Path.{sym, ◌∙◌}
use Prim.Native.Nat.{◌/◌, ◌%◌}
use native.Mathlib.Omega.{arith}
use lib.ListN.{get_or}
use Rattle.bits.proofs.Packed.{bits-shift, unpack-at}
use Rattle.bits.proofs.bit.Goals as goal

pub returns : goal.returns
returns c =
    let s = c.args.s.now in
    let i = c.args.i in
    sym (unpack-at s i ∙ bits-shift 7 (get_or s (i / 8) 0) (i % 8) (omega arith))
