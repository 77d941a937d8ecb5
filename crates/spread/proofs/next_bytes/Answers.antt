-- `spread::next_bytes` meets its contract: four bytes more are stored, and j bits of the payload are used. Assumes nothing.
use Rattle.std.proofs.Common.{sym, refl, ◌∙◌}
use Rattle.bits.specs.Packed.{unpack}
use Rattle.payload.specs.Payload.{ones}
use Rattle.spread.proofs.Spreading.{next-none}
use Rattle.spread.proofs.next_bytes.Goals as goal

pub loop-g-init : goal.loop-g-init
unfolding ones unpack
loop-g-init c =
    let s = c in
    (refl, s.requires.1 ∙ sym (next-none s.args.mask.now (unpack s.args.payload.now)))
