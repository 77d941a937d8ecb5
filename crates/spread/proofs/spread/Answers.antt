-- `spread::spread` meets its contract: what the three passes leave are the symbols. Assumes nothing.
use Rattle.std.proofs.Common.{ap, ◌∙◌}
use Rattle.bits.specs.Packed.{unpack}
use Rattle.spread.specs.Spreading.{deposited}
use Rattle.spread.proofs.Spreading.{spread-passes}
use Rattle.spread.proofs.spread.Goals as goal

pub returns : goal.returns
returns c =
    let a = c.args in
    ap unpack (c.deposit.ensures ∙ ap (deposited a.mask.now) c.next_bytes.ensures)
    ∙ spread-passes a.mask.now (unpack a.payload.now)
