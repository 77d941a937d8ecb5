-- `spread::four_bytes` meets its contract. Assumes nothing.
use Rattle.std.proofs.Common.{rules}
use Rattle.spread.proofs.Reading.{four-bytes-from}
use Rattle.spread.proofs.four_bytes.Goals as goal

pub returns-then-i-s : goal.returns-then-i-s
returns-then-i-s c =
    let a = c.args in
    four-bytes-from a.s.now a.i _ (search rules) (λ i. (c.type_inv.s i).fits)

pub returns : goal.returns
returns c =
    let a = c.args in
    four-bytes-from a.s.now a.i _
    (search rules) (λ i. (c.type_inv.s i).fits)
