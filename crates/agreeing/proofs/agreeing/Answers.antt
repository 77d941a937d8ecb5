-- `agreeing::agreeing` meets its contract: the checksum is that of the first bytes, the record's payload. Assumes nothing.
use mathlib.Core.Path.{sym, ap, ◌∙◌}
use native.Mathlib.Omega.{arith}
use lib.ListN.{replicate}
use Rattle.checksum.specs.Checksum.{agrees}
use Rattle.agreeing.proofs.Records.{front, front-count}
use Rattle.agreeing.proofs.agreeing.Goals as goal

pub slice_bounds-agrees-end : goal.slice_bounds-agrees-end
slice_bounds-agrees-end c =
    let z = c in
    sym (front-count z.args.mask.now _ (replicate 32 0) c.path_payload.new.out z.args.bytes z.requires.5 c.path_payload.ensures.payload)

pub agrees-requires : goal.agrees-requires
agrees-requires c =
    let z = c in
    let n = front-count z.args.mask.now _ (replicate 32 0) c.path_payload.new.out z.args.bytes z.requires.5 c.path_payload.ensures.payload in
    (omega (arith, n, z.requires.3), omega (arith, n, z.requires.4))

pub returns : goal.returns
returns c =
    let z = c in
    c.agrees.ensures ∙ ap agrees (front z.args.mask.now _ (replicate 32 0) c.path_payload.new.out z.args.bytes z.requires.5 c.path_payload.ensures.payload)
