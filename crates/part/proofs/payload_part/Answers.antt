-- `part::payload_part` meets its contract: the part ends where the caller's bytes end, or before. Assumes nothing.
use mathlib.Core.Path.{sym}
use lib.ListN.{length}
use lib.Seq.{length-take-le}
use Rattle.part.proofs.Length.{part-le}
use Rattle.part.proofs.payload_part.Goals as goal

pub slice_bounds-result-end : goal.slice_bounds-result-end
slice_bounds-result-end c =
    let a = c.args in
    let n = c.part_length in
    sym (length-take-le n.result a.bytes.now (rw n.ensures (part-le a.plan a.mask.now (length a.bytes.now))))
