-- The array has its length from its type. Assumes nothing.
use mathlib.Core.Path.{◌≡◌, sym}
use native.Mathlib.Omega.{arith}
use lib.ListN.{length}
use lib.Seq.{length-take-le}
use borrow.Author.Rules.{rules}
use Rattle.path.proofs.PathFromArrayU836.from.Goals as goal

pub slice_bounds-copy_from_slice-end-2 : goal.slice_bounds-copy_from_slice-end-2
slice_bounds-copy_from_slice-end-2 c =
    let b = c.args.bytes in
    let n : length b ≡ 36 = search rules in
    sym (length-take-le 32 b (omega arith))

pub copy_from_slice-requires : goal.copy_from_slice-requires
copy_from_slice-requires c =
    let b = c.args.bytes in
    let n : length b ≡ 36 = search rules in
    sym (length-take-le 32 b (omega arith))
