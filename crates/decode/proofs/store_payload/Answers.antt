-- `decode::store_payload` meets its contract. Assumes nothing.
use mathlib.Core.Path.{◌≡◌, ap, sym, ◌∙◌}
use mathlib.Core.List.{◌++◌}
use Prim.Native.Nat.{◌/◌}
use native.Mathlib.Omega.{arith}
use lib.ListN.{length, drop, replicate}
use lib.Seq.{length-take-le}
use Rattle.bits.specs.Packed.{unpack, pack}
use Rattle.payload.specs.Payload.{ones, gather}
use Rattle.decode.proofs.Accepted.{rows-stored}
use borrow.Author.Rules.{rules}
use Rattle.decode.proofs.store_payload.Goals as goal

pub slice_bounds-store_rows-end : goal.slice_bounds-store_rows-end
slice_bounds-store_rows-end c =
    let n = c.bytes-bytes in
    sym (length-take-le (n.result / 2) c.args.rows.now (omega (arith, n.ensures.1, c.requires.2)))

pub store_rows-requires : goal.store_rows-requires
store_rows-requires c =
    let n = c.bytes-bytes in
    let k = length-take-le (n.result / 2) c.args.rows.now (omega (arith, n.ensures.1, c.requires.2)) in
    (omega (arith, k, n.ensures.1), omega (arith, k, n.ensures.1))

pub slice_bounds-gather-end : goal.slice_bounds-gather-end
slice_bounds-gather-end c =
    let n = c.bytes-bytes in
    let s = c.store_rows.new.out in
    let long : length s ≡ 512 = search rules in
    sym (length-take-le n.result s (omega (arith, n.ensures.1)))

pub gather-requires : goal.gather-requires
gather-requires c =
    let n = c.bytes-bytes in
    let p = c.requires in
    let s = c.store_rows.new.out in
    let long : length s ≡ 512 = search rules in
    let k = length-take-le n.result s (omega (arith, n.ensures.1)) in
    let e = n.ensures.0 p.0 in
    record {
      mask_len_bound = (omega (arith, p.1, e, n.ensures.1), k ∙ e ∙ sym p.1);
      mask_bound = p.3;
    }

pub returns : goal.returns
returns c =
    let a = c.args in
    let p = c.requires in
    let n = c.bytes-bytes in
    let marks = unpack a.mask.now in
    c.gather.ensures
    ∙ ap (λ w. pack (ones marks / 8) (gather marks w) ++ drop (ones marks / 8) a.payload.now) (rows-stored a.plan p.0 n.result (n.ensures.0 p.0) a.rows.now (replicate 512 0) c.store_rows.new.out p.2 c.store_rows.ensures)
