-- `decode::frame_decode` meets its contract: accepted it writes scores, penalties and payload. Assumes nothing.
use mathlib.Core.Path.{refl, sym, ◌∙◌}
use Prim.Native.Nat.{ℕ, ◌/◌}
use native.Mathlib.Omega.{arith}
use lib.ListN.{replicate}
use lib.Seq.{length-take-le}
use Rattle.mask.proofs.Mask.{bytes-marked}
use Rattle.plan.proofs.Layered.{bytes-rows}
use Rattle.decode.proofs.Accepted.{decode-accepted, decode-done, rows-lent}
use borrow.Author.Rules.{rules}
use Rattle.decode.proofs.frame_decode.Goals as goal

pub slice_bounds-rows_of-end : goal.slice_bounds-rows_of-end
slice_bounds-rows_of-end c = sym (length-take-le (c.bytes-n.result / 2) (replicate 256 0) (omega (arith, c.bytes-n.ensures.1)))

pub rows_of-requires : goal.rows_of-requires
rows_of-requires c =
    let a = c.args in
    let n = c.bytes-n in
    let q = decode-accepted a.plan a.values.now a.mask.now a.scores.now a.penalties.now a.payload.now c.in_ok-decode_check.ensures in
    let k = length-take-le {A = ℕ} (n.result / 2) (replicate 256 0) (omega (arith, n.ensures.1)) in
    (q.mask-count ∙ omega (arith, k, n.ensures.0 q.ready.layered, bytes-rows _ q.ready.layered), omega (arith, k, n.ensures.1))

pub frame_run-rows-requires : goal.frame_run-rows-requires
frame_run-rows-requires c =
    let a = c.args in
    (decode-accepted a.plan a.values.now a.mask.now a.scores.now a.penalties.now a.payload.now c.in_ok-decode_check.ensures).ready

pub store_payload-requires : goal.store_payload-requires
store_payload-requires c =
    let a = c.args in
    let q = decode-accepted a.plan a.values.now a.mask.now a.scores.now a.penalties.now a.payload.now c.in_ok-decode_check.ensures in
    (q.ready.layered, q.mask-count, search rules, omega (arith, q.payload-room, bytes-marked _ _ q.mask-count q.good))

pub returns : goal.returns
returns c =
    let a = c.args in
    let ok = c.in_ok-decode_check.ensures in
    let l = (decode-accepted a.plan a.values.now a.mask.now a.scores.now a.penalties.now a.payload.now ok).ready.layered in
    let n = c.bytes-n in
    let r = c.rows_of in
    decode-done a.plan a.values.now a.mask.now a.scores.now a.penalties.now a.payload.now ok _ _ _ _ _
    (rows-lent a.plan l n.result (n.ensures.0 l) a.mask.now r.new.out (replicate 256 0) refl r.ensures.0 r.ensures.1) c.frame_run-rows.ensures
    c.store_payload.ensures
