-- `decode::frame_follow` meets its contract: accepted it writes scores and penalties. Assumes nothing.
use mathlib.Core.Path.{refl, sym, ◌∙◌}
use Prim.Native.Nat.{ℕ, ◌/◌}
use native.Mathlib.Omega.{arith}
use lib.ListN.{replicate}
use lib.Seq.{length-take-le}
use Rattle.plan.proofs.Layered.{bytes-rows}
use Rattle.decode.proofs.Accepted.{follow-accepted, follow-done, rows-lent}
use Rattle.decode.proofs.frame_follow.Goals as goal

pub slice_bounds-rows_of-end : goal.slice_bounds-rows_of-end
slice_bounds-rows_of-end c = sym (length-take-le (c.bytes-n.result / 2) (replicate 256 0) (omega (arith, c.bytes-n.ensures.1)))

pub rows_of-requires : goal.rows_of-requires
rows_of-requires c =
    let a = c.args in
    let n = c.bytes-n in
    let q = follow-accepted a.plan a.values.now a.symbols.now a.scores.now a.penalties.now c.in_ok-follow_check.ensures in
    let k = length-take-le {A = ℕ} (n.result / 2) (replicate 256 0) (omega (arith, n.ensures.1)) in
    (q.long ∙ omega (arith, k, n.ensures.0 q.ready.layered, bytes-rows _ q.ready.layered), omega (arith, k, n.ensures.1))

pub frame_run-requires : goal.frame_run-requires
frame_run-requires c =
    let a = c.args in
    (follow-accepted a.plan a.values.now a.symbols.now a.scores.now a.penalties.now c.in_ok-follow_check.ensures).ready

pub returns : goal.returns
returns c =
    let a = c.args in
    let ok = c.in_ok-follow_check.ensures in
    let l = (follow-accepted a.plan a.values.now a.symbols.now a.scores.now a.penalties.now ok).ready.layered in
    let n = c.bytes-n in
    let r = c.rows_of in
    follow-done a.plan a.values.now a.symbols.now a.scores.now a.penalties.now ok _ _ _ _ (rows-lent a.plan l n.result (n.ensures.0 l) a.symbols.now r.new.out (replicate 256 0) refl r.ensures.0 r.ensures.1) c.frame_run.ensures
