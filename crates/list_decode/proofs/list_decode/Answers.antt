-- `list_decode::list_decode` meets its contract: refused by a check it leaves the buffers; else it answers the best agreeing path, or 13. Assumes nothing.
use mathlib.Core.Path.{ap, sym, ◌∙◌}
use Prim.Native.Nat.{◌*◌}
use native.Mathlib.Omega.{arith}
use borrow.Author.Rules.{rules}
use Rattle.answer.specs.Verdict.{refusal, penalty_verdict, is_accepted}
use Rattle.decode_checks.proofs.Refused.{refusal-refused}
use Rattle.mask.proofs.Mask.{bytes_le}
use Rattle.list_decode.proofs.Accepted.{list-refused, list-accepted}
use Rattle.list_decode.proofs.Found.{found_below, list_found}
use Rattle.list_decode.proofs.list_decode.Goals as goal

pub returns-in_err-list_check : goal.returns-in_err-list_check
returns-in_err-list_check c =
    let a = c.args in
    let e = c.in_err-list_check in
    search (rules, list-refused a.plan a.list a.values.now a.mask.now a.scratch.now a.payload.now (refusal e.field-0.0) e.ensures (refusal-refused e.field-0.0))

pub rows_of-requires : goal.rows_of-requires
rows_of-requires c =
    let a = c.args in
    let p = list-accepted a.plan a.list a.values.now a.mask.now a.scratch.now a.payload.now (ap is_accepted (sym c.in_ok-list_check.ensures)) in
    (p.mask-count, omega arith)

pub list_run-n-requires : goal.list_run-n-requires
list_run-n-requires c =
    let a = c.args in
    let p = list-accepted a.plan a.list a.values.now a.mask.now a.scratch.now a.payload.now (ap is_accepted (sym c.in_ok-list_check.ensures)) in
    record {
      inner_bound = (p.inner-known, p.outer-known, p.some-paths, p.few-paths, omega (arith, p.scratch-room));
      values_len = (p.count, p.inside);
    }

pub best_agreeing-found-requires : goal.best_agreeing-found-requires
best_agreeing-found-requires c =
    let a = c.args in
    let p = list-accepted a.plan a.list a.values.now a.mask.now a.scratch.now a.payload.now (ap is_accepted (sym c.in_ok-list_check.ensures)) in
    let r = c.list_run-n in
    let b = c.payload_bytes-bytes.ensures in
    (r.ensures.list.few, omega (arith, r.ensures.rest.0, p.scratch-room), p.mask-count, omega (arith, b, p.enough), omega (arith, b, bytes_le 32 c.args.mask.now), ap (λ k. 8 * k) b ∙ p.bytes-are)

pub hand_out-result-requires : goal.hand_out-result-requires
hand_out-result-requires c =
    let a = c.args in
    let ok = ap is_accepted (sym c.in_ok-list_check.ensures) in
    let p = list-accepted a.plan a.list a.values.now a.mask.now a.scratch.now a.payload.now ok in
    let run = c.list_run-n in
    let found = c.best_agreeing-found in
    let below = found_below _ _ _ run.ensures.list.few found.result found.ensures in
    (omega (arith, run.ensures.rest.0, p.scratch-room), p.mask-count, omega (arith, p.bytes-are, p.payload-room), below)

pub clear-requires : goal.clear-requires
clear-requires c =
    let a = c.args in
    let p = list-accepted a.plan a.list a.values.now a.mask.now a.scratch.now a.payload.now (ap is_accepted (sym c.in_ok-list_check.ensures)) in
    omega (arith, c.list_run-n.ensures.rest.0, p.scratch-room)

pub returns : goal.returns
returns c =
    let a = c.args in
    let run = c.list_run-n in
    let found = c.best_agreeing-found in
    let out = c.hand_out-result in
    list_found a.plan a.list a.values.now a.mask.now a.scratch.now a.payload.now (ap is_accepted (sym c.in_ok-list_check.ensures)) _ run.result run.new.scratch c.rows_of.ensures.1 run.ensures.list
    found.result found.ensures (penalty_verdict out.result) _ _ run.ensures.rest.1 out.ensures c.clear.ensures
