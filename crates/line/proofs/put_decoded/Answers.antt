-- `line::put_decoded` meets its contract: the line of a refusal is put, or the lines of a decoded frame. Assumes nothing.
use mathlib.Core.Path.{◌≡◌, refl, sym, ap, ◌∙◌, subst}
use mathlib.Core.List.{List}
use Prim.Native.Nat.{ℕ, ◌≤◌}
use native.Mathlib.Omega.{arith}
use lib.ListN.{length, get_or}
use Rattle.answer.specs.Verdict.{done, refusal}
use Rattle.decode_checks.proofs.Refused.{refusal-refused}
use Rattle.text.specs.Put.{Put}
use Rattle.line.specs.Line.{ok_lines, line_of, plan_of, mask_of}
use Rattle.line.proofs.Printed.{part-short, line_refused, line-accepted, decode_is}
use Rattle.line.proofs.Small.{input-small}
use borrow.Author.Rules.{rules}
use Rattle.line.proofs.put_decoded.Goals as goal

pub put_ok-requires : goal.put_ok-requires
put_ok-requires c =
    let d = c.frame_decode in
    let input = c.args.input.now in
    let n : length d.new.payload ≡ 32 = search rules in
    let short = part-short (plan_of input) (mask_of input) d.new.payload n in
    let e = decode_is input c.values-received.result (done, d.new.scores, d.new.penalties, d.new.payload) c.requires.0 c.values-received.ensures c.in-Ok.ensures in (
      subst (λ (xs : List ℕ). length xs ≤ 32) (sym c.payload_part.ensures.0) short,
      search rules,
      input-small input done d.new.scores d.new.penalties d.new.payload e refl _ (omega arith),
    )

pub returns-in-Ok : goal.returns-in-Ok
returns-in-Ok c =
    let r = c.put_ok in
    let d = c.frame_decode in
    let a = c.args in
    let plan = plan_of a.input.now in
    let mask = mask_of a.input.now in
    let e = decode_is a.input.now c.values-received.result (done, d.new.scores, d.new.penalties, d.new.payload) c.requires.0 c.values-received.ensures c.in-Ok.ensures in
    subst (λ (xs : List ℕ). Put xs 0 r.result a.out.now r.new.out)
    (sym
    (ap (line_of plan mask) e
    ∙ line-accepted plan mask done d.new.scores d.new.penalties d.new.payload refl
    ∙ ap (ok_lines (get_or d.new.penalties 255 0)) (sym c.payload_part.ensures.0)))
    r.ensures

pub returns-in-Err : goal.returns-in-Err
returns-in-Err c =
    let r = c.put_refused in
    let d = c.frame_decode in
    let a = c.args in
    let v = refusal c.in-Err.e in
    let plan = plan_of a.input.now in
    let mask = mask_of a.input.now in
    let e = decode_is a.input.now c.values-received.result (v, d.new.scores, d.new.penalties, d.new.payload) c.requires.0 c.values-received.ensures c.in-Err.ensures in
    subst (λ (xs : List ℕ). Put xs 0 r.result a.out.now r.new.out)
    (sym (ap (line_of plan mask) e ∙ line_refused plan mask v d.new.scores d.new.penalties d.new.payload (refusal-refused c.in-Err.e)))
    r.ensures
