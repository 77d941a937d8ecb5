-- `line::line` meets its contract: another length than 290 is refused, and 290 bytes are decoded. Assumes nothing.
use native.Mathlib.Omega.{arith}
use Rattle.text.proofs.Stored.{put_first}
use Rattle.line.specs.Line.{refused_line, line_of, plan_of, mask_of, decode_of, line}
use Rattle.line.proofs.Printed.{line_other, line-whole}
use Rattle.line.proofs.line.Goals as goal

pub returns-then-input-ne290 : goal.returns-then-input-ne290
returns-then-input-ne290 c =
    let a = c.args in
    let r = c.put_refused in
    put_first (refused_line 2 0) (line a.input.now) r.result a.out.now r.new.out (line_other a.input.now (λ e. omega (arith, e))) r.ensures

pub returns : goal.returns
returns c =
    let a = c.args in
    let r = c.put_decoded in
    let input = a.input.now in
    put_first (line_of (plan_of input) (mask_of input) (decode_of input)) (line input) r.result a.out.now r.new.out (line-whole input (omega arith)) r.ensures
