-- `decode_checks::frame_outside` meets its contract. Where a value is outside, the search has passed i values. Assumes nothing.
use mathlib.Core.Path.{◌≡◌, refl, sym, ◌∙◌}
use Prim.Native.Nat.{◌≤◌}
use native.Mathlib.Nat.{zero-add}
use native.Mathlib.Omega.{arith}
use borrow.Author.Rules.{rules}
use borrow.Author.Tests.{ltb-false}
use lib.IntN.{pos}
use lib.ListN.{length, get_or}
use Rattle.folds.specs.Range.{first_outside}
use Rattle.folds.proofs.Range.{outside-le, found, passed, passed-all}
use Rattle.decode_checks.proofs.Outside.{says-outside, says-inside}
use Rattle.decode_checks.proofs.frame_outside.Goals as goal

pub returns-then-not-some_outside : goal.returns-then-not-some_outside
returns-then-not-some_outside c =
    let ys = c.args.values.now in
    let n : length ys ≤ first_outside 127 ys = ltb-false (first_outside 127 ys) (length ys) (sym c.some_outside.ensures ∙ c.if-not-some_outside.true) in
    omega (arith, outside-le 127 ys)

pub loop-i-init : goal.loop-i-init
loop-i-init c = sym (zero-add _)

pub returns-then-y : goal.returns-then-y
returns-then-y c =
    let l = c.loop-i in
    let ys = c.args.values.now in
    (c.loop-i-test.true, sym (found 127 ys l.i c.loop-i-test.true l.invariant (says-outside (get_or ys l.i (pos 0)) _ refl c.if-y.true)))

pub loop-i-preserved : goal.loop-i-preserved
loop-i-preserved c =
    let l = c.loop-i in
    let ys = c.args.values.now in
    passed 127 ys l.i c.loop-i-test.true l.invariant (says-inside (get_or ys l.i (pos 0)) _ refl (search rules) c.if-y.false)

pub returns : goal.returns
returns c =
    let l = c.loop-i in
    let ys = c.args.values.now in
    let e : l.i ≡ length ys = omega (arith, c.loop-i-test.false, l.auto.i-end) in
    sym (passed-all 127 ys l.i l.auto.i-end c.loop-i-test.false l.invariant) ∙ e
