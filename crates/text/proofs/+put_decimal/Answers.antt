-- The cycle of calls of `text::put_decimal` meets its contract: the digits of the tenth, then the last one; the number falls. Assumes nothing.
use mathlib.Core.Path.{ap, subst}
use Prim.Native.Nat.{◌+◌, ◌/◌, ◌≤◌, ◌<◌}
use native.Mathlib.Omega.{arith}
use lib.ListN.{length}
use Rattle.text.specs.Text.{decimal}
use Rattle.text.proofs.Text.{decimal-one, length_more, put_one, room-last, put_last}
use Rattle.text.proofs.+put_decimal.Goals as goal

pub bounds-out-at : goal.bounds-out-at
bounds-out-at t c = omega (arith, ap length (decimal-one c.args.n c.if-n-lt10.true), c.requires)

pub returns-then-n-lt10 : goal.returns-then-n-lt10
returns-then-n-lt10 t c = let a = c.args in put_one a.n a.at c.digit.result a.out.now c.if-n-lt10.true c.requires c.digit.ensures

pub put_decimal-end-requires : goal.put_decimal-end-requires
put_decimal-end-requires t c =
    let a = c.args in
    let p = c.requires in
    let l = c.if-n-lt10.false in
    let h : a.n / 10 < a.n = omega arith in
    let room : a.at + length (decimal (a.n / 10)) ≤ length a.out.now = omega (arith, length_more a.n l, p) in
    (subst (λ j. a.n / 10 < j) c.decreases h, room)

pub bounds-out-end : goal.bounds-out-end
bounds-out-end t c =
    let a = c.args in
    let r = c.put_decimal-end in
    (room-last a.n a.at r.result a.out.now r.new.out c.if-n-lt10.false c.requires r.ensures).1

pub returns : goal.returns
returns t c =
    let a = c.args in
    let r = c.put_decimal-end in
    put_last a.n a.at r.result c.digit-2.result a.out.now r.new.out c.if-n-lt10.false c.requires r.ensures c.digit-2.ensures
