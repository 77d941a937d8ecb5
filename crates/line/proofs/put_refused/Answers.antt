-- `line::put_refused` meets its contract: the five parts of its line are put, and there is room for them. Assumes nothing.
use mathlib.Core.List.{◌++◌}
use Prim.Native.Nat.{ℕ, ◌^◌, ◌≤◌, ◌<◌}
use native.Mathlib.Omega.{arith}
use lib.ListN.{length}
use Rattle.text.specs.Text.{decimal}
use Rattle.text.proofs.Stored.{put_five}
use Rattle.text.proofs.Text.{decimal-short}
use Rattle.line.specs.Line.{refused_text, space, newline, refused_line}
use borrow.Author.Rules.{rules}
use Rattle.line.proofs.put_refused.Goals as goal

-- A number of a condition has at most three digits,
digits_3 : (n : ℕ) → n < 2 ^ 8 → length (decimal n) ≤ 3
digits_3 n l = decimal-short 2 n (omega (arith, l))

-- and a place twenty.
digits-20 : (n : ℕ) → n < 2 ^ 64 → length (decimal n) ≤ 20
digits-20 n l = decimal-short 19 n (omega (arith, l))

pub put_decimal-number-requires : goal.put_decimal-number-requires
put_decimal-number-requires c =
    let n = c.number in
    let d = digits_3 n.result n.type_inv in
    search rules

pub put-space-requires : goal.put-space-requires
put-space-requires c =
    let n = c.number in
    let d = digits_3 n.result n.type_inv in
    search rules

pub put_decimal-place-requires : goal.put_decimal-place-requires
put_decimal-place-requires c =
    let n = c.number in
    let i = c.place in
    let d = digits_3 n.result n.type_inv in
    let e = digits-20 i.result i.type_inv in
    search rules

pub put-requires : goal.put-requires
put-requires c =
    let n = c.number in
    let i = c.place in
    let d = digits_3 n.result n.type_inv in
    let e = digits-20 i.result i.type_inv in
    search rules

pub returns : goal.returns
unfolding refused_line
returns c =
    let e = c in
    let d = c in
    let i = d.place in
    let m = c in
    let b = c in
    let n = b.number in
    let a = c in
    let s = c in
    rw (← n.ensures, ← i.ensures)
    (put_five (refused_text ++ space) (decimal n.result) space (decimal i.result) newline
    a.put-head.result b.put_decimal-number.result m.put-space.result d.put_decimal-place.result e.put.result
    s.args.out.now a.put-head.new.out b.put_decimal-number.new.out m.put-space.new.out d.put_decimal-place.new.out e.put.new.out
    (omega (arith, digits_3 n.result n.type_inv, digits-20 i.result i.type_inv, s.requires))
    a.put-head.ensures b.put_decimal-number.ensures m.put-space.ensures d.put_decimal-place.ensures e.put.ensures)
