-- `line::put_ok` meets its contract: the five parts of its lines are put, and there is room for them. Assumes nothing.
use mathlib.Core.List.{◌++◌}
use Prim.Native.Nat.{◌≤◌}
use native.Mathlib.Omega.{arith}
use lib.ListN.{length}
use Rattle.text.specs.Text.{decimal, hexadecimal}
use Rattle.text.proofs.Stored.{put_five}
use Rattle.text.proofs.Text.{decimal-short, length-hexadecimal}
use Rattle.line.specs.Line.{ok_text, space, newline, ok_lines}
use borrow.Author.Rules.{rules}
use Rattle.line.proofs.put_ok.Goals as goal
use Rattle.line.proofs.put_ok.Goals.{Start}

-- A penalty has at most five digits,
digits : (s : Start) → length (decimal s.args.penalty) ≤ 5
digits s = decimal-short 4 s.args.penalty (omega (arith, s.requires.2))

-- and a payload 64.
pairs : (s : Start) → length (hexadecimal s.args.payload.now) ≤ 64
pairs s = omega (arith, length-hexadecimal s.args.payload.now, s.requires.0)

pub put_decimal-number-requires : goal.put_decimal-number-requires
put_decimal-number-requires c = let d = digits (goal.at.put_decimal-number-requires c).Start in search rules

pub put-first-requires : goal.put-first-requires
put-first-requires c = let d = digits (goal.at.put-first-requires c).Start in search rules

pub put_hexadecimal-bytes-requires : goal.put_hexadecimal-bytes-requires
put_hexadecimal-bytes-requires c =
    let s = (goal.at.put_hexadecimal-bytes-requires c).Start in
    let d = digits s in
    let h = pairs s in
    search rules

pub put-requires : goal.put-requires
put-requires c =
    let s = (goal.at.put-requires c).Start in
    let d = digits s in
    let h = pairs s in
    search rules

pub returns : goal.returns
unfolding ok_lines
returns c =
    let e = c in
    let d = c in
    let n = c in
    let b = c in
    let a = c in
    let s = (goal.at.returns c).Start in
    put_five (ok_text ++ space) (decimal s.args.penalty) newline (hexadecimal s.args.payload.now) newline
    a.put-head.result b.put_decimal-number.result n.put-first.result d.put_hexadecimal-bytes.result e.put.result
    s.args.out.now a.put-head.new.out b.put_decimal-number.new.out n.put-first.new.out d.put_hexadecimal-bytes.new.out e.put.new.out
    (omega (arith, digits s, pairs s, s.requires.1))
    a.put-head.ensures b.put_decimal-number.ensures n.put-first.ensures d.put_hexadecimal-bytes.ensures e.put.ensures
