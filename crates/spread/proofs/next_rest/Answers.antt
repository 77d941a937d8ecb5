-- `spread::next_rest` meets its contract: the first i bytes are stored, and j bits of the payload are used. Assumes nothing.
use Rattle.std.proofs.Common.{◌≡◌, ◌<◌, length, get_or, ap, ◌∙◌, arith, rules}
use Rattle.bits.specs.Packed.{unpack}
use Rattle.payload.proofs.Tables.{marks-le}
use Rattle.spread.specs.Spreading.{next_part}
use Rattle.spread.proofs.Spreading.{marks-before-le, next-length, next-count, next_marks, next-stored, next-all}
use Rattle.spread.proofs.next_rest.Goals as goal

pub loop-i-init : goal.loop-i-init
loop-i-init c =
    let s = c in
    let a = s.args in
    (next-length a.mask.now (unpack a.payload.now) a.bytes.now a.start (search rules) s.requires.used_value.1, s.requires.used_value.0, s.requires.used_value.1)

pub next_byte-requires : goal.next_byte-requires
next_byte-requires c =
    let s = c in
    let l = c.loop-i in
    omega (arith, l.invariant.1, s.requires.start_in_bounds.1, marks-before-le s.args.mask.now l.i (search rules))

pub overflow_add-j : goal.overflow_add-j
overflow_add-j c =
    let s = c in
    let l = c.loop-i in
    let mask = s.args.mask.now in
    omega (arith, l.invariant.1, s.requires.start_in_bounds.1, marks-before-le mask l.i (search rules), next-count mask (unpack s.args.payload.now) l.bytes l.i (search rules) l.invariant.2, marks-le 8 (get_or mask l.i 0))

pub loop-i-preserved : goal.loop-i-preserved
loop-i-preserved c =
    let a = c.args in
    let l = c.loop-i in
    let mask = a.mask.now in
    let p = unpack a.payload.now in
    let h : l.i < length mask = search rules in (
      search rules,
      next_marks mask p l.bytes l.i h l.invariant.2 l.j l.invariant.1,
      next-stored mask p l.bytes l.i h l.invariant.2 l.j c.next_byte.result l.invariant.1 (omega (arith, c.next_byte.type_inv)) c.next_byte.ensures,
    )

pub returns : goal.returns
returns c =
    let a = c.args in
    let l = c.loop-i in
    let e : l.i ≡ length a.mask.now = search rules in
    l.invariant.2 ∙ ap (next_part a.mask.now (unpack a.payload.now)) e ∙ next-all a.mask.now (unpack a.payload.now)
