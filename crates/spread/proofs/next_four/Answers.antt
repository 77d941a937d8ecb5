-- `spread::next_four` meets its contract: r bytes more are stored, and d bits are used from bit 8 q on. Assumes nothing.
use Rattle.std.proofs.Common.{◌≡◌, ℕ, ◌+◌, ◌-◌, ◌*◌, ◌/◌, ◌%◌, ◌^◌, ◌<◌, length, get_or, drop, sym, ap, ◌∙◌, arith, drop-drop, rules}
use Rattle.bits.specs.Packed.{unpack, pad}
use Rattle.bits.proofs.Packed.{bits-from}
use Rattle.spread.specs.Spreading.{marks_before, next_part}
use Rattle.payload.proofs.Tables.{marks-le}
use Rattle.spread.proofs.Spreading.{marks-before-le, next-length, next-count, next_marks, next-stored}
use Rattle.spread.proofs.next_four.Goals as goal

pub eight_bytes-x-requires : goal.eight_bytes-x-requires
eight_bytes-x-requires c =
    let s = c in
    omega (arith, s.requires.j_value.0, marks-before-le s.args.mask.now s.args.i (omega (arith, s.requires.i_in_bounds.0)))

pub loop-r-init : goal.loop-r-init
loop-r-init c =
    let s = c in
    let a = s.args in
    let mask = a.mask.now in
    let p = unpack a.payload.now in
    let z : a.i + 0 ≡ a.i = omega arith in (
      next-length mask p a.bytes.now a.i (omega (arith, s.requires.i_in_bounds.0)) s.requires.j_value.1,
      omega arith,
      omega (arith, s.requires.j_value.0, ap (marks_before mask) z),
      s.requires.j_value.1 ∙ ap (next_part mask p) (sym z),
    )

pub loop-r-preserved : goal.loop-r-preserved
loop-r-preserved c =
    let s = c in
    let a = s.args in
    let l = c.loop-r in
    let mask = a.mask.now in
    let p = unpack a.payload.now in
    let q : ℕ = a.j / 8 in
    let k : ℕ = a.i + l.r in
    let x = c.eight_bytes-x.result in
    let h : k < length mask = omega (arith, s.requires.i_in_bounds.0) in
    let e : a.i + (l.r + 1) ≡ k + 1 = omega arith in (
      search rules,
      omega (arith, l.invariant.1, next-count mask p l.bytes k h l.invariant.3, marks-le 8 (get_or mask k 0)),
      omega (arith, next_marks mask p l.bytes k h l.invariant.3 (8 * q + l.d) l.invariant.2, ap (marks_before mask) e),
      next-stored mask p l.bytes k h l.invariant.3 (8 * q + l.d) (x / 2 ^ (56 - l.d) % 256) l.invariant.2 (omega arith)
          (bits-from 8 56 x l.d (drop (8 * q) p) (omega (arith, l.invariant.1)) c.eight_bytes-x.ensures ∙ ap (pad 8) (drop-drop l.d (8 * q) p))
          ∙ ap (next_part mask p) (sym e),
    )

pub overflow_add-result : goal.overflow_add-result
overflow_add-result c =
    let s = c in
    omega (arith, c.loop-r.invariant.1, s.requires.j_value.0, marks-before-le s.args.mask.now s.args.i (omega (arith, s.requires.i_in_bounds.0)))
