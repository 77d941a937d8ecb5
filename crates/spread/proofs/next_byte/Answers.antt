-- `spread::next_byte` meets its contract. Assumes nothing.
use Rattle.std.proofs.Common.{◌≡◌, ◌+◌, ◌*◌, ◌/◌, ◌%◌, drop, ap, ◌∙◌, arith, drop-drop}
use Rattle.bits.specs.Packed.{unpack, pad}
use Rattle.bits.proofs.Packed.{bits-from}
use Rattle.spread.proofs.next_byte.Goals as goal

pub returns : goal.returns
returns c =
    let a = c.args in
    let l = unpack a.s.now in
    let q = 8 * (a.i / 8) in
    let e : q + a.i % 8 ≡ a.i = omega arith in
    bits-from 8 56 _ (a.i % 8) (drop q l) (omega arith) c.eight_bytes-x.ensures
    ∙ ap (pad 8) (drop-drop (a.i % 8) q l ∙ ap (λ n. drop n l) e)
