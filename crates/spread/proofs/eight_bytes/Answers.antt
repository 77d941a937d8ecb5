-- `spread::eight_bytes` meets its contract. Assumes nothing.
use Rattle.std.proofs.Common.{◌≡◌, ◌+◌, ◌*◌, ◌%◌, drop, sym, ap, ◌∙◌, arith, drop-drop}
use Rattle.bits.specs.Packed.{bits, unpack, pad}
use Rattle.bits.proofs.Packed.{side_by_side}
use Rattle.spread.proofs.eight_bytes.Goals as goal

pub returns : goal.returns
returns c =
    let a = c.args in
    let l = unpack a.s.now in
    let n : 8 * (a.i + 4) ≡ 8 * a.i + 32 = omega arith in
    ap (bits 64) (let e : c.four_bytes.result * 4294967296 % 18446744073709551616 + c.four_bytes-2.result ≡ 4294967296 * c.four_bytes.result + c.four_bytes-2.result = omega (arith, c.four_bytes.type_inv) in e)
    ∙ side_by_side 32 c.four_bytes.result c.four_bytes-2.result (drop (8 * a.i) l) (omega (arith, c.four_bytes-2.type_inv)) c.four_bytes.ensures
    (c.four_bytes-2.ensures ∙ ap (λ k. pad 32 (drop k l)) n ∙ ap (pad 32) (sym (drop-drop 32 (8 * a.i) l)))
