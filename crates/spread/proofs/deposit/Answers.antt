-- `spread::deposit` meets its contract: the first i bytes are stored, and the others are as they were. Assumes nothing.
use Rattle.std.proofs.Common.{◌≡◌, ℕ, length, get_or, set, refl, ap, ◌∙◌, arith, rules}
use Rattle.base.specs.Bit.{tabulate}
use Rattle.base.proofs.List.{filled, fill-next, fill-rest, fill-all}
use Rattle.bits.specs.Packed.{bits, number}
use Rattle.payload.specs.Payload.{spread}
use Rattle.spread.specs.Spreading.{deposited}
use Rattle.spread.proofs.deposit.Goals as goal

pub loop-i-init : goal.loop-i-init
unfolding tabulate
loop-i-init c = refl

pub loop-i-preserved : goal.loop-i-preserved
loop-i-preserved c =
    let a = c.args in
    let l = c.loop-i in
    let m = bits 8 (get_or a.mask.now l.i 0) in
    let f : ℕ → ℕ = λ k. number (spread (bits 8 (get_or a.mask.now k 0)) (bits 8 (get_or a.symbols.now k 0))) in
    let z = c.deposit_byte.result in
    ap (λ s. set s l.i z) l.invariant
    ∙ fill-next f l.i a.symbols.now z (search rules)
    (c.deposit_byte.ensures
    ∙ ap (λ x. number (spread m (bits 8 x))) (ap (λ s. get_or s l.i 0) l.invariant ∙ fill-rest f l.i a.symbols.now l.i 0 (omega arith)))

pub returns : goal.returns
unfolding deposited
returns c =
    let s = c in
    let a = s.args in
    let l = c.loop-i in
    let n = length a.mask.now in
    let f : ℕ → ℕ = λ k. number (spread (bits 8 (get_or a.mask.now k 0)) (bits 8 (get_or a.symbols.now k 0))) in
    let e : l.i ≡ n = search rules in
    l.invariant ∙ ap (λ n. filled f n a.symbols.now) e ∙ fill-all f n a.symbols.now s.requires
