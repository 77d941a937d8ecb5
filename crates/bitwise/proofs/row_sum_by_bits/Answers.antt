-- `bitwise::row_sum_by_bits` meets its contract: after j turns c is the number of the first j bits. Assumes nothing.
use mathlib.Core.Path.{◌≡◌, refl, sym, ap, ap₂, ◌∙◌}
use Prim.Native.Nat.{◌+◌, ◌*◌, ◌<◌}
use mir.Val.{bool_byte}
use borrow.Author.Rules.{rules}
use Rattle.base.specs.Bit.{tabulate}
use Rattle.bits.specs.Packed.{number}
use Rattle.kernel.specs.Rows.{chosen_sum}
use Rattle.bitwise.proofs.Sums.{byte-lt, number-next, number-room}
use Rattle.bitwise.proofs.row_sum_by_bits.Invariants.{bit_of}
use Rattle.bitwise.proofs.row_sum_by_bits.Goals as goal

pub loop-j-init : goal.loop-j-init
unfolding number tabulate
loop-j-init c = refl

pub overflow_mul-c : goal.overflow_mul-c
overflow_mul-c c =
    let a = c.args in
    let below : c.loop-j.j < 16 = search rules in
    search (rules, number-room (bit_of a.rows a.x) c.loop-j.j below)

pub overflow_add-c : goal.overflow_add-c
overflow_add-c c =
    let a = c.args in
    let l = c.loop-j in
    let below : l.j < 16 = search rules in
    search (rules, number-room (bit_of a.rows a.x) l.j below, byte-lt c.sum_bit.result)

pub loop-j-preserved : goal.loop-j-preserved
loop-j-preserved c =
    let l = c.loop-j in
    ap₂ (λ n b. 2 * n + b) l.invariant (c.from.ensures ∙ ap bool_byte c.sum_bit.ensures) ∙ sym (number-next _ l.j)

pub returns : goal.returns
unfolding chosen_sum
returns c =
    let a = c.args in
    let l = c.loop-j in
    let e : l.j ≡ 16 = search rules in
    l.invariant ∙ ap (λ n. number (tabulate n (bit_of a.rows a.x))) e
