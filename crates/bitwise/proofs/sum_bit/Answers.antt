-- `bitwise::sum_bit` meets its contract: after s turns it has added the bits of the first s chosen rows. Assumes nothing.
use mathlib.Core.Path.{◌≡◌, refl, ap, ap₂, ◌∙◌}
use mathlib.Core.Bool.{◌&&◌}
use Rattle.base.specs.Bit.{bit, parity}
use Rattle.bits.specs.Packed.{bits}
use Rattle.kernel.specs.Rows.{row_bit}
use Rattle.bitwise.proofs.Sums.{sum-next}
use Rattle.bitwise.proofs.sum_bit.Goals as goal
use Rattle.bitwise.proofs.sum_bit.Goals.{else-chosen, then-chosen}

pub loop-s-init : goal.loop-s-init
unfolding parity
loop-s-init c = refl

pub loop-s-preserved : goal.loop-s-preserved
loop-s-preserved c =
    let a = c.args in
    let l = c.loop-s in
    let both : c.if-chosen.sum ≡ c.word_bit-chosen.result && c.word_bit-bit.result =
    (elim c.if-chosen.branch [ then-chosen w ↦ rw w.if-chosen.true w.sum-is | else-chosen w ↦ rw w.if-chosen.false (w.sum-is ∙ w.if-chosen.false) ]) in
    let read : c.word_bit-bit.result ≡ row_bit a.rows l.s a.j = c.word_bit-bit.ensures ∙ ap (λ n. bit (bits 16 n) a.j) c.from-in-loop-s.ensures in
    sum-next a.rows (bit (bits 16 a.x)) l.s a.j l.sum c.if-chosen.sum l.invariant
    (both ∙ ap₂ ◌&&◌ (c.word_bit-chosen.ensures ∙ ap (λ n. bit (bits 16 n) l.s) c.from.ensures) read)
