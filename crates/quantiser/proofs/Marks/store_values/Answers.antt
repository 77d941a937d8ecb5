-- `quantiser::Marks::store_values` meets its contract: the values of n marks are stored. Assumes nothing.
use mathlib.Core.Path.{◌≡◌, refl, sym, ap, subst, ◌∙◌}
use native.Mathlib.Omega.{arith}
use mir.Syntax.{w8}
use mir.Val.{to_z, of_z}
use mir.Facts.{to_z-of_z}
use Rattle.base.specs.Bit.{tabulate}
use Rattle.quantiser.specs.Marks.{mark_at, value_at, pair_of, Sound}
use Rattle.quantiser.specs.declared.MarkValues.{MarkValues}
use Rattle.quantiser.proofs.Request.{all_sound, value-at, value-fits, two-more}
use Rattle.quantiser.proofs.Marks.store_values.Goals as goal

pub loop-n-init : goal.loop-n-init
unfolding tabulate
loop-n-init c = refl

pub values_of-pair-requires : goal.values_of-pair-requires
values_of-pair-requires c =
    let a = c.args in
    (c.requires.t.0, subst Sound (sym c.mark_at.ensures) (all_sound a.self.now.amplitudes.now a.self.now.blanked.now c.requires.blanked_value c.loop-n.n c.loop-n-test.true))

pub loop-n-preserved : goal.loop-n-preserved
loop-n-preserved c =
    let a = c.args in
    let l = c.loop-n in
    let k = c.loop-n-test.true in
    let g = c.requires.t.1 in
    let p = c.values_of-pair.result in
    let m = mark_at a.self.now.amplitudes.now a.self.now.blanked.now l.n in
    let e : p ≡ pair_of a.scale m = c.values_of-pair.ensures ∙ ap (pair_of a.scale) c.mark_at.ensures in
    two-more (value_at a.scale a.self.now.amplitudes.now a.self.now.blanked.now) l.n a.values.now l.values (to_z w8 (of_z w8 p.i)) (to_z w8 (of_z w8 p.q)) (omega arith) l.invariant
    (ap (λ (r : MarkValues). to_z w8 (of_z w8 r.i)) e ∙ to_z-of_z (value-fits a.scale m 0) ∙ sym (value-at a.self.now.amplitudes.now a.self.now.blanked.now a.scale l.n 0 (omega arith)))
    (ap (λ (r : MarkValues). to_z w8 (of_z w8 r.q)) e ∙ to_z-of_z (value-fits a.scale m 1) ∙ sym (value-at a.self.now.amplitudes.now a.self.now.blanked.now a.scale l.n 1 (omega arith)))
