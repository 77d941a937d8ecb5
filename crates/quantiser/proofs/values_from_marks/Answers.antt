-- `quantiser::values_from_marks` meets its contract: accepted it writes the values. Assumes nothing.
use mathlib.Core.Path.{ap, sym, ◌∙◌}
use mathlib.Core.List.{List}
use lib.IntN.{ℤ}
use Rattle.answer.specs.Verdict.{done}
use Rattle.quantiser.proofs.Accepted.{accepted, accepted-job}
use Rattle.quantiser.proofs.values_from_marks.Goals as goal

pub invariant_of-marks : goal.invariant_of-marks
invariant_of-marks c =
    let a = c.args in
    let p = accepted a.scale a.amplitudes.now a.blanked.now a.values.now c.in_ok-marks_check.ensures in
    record { lengths = (p.count, p.marks) }

pub store_values-requires : goal.store_values-requires
store_values-requires c =
    let a = c.args in
    let p = accepted a.scale a.amplitudes.now a.blanked.now a.values.now c.in_ok-marks_check.ensures in
    record {
      t = (p.scale-positive, p.room-enough);
      blanked_value = p.all-finite;
    }

pub returns : goal.returns
returns c =
    let a = c.args in
    accepted-job a.scale a.amplitudes.now a.blanked.now a.values.now c.in_ok-marks_check.ensures ∙ ap (λ (l : List ℤ). (done, l)) (sym c.store_values.ensures)
