-- Proof side: values from marks with the fixed factor 32, as it was before the scale was measured, by today's rounding. It stands
-- for the theorem that scale 32 gives it. Assumes nothing.
use Rattle.std.specs.Prelude.{not, ◌||◌, List, [], ◌∷◌, ℕ, ◌/◌, ◌%◌, eqb, ltb, Float, ℤ, pos, length}
use Rattle.base.specs.Bit.{tabulate}
use Rattle.answer.specs.Verdict.{Verdict, done, Check, condition, condition_at, settle, after}
use Rattle.rounding.specs.Fixed.{fixed_value}
use Rattle.quantiser.specs.declared.Mark.{Mark}
use Rattle.quantiser.specs.declared.Mark.TheVariants.{Heard, Blanked}
use Rattle.quantiser.specs.Marks.{amplitude, mark_at, first_not_finite}

-- Value j of a mark, and 0 for a blanked one.
abbrev pub fixed_value_of : Mark → ℕ → ℤ
fixed_value_of (Heard s) j = fixed_value (amplitude s j)
fixed_value_of Blanked j = pos 0

-- Value k of 256.
abbrev pub fixed_value_at : List Float → List ℕ → ℕ → ℤ
fixed_value_at amplitudes blanked k = fixed_value_of (mark_at amplitudes blanked (k / 2)) (k % 2)

-- The checks, in checking order.
abbrev pub fixed_checks : List Float → List ℕ → ℕ → List Check
fixed_checks amplitudes blanked room =
    condition 2 (not (eqb (length amplitudes) 256) || not (eqb (length blanked) 16))
    ∷ condition 5 (ltb room 256)
    ∷ condition_at 7 (first_not_finite amplitudes blanked) (ltb (first_not_finite amplitudes blanked) 256)
    ∷ []

-- The job.
abbrev pub fixed_from_marks : List Float → List ℕ → List ℤ → Verdict × List ℤ
fixed_from_marks amplitudes blanked values =
    let v = settle (fixed_checks amplitudes blanked (length values)) done in
    (v, after v values (tabulate 256 (fixed_value_at amplitudes blanked)))
