-- What values from marks answers and writes, from its inputs alone. Assumes nothing.
use Rattle.std.specs.Prelude.{not, ◌||◌, List, [], ◌∷◌, ℕ, eqb, ltb, Float, ℤ, length}
use Rattle.std.specs.Float.Ieee.Positive.{positive}
use Rattle.base.specs.Bit.{tabulate}
use Rattle.answer.specs.Verdict.{Verdict, done, Check, condition, condition_at, settle, after}
use Rattle.quantiser.specs.Marks.{first_not_finite, value_at}

-- The checks, in checking order: the lengths of amplitudes and blanking mask, the room for values, a scale that is not a finite
-- number above zero, and a heard amplitude that is a NaN or infinite, the lowest such index being the place.
unfoldable pub marks_checks : Float → List Float → List ℕ → ℕ → List Check
marks_checks scale amplitudes blanked room =
    condition 2 (not (eqb (length amplitudes) 256) || not (eqb (length blanked) 16))
    ∷ condition 5 (ltb room 256)
    ∷ condition 10 (not (positive scale))
    ∷ condition_at 7 (first_not_finite amplitudes blanked) (ltb (first_not_finite amplitudes blanked) 256)
    ∷ []

-- Values from marks: the scale, 256 amplitudes and the blanking mask of 128 marks to 256 values.
unfoldable pub values_from_marks : Float → List Float → List ℕ → List ℤ → Verdict × List ℤ
values_from_marks scale amplitudes blanked values =
    let v = settle (marks_checks scale amplitudes blanked (length values)) done in
    (v, after v values (tabulate 256 (value_at scale amplitudes blanked)))
