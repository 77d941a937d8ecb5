-- With scale 32 values from marks is the job with the fixed factor, by today's rounding. Assumes nothing.
use mathlib.Core.Path.{◌≡◌, refl, ap}
use mathlib.Core.Bool.{Bool, true, false}
use mathlib.Core.List.{List}
use Prim.Native.Nat.{ℕ, zero, suc, ◌+◌, ◌*◌, ◌/◌, ◌%◌, ◌<◌}
use lib.Dec.{T}
use lib.Ieee.{Float, nan, binary32, fits}
use lib.IntN.{ℤ}
use lib.ListN.{length, get_or}
use Rattle.base.specs.Bit.{bit}
use Rattle.base.proofs.List.{tabulate-cong}
use Rattle.bits.specs.Packed.{unpack}
use Rattle.answer.specs.Verdict.{done, settle, after}
use Rattle.rounding.specs.Fixed.{thirty_two}
use Rattle.rounding.proofs.Fixed.{times_32}
use Rattle.quantiser.specs.Marks.{value_of, value_at}
use Rattle.quantiser.specs.Jobs.{marks_checks, values_from_marks}
use Rattle.quantiser.proofs.Request.{mark_by}
use Rattle.scaled.specs.Fixed.{fixed_value_of, fixed_value_at, fixed_checks, fixed_from_marks}

-- Value k is that of the fixed factor, whatever the mark.
same-value : (amplitudes : List Float) (blanked : List ℕ) → ((i : ℕ) → T (fits binary32 (get_or amplitudes i nan)))
    → (k : ℕ) → k < 256 → value_at thirty_two amplitudes blanked k ≡ fixed_value_at amplitudes blanked k
unfolding value_at
same-value amplitudes blanked held k l = go (bit (unpack blanked) (k / 2)) (k % 2)
  where
    n : ℕ
    n = k / 2

    go : (b : Bool) (j : ℕ) → value_of thirty_two (mark_by b (get_or amplitudes (2 * n) nan) (get_or amplitudes (2 * n + 1) nan)) j ≡ fixed_value_of (mark_by b (get_or amplitudes (2 * n) nan) (get_or amplitudes (2 * n + 1) nan)) j
    go true j = refl
    go false zero = times_32 (get_or amplitudes (2 * n) nan) (held (2 * n))
    go false (suc j) = times_32 (get_or amplitudes (2 * n + 1) nan) (held (2 * n + 1))

-- For every request, accepted or refused, whose amplitudes are numbers of binary32, as those of a slice of f32 are.
pub scale-32 : (amplitudes : List Float) (blanked : List ℕ) (values : List ℤ) → ((i : ℕ) → T (fits binary32 (get_or amplitudes i nan)))
    → values_from_marks thirty_two amplitudes blanked values ≡ fixed_from_marks amplitudes blanked values
unfolding values_from_marks marks_checks
scale-32 amplitudes blanked values held =
    let v = settle (fixed_checks amplitudes blanked (length values)) done in
    ap (λ (new : List ℤ). (v, after v values new)) (tabulate-cong 256 (same-value amplitudes blanked held))
