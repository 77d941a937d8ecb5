-- What the acceptance of the checks yields, and what the job leaves. Assumes nothing.
use mathlib.Core.Path.{◌≡◌, sym, ap, ◌∙◌, subst}
use mathlib.Core.Bool.{false, not}
use mathlib.Core.List.{List, ◌++◌}
use Prim.Native.Nat.{ℕ, ◌≤◌}
use native.Mathlib.Omega.{arith}
use borrow.Author.Tests.{not-false, eqb-true, ltb-false}
use lib.Dec.{T, ltb}
use lib.Ieee.{Float}
use lib.Ieee.Positive.{positive}
use lib.IntN.{ℤ}
use lib.ListN.{length, drop}
use Rattle.base.specs.Bit.{tabulate}
use Rattle.base.proofs.Bool.{or-eq-false}
use Rattle.base.proofs.List.{length-tabulate}
use Rattle.answer.specs.Verdict.{Verdict, done, is_accepted, settle, after}
use Rattle.answer.proofs.Settle.{None, none_of}
use Rattle.quantiser.specs.Marks.{first_not_finite, not_finite, value_at}
use Rattle.quantiser.specs.Jobs.{marks_checks, values_from_marks}
use Rattle.quantiser.proofs.Lowest.{lowest-le}

-- Inputs that pass all checks.
pub record Accepted (scale : Float) (amplitudes : List Float) (blanked : List ℕ) (room : ℕ) : Type 0 where
  pub count : length amplitudes ≡ 256
  pub marks : length blanked ≡ 16
  pub room-enough : 256 ≤ room
  pub scale-positive : T (positive scale)
  pub all-finite : first_not_finite amplitudes blanked ≡ 256

passes : (scale : Float) (amplitudes : List Float) (blanked : List ℕ) (room : ℕ) → None (marks_checks scale amplitudes blanked room) → Accepted scale amplitudes blanked room
unfolding marks_checks first_not_finite
passes scale amplitudes blanked room n =
    let usable : not (positive scale) ≡ false = n.1.1.0 in
    let sound : ltb (first_not_finite amplitudes blanked) 256 ≡ false = n.1.1.1.0 in
    let e = or-eq-false _ _ n.0 in
    let f = ltb-false (first_not_finite amplitudes blanked) 256 sound in
    let g = lowest-le 256 (not_finite amplitudes blanked) in
    record {
      count = eqb-true (length amplitudes) 256 (not-false _ e.0);
      marks = eqb-true (length blanked) 16 (not-false _ e.1);
      room-enough = ltb-false room 256 n.1.0;
      scale-positive = subst T (sym (not-false (positive scale) usable)) tt;
      all-finite = omega arith;
    }

module _ (scale : Float) (amplitudes : List Float) (blanked : List ℕ) (values : List ℤ) (ok : done ≡ settle (marks_checks scale amplitudes blanked (length values)) done) where
  pub accepted : Accepted scale amplitudes blanked (length values)
  accepted = passes scale amplitudes blanked (length values) (none_of (marks_checks scale amplitudes blanked (length values)) done (ap is_accepted (sym ok)))

  -- An accepted job leaves the values and what lies past them.
  pub accepted-job : values_from_marks scale amplitudes blanked values ≡ (done, tabulate 256 (value_at scale amplitudes blanked) ++ drop 256 values)
  unfolding values_from_marks
  accepted-job =
      let new = tabulate 256 (value_at scale amplitudes blanked) in
      ap (λ (x : Verdict). (x, after x values new)) (sym ok)
      ∙ ap (λ n. (done, new ++ drop n values)) (length-tabulate 256 (value_at scale amplitudes blanked))
