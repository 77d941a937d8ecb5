-- In every accepted request each value of a heard mark is the soft value of its amplitude, and near to the exact product.
-- Assumes nothing.
use mathlib.Core.Path.{◌≡◌, sym, ap, subst, ◌∙◌}
use mathlib.Core.Bool.{false, not}
use mathlib.Core.List.{List}
use Prim.Native.Nat.{ℕ, zero, suc, ◌+◌, ◌*◌, ◌/◌, ◌%◌, ◌<◌}
use native.Mathlib.Omega.{arith}
use lib.Dec.{T}
use lib.Ieee.{Float, nan}
use lib.Ieee.Scale.{finite}
use lib.IntN.{ℤ, pos}
use lib.ListN.{get_or}
use Rattle.base.specs.Bit.{bit, tabulate}
use Rattle.base.proofs.List.{length-tabulate, tabulate-at}
use Rattle.bits.specs.Packed.{unpack}
use Rattle.answer.specs.Verdict.{done}
use Rattle.answer.proofs.Written.{after-at}
use Rattle.soft_value.specs.Value.{soft_value}
use Rattle.rounding.specs.Bound.{NearProduct}
use Rattle.rounding.proofs.Bound.{product-near}
use Rattle.quantiser.specs.Marks.{amplitude, offends, value_of, not_finite, first_not_finite, value_at}
use Rattle.quantiser.specs.Jobs.{values_from_marks}
use Rattle.quantiser.proofs.Lowest.{lowest-before}
use Rattle.quantiser.proofs.Request.{sound-finite, heard-mark}
use Rattle.quantiser.proofs.Accepted.{accepted}

module _ (amplitudes : List Float) (blanked : List ℕ) (k : ℕ) (heard : bit (unpack blanked) (k / 2) ≡ false) where
  -- Amplitude k is that of its mark.
  own-amplitude : amplitude (record { i = get_or amplitudes (2 * (k / 2)) nan; q = get_or amplitudes (2 * (k / 2) + 1) nan }) (k % 2) ≡ get_or amplitudes k nan
  own-amplitude = go (k % 2) (omega arith) (omega arith)
    where
      go : (j : ℕ) → 2 * (k / 2) + j ≡ k → j < 2
          → amplitude (record { i = get_or amplitudes (2 * (k / 2)) nan; q = get_or amplitudes (2 * (k / 2) + 1) nan }) j ≡ get_or amplitudes k nan
      go zero e l = let f : 2 * (k / 2) ≡ k = omega arith in ap (λ n. get_or amplitudes n nan) f
      go (suc j) e l = let f : 2 * (k / 2) + 1 ≡ k = omega arith in ap (λ n. get_or amplitudes n nan) f

  -- So value k is its soft value,
  heard-value : (scale : Float) → value_at scale amplitudes blanked k ≡ soft_value scale (get_or amplitudes k nan)
  unfolding value_at
  heard-value scale = ap (λ m. value_of scale m (k % 2)) (sym (heard-mark amplitudes blanked (k / 2) heard)) ∙ ap (soft_value scale) own-amplitude

  -- and the amplitude is finite where it does not offend.
  heard-finite : not_finite amplitudes blanked k ≡ false → T (finite (get_or amplitudes k nan))
  unfolding not_finite
  heard-finite e =
      sound-finite (get_or amplitudes k nan)
      (ap (λ x. not (finite x)) (sym own-amplitude) ∙ ap (λ m. offends m (k % 2)) (heard-mark amplitudes blanked (k / 2) heard) ∙ e)

-- For every request that is accepted and every amplitude k of a heard mark: the value written at k is its soft value,
pub values-soft : (scale : Float) (amplitudes : List Float) (blanked : List ℕ) (out : List ℤ) → (values_from_marks scale amplitudes blanked out).0 ≡ done
    → (k : ℕ) → k < 256 → bit (unpack blanked) (k / 2) ≡ false
    → get_or (values_from_marks scale amplitudes blanked out).1 k (pos 0) ≡ soft_value scale (get_or amplitudes k nan)
unfolding values_from_marks
values-soft scale amplitudes blanked out a k l heard =
    let f = value_at scale amplitudes blanked in
    after-at _ out (tabulate 256 f) 256 (length-tabulate 256 f) a k (pos 0) l
    ∙ tabulate-at 256 f k (pos 0) l
    ∙ heard-value amplitudes blanked k heard scale

-- and lies within 1/2 + 1/131072 of the exact product of scale and amplitude, limited to -127 to 127.
pub values-near : (scale : Float) (amplitudes : List Float) (blanked : List ℕ) (out : List ℤ) → (values_from_marks scale amplitudes blanked out).0 ≡ done
    → (k : ℕ) → k < 256 → bit (unpack blanked) (k / 2) ≡ false
    → NearProduct scale (get_or amplitudes k nan) (get_or (values_from_marks scale amplitudes blanked out).1 k (pos 0))
unfolding values_from_marks first_not_finite
values-near scale amplitudes blanked out a k l heard =
    let p = accepted scale amplitudes blanked out (sym a) in
    let x = get_or amplitudes k nan in
    let fine = heard-finite amplitudes blanked k heard (lowest-before 256 (not_finite amplitudes blanked) k (omega (arith, p.all-finite))) in
    subst (λ (v : ℤ). NearProduct scale x v) (sym (values-soft scale amplitudes blanked out a k l heard)) (product-near scale x p.scale-positive fine)
