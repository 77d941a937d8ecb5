-- Received marks, and the soft values of them. Assumes nothing.
use Rattle.std.specs.Prelude.{◌≡◌, Bool, true, false, not, List, ℕ, zero, suc, ◌+◌, ◌*◌, ◌/◌, ◌%◌, ◌<◌, Float, ℤ, pos, get_or}
use Rattle.std.specs.Float.{nan}
use Rattle.std.specs.Float.Ieee.Scale.{finite}
use Rattle.base.specs.Bit.{bit}
use Rattle.bits.specs.Packed.{unpack}
use Rattle.soft_value.specs.Value.{soft_value}
use Rattle.quantiser.specs.declared.Symbol.{Symbol}
use Rattle.quantiser.specs.declared.Mark.{Mark}
use Rattle.quantiser.specs.declared.Mark.TheVariants.{Heard, Blanked}
use Rattle.quantiser.specs.declared.Side.{Side}
use Rattle.quantiser.specs.declared.Side.TheVariants.{I, Q}
use Rattle.quantiser.specs.declared.MarkValues.{MarkValues}

-- Mark n: blanked where bit n of the packed blanking mask is 1, else heard, with the amplitudes 2n (I) and 2n + 1 (Q).
abbrev pub mark_at : List Float → List ℕ → ℕ → Mark
mark_at amplitudes blanked n = elim (bit (unpack blanked) n) [
  | true ↦ Blanked
  | false ↦ Heard (record { i = get_or amplitudes (2 * n) nan; q = get_or amplitudes (2 * n + 1) nan })
]

-- The amplitudes of a heard mark: 0 is I, 1 is Q.
abbrev pub amplitude : Symbol → ℕ → Float
amplitude s zero = s.i
amplitude s (suc j) = s.q

-- Whether amplitude j of a mark is a NaN or infinite. Those of a blanked mark are not looked at.
abbrev pub offends : Mark → ℕ → Bool
offends (Heard s) j = not (finite (amplitude s j))
offends Blanked j = false

-- Value j of a mark: the soft value of its amplitude, and 0 for a blanked one.
abbrev pub value_of : Float → Mark → ℕ → ℤ
value_of scale (Heard s) j = soft_value scale (amplitude s j)
value_of scale Blanked j = pos 0

-- The lowest i below n of which f holds, or n where there is none.
unfoldable pub lowest : ℕ → (ℕ → Bool) → ℕ
lowest zero f = 0
lowest (suc n) f = elim (f zero) [ true ↦ 0 | false ↦ suc (lowest n (λ i. f (suc i))) ]

-- Whether amplitude k of 256 is that of a heard mark, and a NaN or infinite.
unfoldable pub not_finite : List Float → List ℕ → ℕ → Bool
not_finite amplitudes blanked k = offends (mark_at amplitudes blanked (k / 2)) (k % 2)

-- The lowest of these, or 256 where there is none.
unfoldable pub first_not_finite : List Float → List ℕ → ℕ
first_not_finite amplitudes blanked = lowest 256 (not_finite amplitudes blanked)

-- Value k of 256: that of mark k / 2.
unfoldable pub value_at : Float → List Float → List ℕ → ℕ → ℤ
value_at scale amplitudes blanked k = value_of scale (mark_at amplitudes blanked (k / 2)) (k % 2)

-- Proof side: the two values of a mark as the code holds them, and a mark none of whose amplitudes offends.
abbrev pub pair_of : Float → Mark → MarkValues
pair_of scale m = record { i = value_of scale m 0; q = value_of scale m 1 }

abbrev pub Sound : Mark → Type 0
Sound m = (offends m 0 ≡ false) × (offends m 1 ≡ false)

-- The place of an amplitude in its mark.
abbrev pub place_in_mark : Side → ℕ
place_in_mark I = 0
place_in_mark Q = 1
