-- The nearest whole number to a binary32 number, limited to the range of the soft values. Assumes nothing.
-- A finite number is `fin s m e`: m * 2 ^ e, negative where s is true. Its power 2 ^ e is the fraction up e / down e.
use Rattle.std.specs.Prelude.{Bool, true, false, ℤ, pos, neg_ℤ, Float}
use Prim.Native.Nat.{Ordering}
use Prim.Native.Nat.{ℕ, suc, ◌*◌, ◌/◌, ◌%◌, min, compare}
use Rattle.std.specs.Float.{nan, inf, fin}
use Rattle.std.specs.Float.Ieee.{up, down}

-- The rounding: the whole number nearest to a / b, for a b above 0. A half goes to the neighbour farther from zero.
unfoldable pub rounded : ℕ → ℕ → ℕ
rounded a b =
    let q = a / b in
    elim (compare (a % b * 2) b) [ Ordering.lt ↦ q | Ordering.eq ↦ suc q | Ordering.gt ↦ suc q ]

-- The size of a number, to the nearest whole number. An infinity, which is what a product that overflows gives, stands at the
-- limit. A NaN has no size, and no job asks for it.
abbrev pub steps : Float → ℕ
steps nan = 0
steps (inf s) = 127
steps (fin s m e) = rounded (m * up e) (down e)

-- The same, limited to 127.
abbrev pub limited : Float → ℕ
limited x = min 127 (steps x)

-- Whether a number has the minus sign.
abbrev pub is_negative : Float → Bool
is_negative nan = false
is_negative (inf s) = s
is_negative (fin s m e) = s

-- n, or minus n where s is true.
abbrev pub signed : Bool → ℕ → ℤ
signed true n = neg_ℤ (pos n)
signed false n = pos n

-- A number to the nearest whole number, then to the range -127 to 127. An infinity goes to the limit of its sign, minus zero to 0.
unfoldable pub nearest_limited : Float → ℤ
nearest_limited x = signed (is_negative x) (limited x)
