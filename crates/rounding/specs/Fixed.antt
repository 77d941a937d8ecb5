-- Proof side: the soft value of an amplitude with the fixed factor 32, as it was before the scale was measured, by the rounding of
-- Rounding.antt. It stands for the theorem that scale 32 gives it. Assumes nothing.
use Rattle.std.specs.Prelude.{false, ℕ, ◌*◌, min, ℤ, pos, Float}
use Rattle.std.specs.Float.{nan, inf, fin}
use Rattle.std.specs.Float.Ieee.{up, down}
use Rattle.rounding.specs.Rounding.{rounded, is_negative, signed}

-- The number 32.0.
abbrev pub thirty_two : Float
thirty_two = fin false 1 (pos 5)

-- 32 times the exact size of a number, to the nearest whole number.
abbrev pub fixed_steps : Float → ℕ
fixed_steps nan = 0
fixed_steps (inf s) = 127
fixed_steps (fin s m e) = rounded (32 * (m * up e)) (down e)

-- The same with the number's sign, limited to -127 to 127.
abbrev pub fixed_value : Float → ℤ
fixed_value x = signed (is_negative x) (min 127 (fixed_steps x))
