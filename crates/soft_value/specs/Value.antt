-- The soft value of an amplitude under a scale. Assumes nothing.
use Rattle.std.specs.Prelude.{Float, ℤ}
use Rattle.std.specs.Float.{binary32}
use Rattle.std.specs.Float.Ieee.{mul}
use Rattle.rounding.specs.Rounding.{nearest_limited}

-- The soft value of an amplitude, the paper's value of it: its product with the scale, rounded once in binary32, to the nearest
-- whole number, then to the range. A product that overflows is infinite there, and goes to 127 or -127 by its sign.
abbrev pub soft_value : Float → Float → ℤ
soft_value scale x = nearest_limited (mul binary32 x scale)
