-- How near a whole number is to the exact product of an amplitude and a scale, over whole numbers. Assumes nothing.
-- The size of a finite number x is the fraction num x / den x of whole numbers.
use Rattle.std.specs.Prelude.{ℕ, ◌*◌, ◌≤◌, min, ℤ, pos, nat_abs, ◌-ℤ◌, ◌*ℤ◌, Float}
use Rattle.std.specs.Float.Ieee.Positive.{num, den}
use Rattle.rounding.specs.Rounding.{is_negative, signed}

-- The exact product of x and a scale above zero is a fraction: its denominator,
abbrev pub product_den : Float → Float → ℕ
product_den scale x = den x * den scale

-- and its numerator once it is limited to -127 to 127.
abbrev pub limited_num : Float → Float → ℤ
limited_num scale x = signed (is_negative x) (min (127 * product_den scale x) (num x * num scale))

-- The distance d / c is at most 1/2 + 1/131072, which is 65537 / 131072.
abbrev pub Near : ℕ → ℕ → Type 0
Near d c = d * 131072 ≤ 65537 * c

-- v lies that near to the exact product limited to -127 to 127. Both are multiplied by the denominator.
unfoldable pub NearProduct : Float → Float → ℤ → Type 0
NearProduct scale x v = Near (nat_abs (v *ℤ pos (product_den scale x) -ℤ limited_num scale x)) (product_den scale x)
