-- A channel value of eight bits, widened. Assumes nothing.
use mathlib.Core.Path.{◌≡◌, ◌∙◌}
use lib.IntN.{ℤ}
use mir.Facts.{to_z-of_z, sfits_widen}
use mir.Syntax.{w8, w32}
use mir.Val.{SFits, to_z, of_z}

module _ (y : ℤ) (f : SFits w8 y) where
  -- A value of eight bits, widened, fits,
  pub wide_fits : SFits w32 (to_z w8 (of_z w8 y))
  wide_fits = rw (to_z-of_z f) (sfits_widen tt f)

  -- and is the value.
  pub wide_is : to_z w32 (of_z w32 (to_z w8 (of_z w8 y))) ≡ y
  wide_is = to_z-of_z wide_fits ∙ to_z-of_z f
