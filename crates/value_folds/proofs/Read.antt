-- A number of thirty-two bits as the code reads it. Assumes nothing.
use mathlib.Core.Path.{◌≡◌}
use Prim.Native.Nat.{ℕ, ◌^◌, ◌≤◌, ◌<◌}
use lib.IntN.{ℤ, nat_abs}
use lib.Signed.{mag}
use mir.Facts.{to_z-of_z}
use mir.Syntax.{w32}
use mir.Val.{to_z, of_z}

module _ (x : ℤ) (h : mag x < 2 ^ 31) where
  -- It is the number,
  pub read_is : to_z w32 (of_z w32 x) ≡ x
  read_is = to_z-of_z {w = w32} (record { sfits = h })

  -- and has its bounds.
  pub read_small : (n : ℕ) → nat_abs x ≤ n → nat_abs (to_z w32 (of_z w32 x)) ≤ n
  read_small n l = rw read_is l
