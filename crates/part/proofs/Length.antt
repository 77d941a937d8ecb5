-- The length of the payload part. Assumes nothing.
use mathlib.Core.Bool.{Bool, true, false, not, ◌||◌}
use mathlib.Core.List.{List}
use Prim.Native.Nat.{ℕ, ◌≤◌}
use native.Mathlib.Omega.{arith}
use lib.Dec.{eqb}
use Rattle.plan.specs.declared.Plan.{Plan}
use Rattle.plan.specs.Plan.{bad_layers, bad_kernels, byte_count}
use Rattle.mask.specs.Mask.{payload_bytes}
use Rattle.mask.proofs.Mask.{bytes_le}
use Rattle.part.specs.Part.{part_length}

-- The payload part is no longer than the bytes that it is a part of.
pub part-le : (p : Plan) (mask : List ℕ) (n : ℕ) → part_length p mask n ≤ n
unfolding part_length
part-le p mask n = go (bad_layers p || bad_kernels p || not (eqb n (byte_count p)))
  where
    go : (c : Bool) → elim c [ true ↦ 0 | false ↦ payload_bytes n mask ] ≤ n
    go true = omega arith
    go false = bytes_le n mask
