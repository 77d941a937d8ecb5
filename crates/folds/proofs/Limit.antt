-- What the limit of a value has to satisfy, computed. All that the engine asks of it follows from these. Assumes nothing.
use Prim.Native.Nat.{◌*◌, ◌≤◌}
use native.Mathlib.Omega.{arith}
use Rattle.folds.specs.Range.{value_limit}

-- Sixteen costs together are no more than the engine's numbers have room for,
pub limit-room : 16 * value_limit ≤ 16777216
unfolding value_limit
limit-room = omega arith

-- and a score of sixteen values of a frame is a value.
pub frame-inside : 16 * 127 ≤ value_limit
unfolding value_limit
frame-inside = omega arith
