use mathlib.Core.Path.{◌≡◌}
use mathlib.Core.List.{List}
use Prim.Native.Nat.{ℕ, ◌+◌, ◌≤◌, ◌<◌}
use lib.IntN.{ℤ, ◌+ℤ◌, ◌-ℤ◌}
use lib.ListN.{length}
use Rattle.hadamard.proofs.Holding.{at}
use Rattle.hadamard.proofs.hadamard8.Given as goal

-- The sums and the differences of the first i places of either half.
pub record Round (z : List ℤ) (i : ℕ) (sums differences : List ℤ) : Type 0 where
  pub in-half : i ≤ 4
  pub as_many : length sums ≡ 4
  pub as-many-too : length differences ≡ 4
  pub sum-at : (j : ℕ) → j < i → at sums j ≡ at z j +ℤ at z (4 + j)
  pub difference-at : (j : ℕ) → j < i → at differences j ≡ at z j -ℤ at z (4 + j)

abbrev pub invariant-loop-i : goal.invariant-loop-i
invariant-loop-i l = Round l.values l.i l.sums l.differences
