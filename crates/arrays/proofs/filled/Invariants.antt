use Rattle.std.proofs.Common.{ℕ, ◌<◌, get_or, ◌≡◌, length}
use Rattle.arrays.proofs.filled.Given as goal

abbrev pub invariant-loop-i : goal.invariant-loop-i
invariant-loop-i g l = (length l.out ≡ l.i-end) × ((j : ℕ) (d : _) → j < l.i → goal.F-post g l.entry j (get_or l.out j d))
