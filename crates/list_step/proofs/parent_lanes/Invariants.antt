use mathlib.Core.Path.{◌≡◌}
use Prim.Native.Nat.{ℕ, ◌/◌, ◌<◌}
use lib.ListN.{length, get_or}
use Rattle.list_step.proofs.parent_lanes.Given as goal

abbrev pub invariant-loop-j : goal.invariant-loop-j
invariant-loop-j l = (length l.out ≡ 16) × ((i : ℕ) → i < l.j → get_or l.out i 0 ≡ get_or l.lanes (get_or l.order i 0 / 2) 0)
