use mathlib.Core.Path.{◌≡◌}
use mathlib.Core.List.{[]}
use Prim.Native.Nat.{ℕ, ◌<◌}
use lib.ListN.{length, get_or}
use Rattle.list_run.specs.Run.{NextPlanes}
use Rattle.list_run.proofs.next_planes.Given as goal

abbrev pub invariant-loop-i : goal.invariant-loop-i
invariant-loop-i l =
    (length l.out ≡ 8) × ((k : ℕ) → k < 8 → length (get_or l.out k []) ≡ 16) × NextPlanes l.matrix l.r l.i l.scratch l.home l.planes l.out
