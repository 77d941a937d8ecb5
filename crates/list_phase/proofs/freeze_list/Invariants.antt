use mathlib.Core.Path.{◌≡◌}
use Prim.Native.Nat.{ℕ, ◌≤◌, ◌<◌}
use lib.ListN.{length, drop, get_or}
use Rattle.path.specs.Path.{path_at}
use Rattle.list_phase.specs.Next.{Frozen}
use Rattle.list_phase.proofs.freeze_list.Given as goal

abbrev pub invariant-loop-i : goal.invariant-loop-i
invariant-loop-i l = (length l.scratch ≡ length l.initial.scratch) × (drop 4096 l.scratch ≡ drop 4096 l.initial.scratch) × ((j : ℕ) → j < l.i → Frozen (get_or l.pens j 0) (path_at j l.initial.scratch) (path_at j l.scratch)) × ((j : ℕ) → l.i ≤ j → j < 8 → path_at j l.scratch ≡ path_at j l.initial.scratch)
