use mathlib.Core.Path.{◌≡◌}
use mathlib.Core.List.{[]}
use Prim.Native.Nat.{ℕ, ◌<◌}
use lib.ListN.{length, get_or}
use Rattle.list_run.proofs.move_held.Given as goal

abbrev pub invariant-loop-i : goal.invariant-loop-i
invariant-loop-i l =
    (l.old ≡ l.initial.held) × (length l.held ≡ 8) × ((k : ℕ) → k < 8 → length (get_or l.held k []) ≡ 16) × ((k : ℕ) → k < l.i → get_or l.held k [] ≡ get_or l.initial.held (get_or l.home k 0) [])
