use mathlib.Core.Path.{◌≡◌}
use mathlib.Core.List.{[]}
use Prim.Native.Nat.{ℕ, ◌≤◌, ◌<◌}
use lib.ListN.{length, get_or, set}
use Rattle.triple_run.proofs.feed.Given as goal

abbrev pub invariant-loop-g : goal.invariant-loop-g
invariant-loop-g l = (length l.planes ≡ 16) × ((i : ℕ) → i < l.g → get_or l.planes i [] ≡ set (get_or l.initial.planes i []) l.r (get_or l.word i 0)) × ((i : ℕ) → l.g ≤ i → get_or l.planes i [] ≡ get_or l.initial.planes i [])
