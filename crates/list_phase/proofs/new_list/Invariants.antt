use mathlib.Core.Path.{◌≡◌}
use Prim.Native.Nat.{ℕ, ◌<◌}
use lib.ListN.{length, get_or}
use Rattle.list_phase.specs.Next.{Candidate, no_path}
use Rattle.list_phase.proofs.new_list.Given as goal

abbrev pub invariant-loop-j : goal.invariant-loop-j
invariant-loop-j l = (length l.list ≡ 8) × ((i : ℕ) → i < l.j → Candidate l.at (get_or l.order i 0) (get_or l.pens (get_or l.order i 0) 0) l.scratch (get_or l.list i no_path))
