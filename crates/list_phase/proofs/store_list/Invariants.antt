use mathlib.Core.Path.{◌≡◌}
use Prim.Native.Nat.{ℕ, ◌<◌}
use lib.ListN.{length, drop, get_or}
use Rattle.path.specs.Path.{path_at}
use Rattle.list_phase.specs.Next.{no_path}
use Rattle.list_phase.proofs.store_list.Given as goal

abbrev pub invariant-loop-j : goal.invariant-loop-j
invariant-loop-j l = (length l.scratch ≡ length l.initial.scratch) × (drop 4096 l.scratch ≡ drop 4096 l.initial.scratch) × ((i : ℕ) → i < l.j → path_at i l.scratch ≡ get_or l.list i no_path)
