use mathlib.Core.Path.{◌≡◌}
use lib.ListN.{length}
use Rattle.list_step.specs.Marked.{Penalties}
use Rattle.list_step.proofs.candidate_penalties.Given as goal

abbrev pub invariant-loop-i : goal.invariant-loop-i
invariant-loop-i l = (length l.out ≡ 16) × Penalties l.pair l.i l.out
