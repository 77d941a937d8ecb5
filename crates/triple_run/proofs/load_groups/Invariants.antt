use mathlib.Core.Path.{◌≡◌}
use lib.ListN.{length}
use Rattle.triple_run.proofs.Loading.{LoadedTo}
use Rattle.triple_run.proofs.load_groups.Given as goal

abbrev pub invariant-loop-g : goal.invariant-loop-g
invariant-loop-g l = (length l.costs ≡ 16) × (length l.halves ≡ 16) × LoadedTo l.values l.g l.costs l.halves
