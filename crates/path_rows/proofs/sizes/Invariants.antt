use Rattle.std.proofs.Common.{pos, nat_abs, get_or}
use Rattle.path_rows.proofs.Totals.{Total}
use Rattle.path_rows.proofs.sizes.Given as goal

abbrev pub invariant-loop-x : goal.invariant-loop-x
invariant-loop-x g l = Total 4194304 l.x-index (λ j. nat_abs (get_or l.values j (pos 0))) l.sum
