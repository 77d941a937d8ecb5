use Rattle.std.proofs.Common.{◌+◌, pos, get_or}
use Rattle.values.specs.Value.{free_value}
use Rattle.value_folds.proofs.Filling.{Filling}
use Rattle.value_folds.proofs.free_half.Given as goal

abbrev pub invariant-loop-i : goal.invariant-loop-i
invariant-loop-i g l = Filling (pos 0) g.row.N l.i (λ j. free_value (get_or l.values j (pos 0)) (get_or l.values (g.row.N + j) (pos 0))) l.out
