use Rattle.std.proofs.Common.{false, pos, get_or}
use Rattle.values.specs.Value.{turned}
use Rattle.value_folds.proofs.Filling.{Filling}
use Rattle.path_rows.proofs.turned.Given as goal

abbrev pub invariant-loop-i : goal.invariant-loop-i
invariant-loop-i g l = Filling (pos 0) g.row.N l.i (λ j. turned (get_or l.word j false) (get_or l.values j (pos 0))) l.out
