use Rattle.std.proofs.Common.{◌≡◌, ◌*◌}
use Rattle.base.proofs.List.{filled}
use Rattle.quantiser.specs.Marks.{value_at}
use Rattle.quantiser.proofs.Marks.store_values.Given as goal

abbrev pub invariant-loop-n : goal.invariant-loop-n
invariant-loop-n l = l.values ≡ filled (value_at l.scale l.self.amplitudes.now l.self.blanked.now) (2 * l.n) l.initial.values
