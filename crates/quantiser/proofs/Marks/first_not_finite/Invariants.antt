use Rattle.std.proofs.Common.{◌≡◌, false, ℕ, ◌*◌, ◌<◌}
use Rattle.quantiser.specs.Marks.{not_finite}
use Rattle.quantiser.proofs.Marks.first_not_finite.Given as goal

abbrev pub invariant-loop-m : goal.invariant-loop-m
invariant-loop-m l = (k : ℕ) → k < 16 * l.m → not_finite l.self.amplitudes.now l.self.blanked.now k ≡ false
