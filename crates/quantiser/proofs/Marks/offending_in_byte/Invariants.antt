use Rattle.std.proofs.Common.{◌≡◌, false, ℕ, ◌+◌, ◌*◌, ◌<◌}
use Rattle.quantiser.specs.Marks.{not_finite}
use Rattle.quantiser.proofs.Marks.offending_in_byte.Given as goal

abbrev pub invariant-loop-j : goal.invariant-loop-j
invariant-loop-j l = (k : ℕ) → k < 2 * l.j → not_finite l.self.amplitudes.now l.self.blanked.now (16 * l.m + k) ≡ false
