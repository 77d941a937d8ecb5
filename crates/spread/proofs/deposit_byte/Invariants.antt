use Rattle.std.proofs.Common.{◌<◌}
use Rattle.spread.proofs.Spreading.{Partly}
use Rattle.spread.proofs.deposit_byte.Given as goal

abbrev pub invariant-loop-i : goal.invariant-loop-i
invariant-loop-i l = (l.u < 256) × (l.rest < 256) × Partly l.m l.p l.u l.rest l.i
