use Rattle.std.proofs.Common.{◌≡◌, get_or}
use Rattle.base.proofs.List.{filled}
use Rattle.bits.specs.Packed.{bits}
use Rattle.payload.specs.Payload.{ones}
use Rattle.spread.proofs.mark_counts.Given as goal

abbrev pub invariant-loop-i : goal.invariant-loop-i
invariant-loop-i l = l.counts ≡ filled (λ k. ones (bits 8 (get_or l.mask k 0))) l.i l.initial.counts
