use Rattle.std.proofs.Common.{◌≡◌, ◌+◌, ◌*◌, ◌≤◌, length}
use Rattle.bits.specs.Packed.{unpack}
use Rattle.spread.specs.Spreading.{marks_before, next_part}
use Rattle.spread.proofs.next_four.Given as goal

abbrev pub invariant-loop-r : goal.invariant-loop-r
invariant-loop-r l =
    (length l.bytes ≡ length l.mask) × (l.d ≤ 7 + 8 * l.r) × (8 * l.q + l.d ≡ marks_before l.mask (l.i + l.r)) × (l.bytes ≡ next_part l.mask (unpack l.payload) (l.i + l.r))
