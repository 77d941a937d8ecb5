use Rattle.std.proofs.Common.{◌≡◌, length}
use Rattle.bits.specs.Packed.{unpack}
use Rattle.spread.specs.Spreading.{marks_before, next_part}
use Rattle.spread.proofs.next_rest.Given as goal

abbrev pub invariant-loop-i : goal.invariant-loop-i
invariant-loop-i l =
    (length l.bytes ≡ length l.mask) × (l.j ≡ marks_before l.mask l.i) × (l.bytes ≡ next_part l.mask (unpack l.payload) l.i)
