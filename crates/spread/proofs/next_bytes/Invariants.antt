use Rattle.std.proofs.Common.{◌≡◌, ◌*◌}
use Rattle.bits.specs.Packed.{unpack}
use Rattle.spread.specs.Spreading.{marks_before, next_part}
use Rattle.spread.proofs.next_bytes.Given as goal

abbrev pub invariant-loop-g : goal.invariant-loop-g
invariant-loop-g l = (l.j ≡ marks_before l.mask (4 * l.g)) × (l.bytes ≡ next_part l.mask (unpack l.payload) (4 * l.g))
