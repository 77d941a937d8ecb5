use mathlib.Core.Path.{◌≡◌}
use lib.ListN.{drop}
use Rattle.bits.specs.Packed.{bits, unpack}
use Rattle.checksum.specs.Checksum.{after, crc}
use Rattle.checksum.proofs.checksum.Given as goal

abbrev pub invariant-loop-i : goal.invariant-loop-i
invariant-loop-i l = after (bits 16 l.register) (drop l.i (unpack l.bytes)) ≡ crc l.bytes
