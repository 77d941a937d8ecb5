-- The payload of a path, and whether its checksum agrees. Assumes nothing.
use Rattle.std.specs.Prelude.{Bool, List, ℕ, ◌/◌}
use Rattle.bits.specs.Packed.{unpack, pack}
use Rattle.checksum.specs.Checksum.{agrees}
use Rattle.payload.specs.Payload.{gather}
use Rattle.mask.specs.Mask.{marked}

-- The payload of a path: its symbols at the marked phases in rising order, its checksum bytes among them.
abbrev pub payload_of : List ℕ → List Bool → List ℕ
payload_of mask u = pack (marked mask / 8) (gather (unpack mask) u)

-- Whether the checksum of a path agrees: the last two bytes of its payload are the CRC-16 of the others.
abbrev pub agrees_at : List ℕ → List Bool → Bool
agrees_at mask u = agrees (payload_of mask u)
