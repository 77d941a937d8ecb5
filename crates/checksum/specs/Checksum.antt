-- CRC-16: polynomial 1021 hexadecimal, start FFFF, most significant bit first, no final inversion. Assumes nothing.
use Rattle.std.specs.Prelude.{Bool, true, false, List, [], ◌∷◌, ◌++◌, ℕ, ◌-◌, length, take, drop}
use Rattle.base.specs.Bit.{◌⊕◌, bit, same}
use Rattle.bits.specs.Packed.{bits, unpack}

-- Two lists of bits, added place by place.
unfoldable pub sums : List Bool → List Bool → List Bool
sums [] v = []
sums (a ∷ u) [] = []
sums (a ∷ u) (b ∷ v) = (a ⊕ b) ∷ sums u v

-- The register is sixteen bits, the highest first. The polynomial is 1021 hexadecimal,
abbrev pub polynomial : List Bool
polynomial = bits 16 4129

-- and the register starts with FFFF.
abbrev pub start : List Bool
start = bits 16 65535

-- The polynomial is added where a bit is 1.
abbrev pub add_if : Bool → List Bool → List Bool
add_if true r = sums r polynomial
add_if false r = r

-- One bit goes in: the register moves up by one place, and where the bit that leaves it differs from the one that goes in, the polynomial is added.
abbrev pub shift_in : List Bool → Bool → List Bool
shift_in r b = add_if (bit r 0 ⊕ b) (drop 1 r ++ (false ∷ []))

-- The register after some bits, the first of them first.
unfoldable pub after : List Bool → List Bool → List Bool
after r [] = r
after r (b ∷ u) = after (shift_in r b) u

-- The checksum of bytes, as its sixteen bits.
abbrev pub crc : List ℕ → List Bool
crc bytes = after start (unpack bytes)

-- Whether the last two bytes of a payload are the checksum of the others, the high byte first.
abbrev pub agrees : List ℕ → Bool
agrees payload = same (crc (take (length payload - 2) payload)) (unpack (drop (length payload - 2) payload))
