-- The check value that is published for this checksum. Assumes nothing.
use mathlib.Core.Path.{◌≡◌, refl}
use mathlib.Core.List.{[], ◌∷◌}
use Rattle.bits.specs.Packed.{bits, unpack}
use Rattle.checksum.specs.Checksum.{sums, after, crc}

-- The checksum of the nine bytes 31 to 39 hexadecimal is 29B1.
pub published : crc (49 ∷ 50 ∷ 51 ∷ 52 ∷ 53 ∷ 54 ∷ 55 ∷ 56 ∷ 57 ∷ []) ≡ bits 16 10673
unfolding after sums bits unpack
published = refl
