-- Packed bits: the lowest index stands in the most significant bit, eight bits to a byte. Assumes nothing.
use Rattle.std.specs.Prelude.{Bool, false, List, [], ◌∷◌, ◌++◌, ℕ, zero, suc, ◌+◌, ◌*◌, ◌/◌, ◌^◌, length, drop}
use Rattle.base.specs.Bit.{odd, digit}

-- The n bits of x, the most significant first: bits 8 of a byte, bits 16 of a kernel's sixteen.
unfoldable pub bits : ℕ → ℕ → List Bool
bits zero x = []
bits (suc n) x = odd (x / 2 ^ n) ∷ bits n x

-- The number that bits make, the most significant first.
unfoldable pub number : List Bool → ℕ
number [] = 0
number (b ∷ l) = digit b * 2 ^ length l + number l

-- The bits of a list of bytes.
unfoldable pub unpack : List ℕ → List Bool
unpack [] = []
unpack (x ∷ s) = bits 8 x ++ unpack s

-- The first n bits of a list, 0 for those that it lacks.
unfoldable pub pad : ℕ → List Bool → List Bool
pad zero l = []
pad (suc n) [] = false ∷ pad n []
pad (suc n) (b ∷ l) = b ∷ pad n l

-- The n bytes whose bits begin a list, 0 for those that it lacks.
unfoldable pub pack : ℕ → List Bool → List ℕ
pack zero l = []
pack (suc n) l = number (pad 8 l) ∷ pack n (drop 8 l)
