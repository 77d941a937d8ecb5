-- A path of the list, and its record: 36 bytes, records of several paths 512 bytes apart. Assumes nothing.
use Rattle.std.specs.Prelude.{◌≡◌, Bool, false, List, [], ◌∷◌, ◌++◌, ℕ, ◌+◌, ◌-◌, ◌*◌, ◌/◌, ◌%◌, length, take, drop, get_or, replicate}
use Rattle.bits.specs.Packed.{unpack}
use Rattle.path.specs.declared.Path.{Path}

-- A path has the symbols p, and 0 after them.
abbrev pub HasSymbols : List Bool → Path → Type 0
HasSymbols p path = unpack path.symbols ≡ p ++ replicate (256 - length p) false

-- The four bytes of a number, the highest first,
abbrev pub four_bytes : ℕ → List ℕ
four_bytes n = (n / 16777216) ∷ (n / 65536 % 256) ∷ (n / 256 % 256) ∷ (n % 256) ∷ []

-- and the number of four bytes.
abbrev pub number_of : List ℕ → ℕ
number_of l = get_or l 0 0 * 16777216 + get_or l 1 0 * 65536 + get_or l 2 0 * 256 + get_or l 3 0

-- The bytes of a path's record: its symbols, then its penalty.
abbrev pub bytes_of : Path → List ℕ
bytes_of path = path.symbols ++ four_bytes path.penalty

-- The path of a record's bytes.
abbrev pub path_of : List ℕ → Path
path_of b = record { symbols = take 32 b; penalty = number_of (drop 32 b) }

-- The path of record i.
abbrev pub path_at : ℕ → List ℕ → Path
path_at i s = path_of (take 36 (drop (512 * i) s))
