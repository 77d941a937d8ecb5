-- Proof side: a payload spread in three passes over the bytes of a mask. Assumes nothing.
use Rattle.std.specs.Prelude.{ℕ, Bool, List, ◌++◌, length, take, drop, slice_index}
use Rattle.base.specs.Bit.{tabulate}
use Rattle.bits.specs.Packed.{bits, number, unpack, pad}
use Rattle.payload.specs.Payload.{ones, spread}

-- How many phases of each byte are marked.
unfoldable pub mark_counts : List ℕ → List ℕ
mark_counts mask = tabulate (length mask) (λ i. ones (bits 8 (slice_index mask i)))

-- How many phases are marked before byte i.
abbrev pub marks_before : List ℕ → ℕ → ℕ
marks_before mask i = ones (unpack (take i mask))

-- The next eight payload bits for byte i: those after as many as are marked before it.
abbrev pub byte_for : List ℕ → List Bool → ℕ → ℕ
byte_for mask p i = number (pad 8 (drop (marks_before mask i) p))

-- Those of the first n bytes, in place of their counts.
unfoldable pub next_part : List ℕ → List Bool → ℕ → List ℕ
next_part mask p n = tabulate n (byte_for mask p) ++ drop n (mark_counts mask)

-- Those of all bytes.
unfoldable pub next_bytes : List ℕ → List Bool → List ℕ
next_bytes mask p = tabulate (length mask) (byte_for mask p)

-- The symbols of each byte's phases, by its eight payload bits.
unfoldable pub deposited : List ℕ → List ℕ → List ℕ
deposited mask next = tabulate (length mask) (λ i. number (spread (bits 8 (slice_index mask i)) (bits 8 (slice_index next i))))
