-- Proof side: tables of rows, and the sum of the rows that sixteen bits choose. Assumes nothing.
use Rattle.std.specs.Prelude.{Bool, ◌&&◌, List, [], ◌∷◌, ℕ, get_or}
use Rattle.base.specs.Bit.{bit, parity, tabulate}
use Rattle.bits.specs.Packed.{bits, number}

-- Bit j of row s.
abbrev pub row_bit : List ℕ → ℕ → ℕ → Bool
row_bit rows s j = bit (bits 16 (get_or rows s 0)) j

-- Bit j of the sum of the first n of the rows that f chooses.
abbrev pub chosen_bit : List ℕ → (ℕ → Bool) → ℕ → ℕ → Bool
chosen_bit rows f n j = parity n (λ s. f s && row_bit rows s j)

-- The sum of the rows that f chooses.
unfoldable pub chosen_sum : List ℕ → (ℕ → Bool) → ℕ
chosen_sum rows f = number (tabulate 16 (chosen_bit rows f 16))

-- The sum of the rows that the bits of x choose.
abbrev pub row_sum : List ℕ → ℕ → ℕ
row_sum rows x = chosen_sum rows (bit (bits 16 x))

-- The rows of kernels 0, 1 and 2, as the code's table has them.
abbrev pub table : List (List ℕ)
table =
    (0x8000 ∷ 0xc000 ∷ 0xa000 ∷ 0xf000 ∷ 0x8800 ∷ 0xcc00 ∷ 0xaa00 ∷ 0xff00 ∷ 0x8080 ∷ 0xc0c0 ∷ 0xa0a0 ∷ 0xf0f0 ∷ 0x8888 ∷ 0xcccc ∷ 0xaaaa ∷ 0xffff ∷ [])
    ∷ (0x8000 ∷ 0xc000 ∷ 0xa000 ∷ 0x8800 ∷ 0x8080 ∷ 0xc0c0 ∷ 0xcc00 ∷ 0xf000 ∷ 0x8888 ∷ 0xa6c0 ∷ 0x6ca0 ∷ 0xff00 ∷ 0xf0f0 ∷ 0xcccc ∷ 0xaaaa ∷ 0xffff ∷ [])
    ∷ (0x8000 ∷ 0xc000 ∷ 0xa000 ∷ 0xf000 ∷ 0x8800 ∷ 0x8080 ∷ 0xc0c0 ∷ 0xcc00 ∷ 0xa6c0 ∷ 0x6ca0 ∷ 0xff00 ∷ 0xf0f0 ∷ 0x8888 ∷ 0xcccc ∷ 0xaaaa ∷ 0xffff ∷ []) ∷ []

-- The rows of their inverses.
abbrev pub inverse_table : List (List ℕ)
inverse_table =
    (0x8000 ∷ 0xc000 ∷ 0xa000 ∷ 0xf000 ∷ 0x8800 ∷ 0xcc00 ∷ 0xaa00 ∷ 0xff00 ∷ 0x8080 ∷ 0xc0c0 ∷ 0xa0a0 ∷ 0xf0f0 ∷ 0x8888 ∷ 0xcccc ∷ 0xaaaa ∷ 0xffff ∷ [])
    ∷ (0x8000 ∷ 0xc000 ∷ 0xa000 ∷ 0xe100 ∷ 0x9000 ∷ 0xd200 ∷ 0xb640 ∷ 0xf550 ∷ 0x8800 ∷ 0xcc00 ∷ 0xaa20 ∷ 0xef28 ∷ 0x9880 ∷ 0xde84 ∷ 0xbce2 ∷ 0xfbff ∷ [])
    ∷ (0x8000 ∷ 0xc000 ∷ 0xa000 ∷ 0xf000 ∷ 0x8800 ∷ 0xc900 ∷ 0xab80 ∷ 0xfaa0 ∷ 0x8400 ∷ 0xc600 ∷ 0xa540 ∷ 0xf750 ∷ 0x8c08 ∷ 0xcf0c ∷ 0xaeca ∷ 0xfdff ∷ []) ∷ []
