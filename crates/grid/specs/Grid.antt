-- Proof side: a frame's symbols and its word as rows of sixteen bits. Assumes nothing.
use Rattle.std.specs.Prelude.{Bool, List, [], ℕ, ◌+◌, ◌-◌, ◌*◌, ◌/◌, ◌%◌, ◌^◌, length, get_or}
use Rattle.base.specs.Bit.{tabulate}
use Rattle.polar.specs.Code.{Code}
use Rattle.polar.specs.Kernel.{Kernel}
use Rattle.polar.specs.Frame.{layers}
use Rattle.polar.specs.Encoding.{stage}
use Rattle.kernel.specs.Rows.{row_bit, chosen_sum}

-- The kernel of a table of rows.
abbrev pub kernel_of : List ℕ → Kernel
kernel_of rows = record { dim = 16; entry = row_bit rows }

-- The kernels of tables, one for each layer, innermost first,
abbrev pub table_kernel : List (List ℕ) → ℕ → Kernel
table_kernel tables i = kernel_of (get_or tables i [])

-- and the frame of m layers with them.
abbrev pub tables_code : List (List ℕ) → ℕ → Code
tables_code tables m = layers (table_kernel tables) m

-- Row j: the sum of the rows that column j of the choosing rows chooses.
abbrev pub column_sum : List ℕ → List ℕ → ℕ → ℕ
column_sum rows choosing j = chosen_sum rows (λ r. row_bit choosing r j)

-- All sixteen.
unfoldable pub column_sums : List ℕ → List ℕ → List ℕ
column_sums rows choosing = tabulate 16 (column_sum rows choosing)

-- Bit i of rows, sixteen to a row,
abbrev pub rows_bit : List ℕ → ℕ → Bool
rows_bit rows i = row_bit rows (i / 16) (i % 16)

-- and the bits of the first n of them.
unfoldable pub rows_bits : ℕ → List ℕ → List Bool
rows_bits n rows = tabulate (16 * n) (rows_bit rows)

-- The bits that a layer's stage makes of rows, in frames of e bits.
unfoldable pub staged_bits : List ℕ → ℕ → List ℕ → List Bool
staged_bits table e rows = tabulate (16 * length rows) (stage e 16 (row_bit table) (rows_bit rows))

-- Byte i of the rows, two for each row.
abbrev pub byte_of : List ℕ → ℕ → ℕ
byte_of rows i = get_or rows (i / 2) 0 / 2 ^ (8 - 8 * (i % 2)) % 2 ^ 8

-- Row r of bytes.
abbrev pub byte_row : List ℕ → ℕ → ℕ
byte_row bytes r = get_or bytes (2 * r) 0 * 256 + get_or bytes (2 * r + 1) 0
