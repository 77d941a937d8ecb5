-- Proof side: the tables of four phases that the code has, by their rules. Assumes nothing.
use Rattle.std.specs.Prelude.{List, ℕ}
use Rattle.base.specs.Bit.{tabulate}
use Rattle.bits.specs.Packed.{bits, number}
use Rattle.payload.specs.Payload.{ones, gather}

-- How many of four phases are marked.
unfoldable pub ones_table : List ℕ
ones_table = tabulate 16 (λ m. ones (bits 4 m))

-- The symbols at the marked ones of four phases, as a number, by the four symbols.
unfoldable pub gather_table : List (List ℕ)
gather_table = tabulate 16 (λ m. tabulate 16 (λ u. number (gather (bits 4 m) (bits 4 u))))
