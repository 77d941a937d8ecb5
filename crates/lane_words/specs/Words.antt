-- Proof side: what a phase's own symbol and the window's bits add to the words of its table. Assumes nothing.
use Rattle.std.specs.Prelude.{Bool, ◌&&◌, List, ◌∷◌, ℕ, suc, ◌+◌, length}
use Rattle.base.specs.Bit.{bit, parity}
use Rattle.kernel.specs.Rows.{row_bit}

-- Bit j of the sum of the rows that they choose: the rows of a table that follow those of the symbols before the phase.
abbrev pub window_bit : List ℕ → ℕ → Bool → List Bool → ℕ → Bool
window_bit table phase own window j = parity (suc (length window)) (λ t. bit (own ∷ window) t && row_bit table (phase + t) j)
