-- The partial distances of the three kernels, and the words that they count. Assumes nothing.
use Rattle.std.specs.Prelude.{Bool, ◌&&◌, List, [], ◌∷◌, ℕ, zero, suc, ◌+◌, length}
use Rattle.base.specs.Bit.{◌⊕◌, bit, parity}
use Rattle.kernel.specs.Kernels.{kernel}

-- Bit j of row s plus the sum of the later rows that t chooses.
abbrev pub row_plus : ℕ → ℕ → List Bool → ℕ → Bool
row_plus k s t j = (kernel k).entry s j ⊕ parity (length t) (λ i. bit t i && (kernel k).entry (s + suc i) j)

-- The partial distances of the rows of kernels 0, 1 and 2, the paper's profile numbers D. (A number above 2 stands for kernel 2, as with the relations.)
abbrev pub distance_table : ℕ → List ℕ
distance_table zero = 1 ∷ 2 ∷ 2 ∷ 4 ∷ 2 ∷ 4 ∷ 4 ∷ 8 ∷ 2 ∷ 4 ∷ 4 ∷ 8 ∷ 4 ∷ 8 ∷ 8 ∷ 16 ∷ []
distance_table (suc zero) = 1 ∷ 2 ∷ 2 ∷ 2 ∷ 2 ∷ 4 ∷ 4 ∷ 4 ∷ 4 ∷ 6 ∷ 6 ∷ 8 ∷ 8 ∷ 8 ∷ 8 ∷ 16 ∷ []
distance_table (suc (suc k)) = 1 ∷ 2 ∷ 2 ∷ 4 ∷ 2 ∷ 2 ∷ 4 ∷ 4 ∷ 6 ∷ 6 ∷ 8 ∷ 8 ∷ 4 ∷ 8 ∷ 8 ∷ 16 ∷ []
