-- The three kernels, in the paper's words: a word is c = vF, and a kernel relates the symbols u to v. Assumes nothing.
use Rattle.std.specs.Prelude.{Bool, List, [], ◌∷◌, ℕ, zero, suc}
use Rattle.polar.specs.Code.{Code, symbols_in}
use Rattle.polar.specs.Kernel.{arikan, Kernel}
use Rattle.polar.specs.Relation.{Relation, word_by, row}

-- F[i][j] = 1 exactly if every set bit of j is set in i, for i and j of four bits.
abbrev pub F : ℕ → ℕ → Bool
F = arikan 4

-- The relations of kernels 0, 1 and 2: u0 to u15 as sums of v. A number above 2 names none of them: here it stands for
-- kernel 2, so that laws need no premise, and every job refuses it.
unfoldable pub relations : ℕ → List Relation
relations zero =
    (0 ∷ []) ∷ (1 ∷ []) ∷ (2 ∷ []) ∷ (3 ∷ []) ∷ (4 ∷ []) ∷ (5 ∷ []) ∷ (6 ∷ []) ∷ (7 ∷ [])
    ∷ (8 ∷ []) ∷ (9 ∷ []) ∷ (10 ∷ []) ∷ (11 ∷ []) ∷ (12 ∷ []) ∷ (13 ∷ []) ∷ (14 ∷ []) ∷ (15 ∷ []) ∷ []
relations (suc zero) =
    (0 ∷ []) ∷ (1 ∷ []) ∷ (2 ∷ []) ∷ (4 ∷ []) ∷ (8 ∷ []) ∷ (6 ∷ 9 ∷ []) ∷ (5 ∷ 6 ∷ 10 ∷ []) ∷ (3 ∷ [])
    ∷ (12 ∷ []) ∷ (6 ∷ []) ∷ (10 ∷ []) ∷ (7 ∷ []) ∷ (11 ∷ []) ∷ (13 ∷ []) ∷ (14 ∷ []) ∷ (15 ∷ []) ∷ []
relations (suc (suc k)) =
    (0 ∷ []) ∷ (1 ∷ []) ∷ (2 ∷ []) ∷ (3 ∷ []) ∷ (4 ∷ []) ∷ (8 ∷ []) ∷ (6 ∷ 9 ∷ []) ∷ (5 ∷ 6 ∷ 10 ∷ [])
    ∷ (6 ∷ []) ∷ (10 ∷ []) ∷ (7 ∷ []) ∷ (11 ∷ []) ∷ (12 ∷ []) ∷ (13 ∷ []) ∷ (14 ∷ []) ∷ (15 ∷ []) ∷ []

-- Bit j of the word of the symbols u: of vF, for the v that the relations tie to u.
abbrev pub word_bit : ℕ → List Bool → ℕ → Bool
word_bit k u j = word_by F (relations k) u j

-- The kernel's code: sixteen symbols make a word of sixteen places.
abbrev pub kernel_code : ℕ → Code
kernel_code k = record { size = 16; places = 16; word = word_bit k }

-- The symbols of a word: those whose word it is.
abbrev pub word_symbols : ℕ → List Bool → List Bool
word_symbols k c = symbols_in (kernel_code k) c

-- The kernel as a matrix: row s is the word with only symbol s set.
abbrev pub kernel : ℕ → Kernel
kernel k = record { dim = 16; entry = row F (relations k) }
