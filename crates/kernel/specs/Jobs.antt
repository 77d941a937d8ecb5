-- What kernel encode and kernel undo answer, from their inputs alone. Assumes nothing.
use Rattle.std.specs.Prelude.{Bool, not, ◌&&◌, ◌||◌, List, [], ◌∷◌, ℕ, eqb}
use Rattle.base.specs.Bit.{tabulate}
use Rattle.bits.specs.Packed.{bits, number}
use Rattle.answer.specs.Verdict.{Verdict, word, Check, condition, settle}
use Rattle.kernel.specs.Kernels.{word_bit, word_symbols}

-- Whether a kernel number is 0, 1 or 2.
unfoldable pub is_kernel : ℕ → Bool
is_kernel k = eqb k 0 || eqb k 1 || eqb k 2

-- Whether both numbers of a pair (A, B) are.
unfoldable pub is_pair : ℕ → ℕ → Bool
is_pair a b = is_kernel a && is_kernel b

-- The checks of both jobs. Condition 1: a kernel number is not 0, 1 or 2.
unfoldable pub checks : ℕ → List Check
checks k = condition 1 (not (is_kernel k)) ∷ []

-- The sixteen bits of the word of sixteen symbols.
unfoldable pub encoded_word : ℕ → ℕ → ℕ
encoded_word k u = number (tabulate 16 (word_bit k (bits 16 u)))

-- The sixteen symbols of a word of sixteen bits.
unfoldable pub undone_symbols : ℕ → ℕ → ℕ
undone_symbols k c = number (word_symbols k (bits 16 c))

-- Kernel encode: kernel number and symbols to the word.
abbrev pub kernel_encode : ℕ → ℕ → Verdict
kernel_encode k u = settle (checks k) (word (encoded_word k u))

-- Kernel undo: kernel number and word to the symbols.
abbrev pub kernel_undo : ℕ → ℕ → Verdict
kernel_undo k c = settle (checks k) (word (undone_symbols k c))
