-- Proof side: Arikan's words and scores, half by half. Assumes nothing.
use Rattle.std.specs.Prelude.{Bool, true, false, List, ℕ, zero, suc, ◌+◌, ◌-◌, ◌^◌, leb, ℤ, length, take, drop}
use Rattle.base.specs.Bit.{◌⊕◌, bit}
use Rattle.polar.specs.Code.{channel, best_score}
use Rattle.polar.specs.Kernel.{arikan, matrix}
use Rattle.values.specs.Value.{free_value, known_value}

-- Bit j of the word of 2 ^ t symbols: of both halves' words the sum, and then that of the second half.
unfoldable pub arikan_word : ℕ → List Bool → ℕ → Bool
arikan_word zero v j = bit v 0
arikan_word (suc t) v j =
    elim (leb (2 ^ t) j) [
      | true ↦ arikan_word t (drop (2 ^ t) v) (j - 2 ^ t)
      | false ↦ arikan_word t (take (2 ^ t) v) j ⊕ arikan_word t (drop (2 ^ t) v) j
    ]

-- The value that 2 ^ t values give the next symbol after p: folded free while the first half is not known, then by its word.
unfoldable pub arikan_score : ℕ → (ℕ → ℤ) → List Bool → ℤ
arikan_score zero z p = z 0
arikan_score (suc t) z p =
    elim (leb (2 ^ t) (length p)) [
      | true ↦ arikan_score t (λ j. known_value (arikan_word t (take (2 ^ t) p) j) (z j) (z (2 ^ t + j))) (drop (2 ^ t) p)
      | false ↦ arikan_score t (λ j. free_value (z j) (z (2 ^ t + j))) p
    ]

-- The best score of the words whose v begin with p, over channel values.
abbrev pub best_v : List ℤ → List Bool → ℤ
best_v ys p = best_score (matrix 16 16 (arikan 4)) (channel ys) p
