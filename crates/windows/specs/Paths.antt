-- Proof side: the best scores of a window's paths, as rows keep them. Assumes nothing.
use Rattle.std.specs.Prelude.{◌≡◌, Bool, false, List, [], ◌∷◌, ◌++◌, ℕ, ◌+◌, ◌-◌, ◌*◌, ◌/◌, ◌%◌, ◌^◌, ◌<◌, length, take, get_or, replicate, ℤ, pos, ◌-ℤ◌}
use Rattle.base.specs.Bit.{◌⊕◌, bit}
use Rattle.bits.specs.Packed.{bits, number}
use Rattle.polar.specs.Code.{Costs, best_score}
use Rattle.polar.specs.Kernel.{arikan, matrix}
use Rattle.polar.specs.Window.{path_of}
use Rattle.polar.specs.Fold.{level, folded}
use Rattle.folds.specs.Rows.{row_of, costs_of, IsGreatest}
use Rattle.kernel.specs.Rows.{row_sum}
use Rattle.windows.specs.Windows.{window, solution}

-- How many members the window after the symbols us has.
abbrev pub width : ℕ → List Bool → ℕ
width k us = length (window k (length us))

-- The best score of path w after the symbols us: of all words whose v begin with it.
abbrev pub path_best : ℕ → Costs → List Bool → ℕ → ℤ
path_best k m us w = best_score (matrix 16 16 (arikan 4)) m (path_of (solution k (length us)) us (bits (width k us) w))

-- Entry w of the row is the best score of path w.
abbrev pub Kept : ℕ → Costs → List Bool → List ℤ → Type 0
Kept k m us row = (w : ℕ) → w < 2 ^ width k us → get_or row w (pos 0) ≡ path_best k m us w

-- Entry w of row b is the best score of path w with symbol b next.
abbrev pub Held : ℕ → Costs → List Bool → List (List ℤ) → Type 0
Held k m us rows = (b : Bool) → Kept k m (us ++ (b ∷ [])) (row_of rows b)

-- Sixteen bits: the symbols us, one more, the window's bits, and 0 after them.
abbrev pub Choice : List Bool → Bool → List Bool → ℕ → Type 0
Choice us b ws x = bits 16 x ≡ us ++ (b ∷ ws) ++ replicate (16 - (length us + (1 + length ws))) false

-- The number that has those bits.
abbrev pub choice_number : List Bool → Bool → List Bool → ℕ
choice_number us b ws = number (us ++ (b ∷ ws) ++ replicate (16 - (length us + (1 + length ws))) false)

-- What a phase's table makes of the symbols before the phase, the phase's own and path w. The highest v in use is v high.
abbrev pub path_word_of : List ℕ → ℕ → ℕ → ℕ → Bool → ℕ → ℕ
path_word_of table symbols phase high b w = row_sum table (choice_number (take phase (bits 16 symbols)) b (bits (high - phase) w))

-- Four costs: what the first two folds leave for a path with this word.
abbrev pub FourOf : List (List ℕ) → ℕ → List (List ℕ) → ℕ → Type 0
FourOf costs high four word =
    (j : ℕ) (b : Bool) → j < 4 → costs_of four j b ≡ level 4 (high % 8) (λ i. bit (bits 16 word) (high / 8 * 8 + i)) (level 8 high (bit (bits 16 word)) (costs_of costs)) j b

-- The least total of a path with symbol b, by the last two folds.
abbrev pub last_least : List (List ℕ) → ℕ → ℕ → Bool → ℕ
last_least four high word b = folded 2 (high % 4) (λ j. bit (bits 16 word) (high / 4 * 4 + j)) (costs_of four) 0 (bit (bits 16 word) high ⊕ b)

-- The same by all four.
abbrev pub path_least : List (List ℕ) → ℕ → ℕ → Bool → ℕ
path_least costs high word b = folded 4 high (bit (bits 16 word)) (costs_of costs) 0 (bit (bits 16 word) high ⊕ b)

-- r is the greatest of the first n entries of row 0, less that of row 1.
pub record IsDifference (rows : List (List ℤ)) (n : ℕ) (r : ℤ) : Type 0 where
  pub zero : ℤ
  pub one : ℤ
  pub zero-greatest : IsGreatest (get_or rows 0 []) n zero
  pub one-greatest : IsGreatest (get_or rows 1 []) n one
  pub less : r ≡ zero -ℤ one
