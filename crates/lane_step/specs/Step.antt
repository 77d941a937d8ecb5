-- Proof side: what a phase makes of one path in each lane. Assumes nothing.
use Rattle.std.specs.Prelude.{◌≡◌, Bool, false, ◌&&◌, List, ℕ, ◌+◌, ◌-◌, ◌*◌, ◌/◌, ◌%◌, ◌<◌, leb}
use Rattle.base.specs.Bit.{◌⊕◌}
use Rattle.bits.specs.Packed.{bits}
use Rattle.polar.specs.Fold.{free_fold, folded}
use Rattle.kernel.specs.Rows.{row_sum}
use Rattle.windows.specs.Paths.{choice_number}
use Rattle.lane.specs.Lanes.{word_at, lane_costs, node_costs}
use Rattle.lane_words.specs.Words.{window_bit}
use Rattle.lane_phases.specs.Rows.{column}

-- What the window's bits add to the word of path w.
abbrev pub path_adds : List ℕ → ℕ → ℕ → ℕ → ℕ → Bool
path_adds table phase high w = window_bit table phase false (bits (high - phase) w)

-- Bit j of the word of path w in lane l.
abbrev pub path_bit : List ℕ → ℕ → ℕ → List ℕ → ℕ → ℕ → ℕ → Bool
path_bit table phase high words w l j = word_at words l j ⊕ path_adds table phase high w j

-- The least total of path w with symbol b, from the nodes that it chooses: where the first half is known, its own bits choose them.
abbrev pub path_total : List ℕ → ℕ → ℕ → List ℕ → List (List (List ℕ)) → ℕ → ℕ → Bool → ℕ
path_total table phase high words nodes w l b =
    folded 3 (high % 8) (λ j. path_bit table phase high words w l (high / 8 * 8 + j)) (node_costs nodes (λ j. leb 8 high && path_adds table phase high w j) l) 0
    (path_bit table phase high words w l high ⊕ b)

-- The number that path w had before a phase whose relations reach no further, in lane l and with symbol b.
abbrev pub number_before : List ℕ → ℕ → ℕ → List ℕ → ℕ → ℕ → Bool → ℕ
number_before table phase high planes w l b = row_sum table (choice_number (column planes phase l) b (bits (high - phase) w))

-- What sixteen places pay, folded onto eight with the second ones free: of use while no first half is known, and a matter of the
-- values alone.
abbrev pub Halves : List (List (List ℕ)) → List (List (List ℕ)) → Type 0
Halves costs halves = (j l : ℕ) (b : Bool) → j < 8 → l < 16 → lane_costs halves l j b ≡ free_fold 8 (lane_costs costs l) j b
