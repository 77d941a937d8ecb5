-- Proof side: sixteen kernels side by side, one in each lane. Assumes nothing.
use Rattle.std.specs.Prelude.{Bool, List, [], ◌∷◌, ℕ, ◌+◌, ◌*◌, ◌≤◌, ◌<◌, get_or}
use Rattle.base.specs.Bit.{bit, digit}
use Rattle.bits.specs.Packed.{bits}
use Rattle.polar.specs.Code.{Costs}
use Rattle.folds.specs.Rows.{cell}

-- The bit of each lane in a plane, lane 0 in the most significant.
abbrev pub lane_bits : List ℕ
lane_bits =
    0x8000 ∷ 0x4000 ∷ 0x2000 ∷ 0x1000 ∷ 0x0800 ∷ 0x0400 ∷ 0x0200 ∷ 0x0100
    ∷ 0x0080 ∷ 0x0040 ∷ 0x0020 ∷ 0x0010 ∷ 0x0008 ∷ 0x0004 ∷ 0x0002 ∷ 0x0001 ∷ []

-- What a plane has in lane l.
abbrev pub lane_bit : ℕ → ℕ → Bool
lane_bit plane l = bit (bits 16 plane) l

-- Bit j of the word of lane l: plane j has it.
abbrev pub word_at : List ℕ → ℕ → ℕ → Bool
word_at words l j = lane_bit (get_or words j 0) l

-- What the places pay in lane l.
abbrev pub lane_costs : List (List (List ℕ)) → ℕ → Costs
lane_costs costs l j = cell 0 (get_or costs j []) l

-- The same of eight places that have two nodes each: place j has node j, or 8 + j where it is the other one.
abbrev pub node_costs : List (List (List ℕ)) → (ℕ → Bool) → ℕ → Costs
node_costs nodes other l j = cell 0 (get_or nodes (8 * digit (other j) + j) []) l

-- No lane of a place pays more than n.
abbrev pub PairWithin : ℕ → List (List ℕ) → Type 0
PairWithin n pair = (l : ℕ) (b : Bool) → l < 16 → cell 0 pair l b ≤ n

-- The same of each of sixteen places.
abbrev pub LanesWithin : ℕ → List (List (List ℕ)) → Type 0
LanesWithin n costs = (j : ℕ) → j < 16 → PairWithin n (get_or costs j [])
