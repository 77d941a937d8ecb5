-- Proof side: what the list decoder holds of a row between two phases, and what one phase does to it. Lane i is that of path i. Assumes nothing.
use Rattle.std.specs.Prelude.{◌≡◌, Bool, true, List, [], ◌∷◌, ◌++◌, ℕ, ◌+◌, ◌-◌, ◌*◌, ◌≤◌, ◌<◌, length, get_or, take, drop}
use Rattle.base.specs.Bit.{bit}
use Rattle.bits.specs.Packed.{unpack}
use Rattle.polar.specs.Code.{least}
use Rattle.folds.specs.Rows.{row_of}
use Rattle.kernel.specs.Kernels.{kernel_code}
use Rattle.windows.specs.Paths.{Kept}
use Rattle.lane.specs.Lanes.{lane_costs, LanesWithin}
use Rattle.lane_phases.specs.Rows.{score_rows}
use Rattle.lane_step.specs.Step.{Halves}
use Rattle.lane_moves.specs.Moves.{Twins}
use Rattle.list.specs.Paths.{phase}
use Rattle.path.specs.Path.{HasSymbols, path_at}

-- Record i has the symbols of path i,
abbrev pub Listed : List (List Bool) → List ℕ → Type 0
Listed ps scratch = (i : ℕ) → i < length ps → HasSymbols (get_or ps i []) (path_at i scratch)

-- and its penalty.
abbrev pub Paid : (List Bool → ℕ) → List (List Bool) → List ℕ → Type 0
Paid penalty ps scratch = (i : ℕ) → i < length ps → (path_at i scratch).penalty ≡ penalty (get_or ps i [])

-- The first s symbols of row r in record i.
abbrev pub row_symbols : List ℕ → ℕ → ℕ → ℕ → List Bool
row_symbols scratch r s i = take s (drop (16 * r) (unpack (path_at i scratch).symbols))

-- In lane i the row of the symbol that was chosen last is kept.
abbrev pub KeptRow : ℕ → List (List (List ℕ)) → List (List (List ℕ)) → List ℕ → ℕ → ℕ → ℕ → Type 0
KeptRow k costs rows scratch r s i =
    Kept k (lane_costs costs i) (row_symbols scratch r s i) (row_of (score_rows rows i) (bit (row_symbols scratch r s i) (s - 1)))

-- The lanes of a row: what the places pay, lane 8 + l as lane l, and its fold onto eight,
abbrev pub PlacesPay : List (List (List ℕ)) → List (List (List ℕ)) → Type 0
PlacesPay costs halves = LanesWithin 2047 costs × LanesWithin 4095 halves × Halves costs halves × (length costs ≡ 16) × Twins 16 costs

-- and rows.
pub record Lanes (costs halves rows : List (List (List ℕ))) : Type 0 where
  pub costs-within : LanesWithin 2047 costs
  pub halves-within : LanesWithin 4095 halves
  pub halves_are : Halves costs halves
  pub cost-room : length costs ≡ 16
  pub row_room : length rows ≡ 16
  pub costs-twins : Twins 16 costs

-- Phase s of row r, in a list of L: n paths become `count`. Path j goes on from path `from j`, in whose lane its places and its home were;
-- and whatever the penalty of a path is, as long as the inner kernel's least totals are the penalties of the paths with a symbol
-- more, the records have the paths of the next phase and their penalties.
pub record PhaseStep (k r s L : ℕ) (marked : Bool) (n : ℕ) (scratch : List ℕ) (costs : List (List (List ℕ))) (home : List ℕ)
    (count : ℕ) (scratch' : List ℕ) (costs' rows' : List (List (List ℕ))) (home' : List ℕ) : Type 0 where
  pub from : ℕ → ℕ
  pub from_in : (j : ℕ) → j < count → from j < n
  pub some : 1 ≤ count
  pub few : count ≤ 8
  pub lane-so : (j t : ℕ) (c : Bool) → j < count → t < 16 → lane_costs costs' j t c ≡ lane_costs costs (from j) t c
  pub home-so : (j : ℕ) → j < count → get_or home' j 0 ≡ get_or home (from j) 0
  pub kept-so : marked ≡ true → (j : ℕ) → j < count → KeptRow k costs' rows' scratch' r (s + 1) j
  pub list-so : (ps : List (List Bool)) (penalty : List Bool → ℕ) → length ps ≡ n → ((i : ℕ) → i < n → length (get_or ps i []) ≡ 16 * r + s) → Listed ps scratch
      → ((i : ℕ) (b : Bool) → i < n → penalty (get_or ps i [] ++ (b ∷ [])) ≡ least (kernel_code k) (lane_costs costs i) (row_symbols scratch r s i ++ (b ∷ [])))
      → (length (phase penalty L marked ps) ≡ count) × Listed (phase penalty L marked ps) scratch' × Paid penalty (phase penalty L marked ps) scratch'
      × ((j : ℕ) → j < count → take (16 * r + s) (get_or (phase penalty L marked ps) j []) ≡ get_or ps (from j) [])

-- The same of phases s and s + 1, both marked: the paths of the second one's list, where the least totals are the penalties of the paths
-- with one symbol more and with two.
pub record TwoSteps (k r s L n : ℕ) (scratch : List ℕ) (costs : List (List (List ℕ))) (home : List ℕ)
    (count : ℕ) (scratch' : List ℕ) (costs' rows' : List (List (List ℕ))) (home' : List ℕ) : Type 0 where
  pub from : ℕ → ℕ
  pub from_in : (j : ℕ) → j < count → from j < n
  pub some : 1 ≤ count
  pub few : count ≤ 8
  pub lane-so : (j t : ℕ) (c : Bool) → j < count → t < 16 → lane_costs costs' j t c ≡ lane_costs costs (from j) t c
  pub home-so : (j : ℕ) → j < count → get_or home' j 0 ≡ get_or home (from j) 0
  pub kept-so : (j : ℕ) → j < count → KeptRow k costs' rows' scratch' r (s + 2) j
  pub list-so : (ps : List (List Bool)) (penalty : List Bool → ℕ) → length ps ≡ n → ((i : ℕ) → i < n → length (get_or ps i []) ≡ 16 * r + s) → Listed ps scratch
      → ((i : ℕ) (b : Bool) → i < n → penalty (get_or ps i [] ++ (b ∷ [])) ≡ least (kernel_code k) (lane_costs costs i) (row_symbols scratch r s i ++ (b ∷ [])))
      → ((i : ℕ) (b c : Bool) → i < n → penalty (get_or ps i [] ++ (b ∷ c ∷ [])) ≡ least (kernel_code k) (lane_costs costs i) (row_symbols scratch r s i ++ (b ∷ c ∷ [])))
      → (length (phase penalty L true (phase penalty L true ps)) ≡ count) × Listed (phase penalty L true (phase penalty L true ps)) scratch'
      × Paid penalty (phase penalty L true (phase penalty L true ps)) scratch'
      × ((j : ℕ) → j < count → take (16 * r + s) (get_or (phase penalty L true (phase penalty L true ps)) j []) ≡ get_or ps (from j) [])
