-- Proof side: the least totals of a phase, lane by lane. Assumes nothing.
use Rattle.std.specs.Prelude.{◌≡◌, Bool, List, [], ◌∷◌, ◌++◌, ℕ, get_or}
use Rattle.polar.specs.Code.{least}
use Rattle.folds.specs.Rows.{cell}
use Rattle.kernel.specs.Kernels.{kernel_code}
use Rattle.windows.specs.Tables.{shape_table, path_table, shape_at}
use Rattle.lane.specs.Lanes.{lane_costs}
use Rattle.lane_phases.specs.Rows.{column}

-- The relations of phase s reach no further than before.
abbrev pub Again : ℕ → ℕ → Type 0
Again k s = shape_at k s 1 ≡ 0 → ⊥

-- The tables of kernel k: the shapes of its phases, and the rows that turn symbols into words.
abbrev pub TablesOf : ℕ → List (List ℕ) → List (List ℕ) → Type 0
TablesOf k shapes tables = (shapes ≡ get_or shape_table k []) × (tables ≡ get_or path_table k [])

-- A pair has the least totals of lane l after n symbols, with symbol 0 and with symbol 1.
abbrev pub LeastLane : ℕ → List (List (List ℕ)) → List ℕ → ℕ → List (List ℕ) → ℕ → Type 0
LeastLane k costs planes n pair l = (b : Bool) → cell 0 pair l b ≡ least (kernel_code k) (lane_costs costs l) (column planes n l ++ (b ∷ []))
