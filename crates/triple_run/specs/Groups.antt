-- Proof side: 256 outer kernels in sixteen groups of sixteen lanes; kernel j is lane j % 16 of group j / 16. Assumes nothing.
use Rattle.std.specs.Prelude.{◌≡◌, Bool, List, [], ℕ, ◌+◌, ◌*◌, ◌/◌, ◌%◌, ◌<◌, ℤ, pos, length, get_or}
use Rattle.polar.specs.Code.{channel, score}
use Rattle.kernel.specs.Kernels.{kernel_code}
use Rattle.lane.specs.Lanes.{lane_costs, LanesWithin}
use Rattle.lane_step.specs.Step.{Halves}
use Rattle.lane_phases.specs.Rows.{column as lane_column, HeldLanes, KeptLanes}

-- The rows of a group have sixteen paths.
abbrev pub Room : List (List (List (List ℕ))) → Type 0
Room rows = (length rows ≡ 16) × ((g : ℕ) → g < 16 → length (get_or rows g []) ≡ 16)

-- What the places of each group pay is small, and so is its fold onto eight places.
abbrev pub Groups : List (List (List (List ℕ))) → List (List (List (List ℕ))) → Type 0
Groups costs halves = (g : ℕ) → g < 16 → LanesWithin 127 (get_or costs g []) × LanesWithin 4095 (get_or halves g []) × Halves (get_or costs g []) (get_or halves g [])

-- The same of channel values: group g has values 256g to 256g + 255.
abbrev pub Loaded : List ℤ → List (List (List (List ℕ))) → List (List (List (List ℕ))) → Type 0
Loaded values costs halves =
    ((g : ℕ) → g < 16 → (l t : ℕ) (b : Bool) → l < 16 → t < 16 → lane_costs (get_or costs g []) l t b ≡ channel values (256 * g + (16 * l + t)) b) × Groups costs halves

-- What each group keeps of the phase before, and what it holds after a phase.
abbrev pub KeptGroups : ℕ → List (List (List (List ℕ))) → List (List ℕ) → ℕ → List (List (List (List ℕ))) → Type 0
KeptGroups k costs planes r rows = (g : ℕ) → g < 16 → KeptLanes k (get_or costs g []) (get_or planes g []) r (get_or rows g [])

abbrev pub HeldGroups : ℕ → List (List (List (List ℕ))) → List (List ℕ) → ℕ → List (List (List (List ℕ))) → Type 0
HeldGroups k costs planes r rows = (g : ℕ) → g < 16 → HeldLanes k (get_or costs g []) (get_or planes g []) r (get_or rows g [])

-- The symbols of kernel j so far.
abbrev pub own_symbols : List (List ℕ) → ℕ → ℕ → List Bool
own_symbols planes r j = lane_column (get_or planes (j / 16) []) r (j % 16)

-- The scores of the first n kernels.
abbrev pub ScoresOf : ℕ → List (List (List (List ℕ))) → List (List ℕ) → ℕ → ℕ → List ℤ → Type 0
ScoresOf k costs planes r n found =
    (j : ℕ) → j < n → get_or found j (pos 0) ≡ score (kernel_code k) (lane_costs (get_or costs (j / 16) []) (j % 16)) (own_symbols planes r j)
