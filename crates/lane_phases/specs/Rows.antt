-- Proof side: the symbols and the rows of sixteen kernels side by side, lane by lane. Assumes nothing.
use Rattle.std.specs.Prelude.{Bool, true, false, List, [], ◌∷◌, ℕ, ◌-◌, ◌<◌, ℤ, pos, neg_ℤ, get_or}
use Rattle.base.specs.Bit.{tabulate}
use Rattle.folds.specs.Rows.{row_of}
use Rattle.windows.specs.Paths.{Kept, Held}
use Rattle.lane.specs.Lanes.{lane_bit, lane_costs}

-- The first n symbols of lane l: plane s has symbol s of every lane.
abbrev pub column : List ℕ → ℕ → ℕ → List Bool
column planes n l = tabulate n (λ s. lane_bit (get_or planes s 0) l)

-- The two rows of best scores of lane l, minus the least totals: rows have these by path, symbol and lane.
abbrev pub score_rows : List (List (List ℕ)) → ℕ → List (List ℤ)
score_rows rows l = tabulate 16 (λ w. neg_ℤ (pos (lane_costs rows l w false))) ∷ tabulate 16 (λ w. neg_ℤ (pos (lane_costs rows l w true))) ∷ []

-- The rows are what the step of one kernel owes in lane l, for that lane's costs and symbols: lanes never mix.
abbrev pub HeldLane : ℕ → List (List (List ℕ)) → List ℕ → ℕ → List (List (List ℕ)) → ℕ → Type 0
HeldLane k costs planes n rows l = Held k (lane_costs costs l) (column planes n l) (score_rows rows l)

-- The same in each lane.
abbrev pub HeldLanes : ℕ → List (List (List ℕ)) → List ℕ → ℕ → List (List (List ℕ)) → Type 0
HeldLanes k costs planes n rows = (l : ℕ) → l < 16 → HeldLane k costs planes n rows l

-- The row of the symbol that was chosen last is kept in lane l: the last plane has it.
abbrev pub KeptLane : ℕ → List (List (List ℕ)) → List ℕ → ℕ → List (List (List ℕ)) → ℕ → Type 0
KeptLane k costs planes n rows l = Kept k (lane_costs costs l) (column planes n l) (row_of (score_rows rows l) (lane_bit (get_or planes (n - 1) 0) l))

-- The same in each lane.
abbrev pub KeptLanes : ℕ → List (List (List ℕ)) → List ℕ → ℕ → List (List (List ℕ)) → Type 0
KeptLanes k costs planes n rows = (l : ℕ) → l < 16 → KeptLane k costs planes n rows l
