-- Proof side: rows of sixteen lanes whose entries are moved or set, and lanes that have what another one has. Assumes nothing.
use Rattle.std.specs.Prelude.{◌≡◌, Bool, true, false, List, [], ℕ, ◌+◌, ◌<◌, get_or}
use Rattle.lane.specs.Lanes.{lane_bit, lane_costs}

-- The first eight entries are those of f, and the next eight the same again.
abbrev pub Twice : (ℕ → ℕ) → ℕ → List ℕ → Type 0
Twice f n row = (l : ℕ) → l < n → (get_or row l 0 ≡ f l) × (get_or row (8 + l) 0 ≡ f l)

-- Each of the first eight entries, and each of the next eight, is the one of old that `from` says.
abbrev pub MovedRow : List ℕ → List ℕ → List ℕ → Type 0
MovedRow from old row = Twice (λ l. get_or old (get_or from l 0) 0) 8 row

-- Each of the first eight entries, and each of the next eight, is what that pair has at place j for bit b.
abbrev pub LaneRow : List (List (List ℕ)) → ℕ → ℕ → List ℕ → Type 0
LaneRow pairs b j row = Twice (λ l. get_or (get_or (get_or pairs l []) b []) j 0) 8 row

-- Of the first n entries lane 8 + l has what lane l has.
abbrev pub Twins : ℕ → List (List (List ℕ)) → Type 0
Twins n costs = (l t : ℕ) (b : Bool) → l < 8 → t < n → lane_costs costs (8 + l) t b ≡ lane_costs costs l t b

-- Of a plane the first eight lanes, twice.
abbrev pub TwinPlane : ℕ → ℕ → Type 0
TwinPlane old new = (l : ℕ) → l < 8 → (lane_bit new l ≡ lane_bit old l) × (lane_bit new (8 + l) ≡ lane_bit old l)

-- A plane that tells each lane from its twin.
abbrev pub OwnPlane : ℕ → Type 0
OwnPlane plane = (l : ℕ) → l < 8 → (lane_bit plane l ≡ false) × (lane_bit plane (8 + l) ≡ true)
