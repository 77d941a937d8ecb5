-- Proof side: records without later symbols, and what a marked phase does to records and lanes. Assumes nothing.
use Rattle.std.specs.Prelude.{◌≡◌, Bool, List, ℕ, ◌+◌, ◌*◌, ◌/◌, ◌≤◌, ◌<◌, min, get_or, take}
use Rattle.base.specs.Bit.{digit}
use Rattle.bits.specs.Packed.{unpack}
use Rattle.folds.specs.Rows.{cell}
use Rattle.lane.specs.Lanes.{lane_costs}
use Rattle.list.specs.Sort.{in_order}
use Rattle.path.specs.Path.{HasSymbols, path_at}
use Rattle.list_phase.specs.Next.{Candidate}

-- The first n records have no symbol set from phase `at` on.
abbrev pub Clean : ℕ → ℕ → List ℕ → Type 0
Clean at n scratch = (i : ℕ) → i < n → HasSymbols (take at (unpack (path_at i scratch).symbols)) (path_at i scratch)

-- Candidate 2i + b has what path i pays with symbol b, and one that there is not has no less than any of them.
abbrev pub Penalties : List (List ℕ) → ℕ → List ℕ → Type 0
Penalties pair n pens = ((i : ℕ) (b : Bool) → i < n → get_or pens (2 * i + digit b) 0 ≡ cell 0 pair i b) × ((c : ℕ) → 2 * n ≤ c → c < 16 → get_or pens c 0 ≡ 32766)

-- The candidate that becomes path j.
abbrev pub chosen : List ℕ → ℕ → ℕ
chosen pens j = get_or (in_order (λ c. get_or pens c 0) 16) j 0

-- A marked phase: path j of the next list is candidate `chosen pens j`, and takes over the lane and the home of that one's path.
pub record Marked (at L n paths : ℕ) (pair : List (List ℕ)) (scratch : List ℕ) (costs rows : List (List (List ℕ))) (home : List ℕ)
    (count : ℕ) (scratch' : List ℕ) (costs' rows' : List (List (List ℕ))) (home' : List ℕ) : Type 0 where
  pub pens : List ℕ
  pub pens-are : Penalties pair n pens
  pub count-is : count ≡ min L (2 * n)
  pub record-so : (j : ℕ) → j < count → Candidate at (chosen pens j) (get_or pens (chosen pens j) 0) scratch (path_at j scratch')
  pub lane-so : (j t : ℕ) (c : Bool) → j < count → t < 16 → lane_costs costs' j t c ≡ lane_costs costs (chosen pens j / 2) t c
  pub row-so : (j t : ℕ) (c : Bool) → j < count → t < paths → lane_costs rows' j t c ≡ lane_costs rows (chosen pens j / 2) t c
  pub home-so : (j : ℕ) → j < count → get_or home' j 0 ≡ get_or home (chosen pens j / 2) 0
