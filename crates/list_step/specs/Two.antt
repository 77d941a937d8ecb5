-- Proof side: the records after a marked phase, and after two of them from the totals of the second one. Assumes nothing.
use Rattle.std.specs.Prelude.{◌≡◌, Bool, true, false, List, ℕ, ◌+◌, ◌*◌, ◌/◌, ◌<◌, min, get_or}
use Rattle.base.specs.Bit.{odd}
use Rattle.folds.specs.Rows.{cell, select}
use Rattle.list.specs.Sort.{in_order}
use Rattle.path.specs.Path.{path_at}
use Rattle.list_phase.specs.Next.{Candidate}
use Rattle.list_step.specs.Marked.{Penalties, chosen}

-- The lane of path i with symbol b more.
abbrev pub lane_of : ℕ → Bool → ℕ
lane_of i b = select i (8 + i) b

-- After a marked phase: record j is candidate `chosen pens j`, and `places` has the order of the candidates.
pub record Settled (at L n : ℕ) (pair : List (List ℕ)) (scratch places scratch' : List ℕ) : Type 0 where
  pub pens : List ℕ
  pub pens-are : Penalties pair n pens
  pub order_is : places ≡ in_order (λ c. get_or pens c 0) 16
  pub record-so : (j : ℕ) → j < min L (2 * n) → Candidate at (chosen pens j) (get_or pens (chosen pens j) 0) scratch (path_at j scratch')

-- After two of them: the totals of the first are the lesser ones of the next symbol, those of the second stand in the lane of the candidate
-- that was chosen; `lanes` has the lane of each path at the end.
pub record SettledTwo (at L n : ℕ) (pair : List (List ℕ)) (scratch lanes scratch' : List ℕ) : Type 0 where
  pub one : List (List ℕ)
  pub two : List (List ℕ)
  pub places : List ℕ
  pub places' : List ℕ
  pub between : List ℕ
  pub one-is : (i : ℕ) (b : Bool) → i < 8 → cell 0 one i b ≡ min (cell 0 pair (lane_of i b) false) (cell 0 pair (lane_of i b) true)
  pub first : Settled at L n one scratch places between
  pub two_is : (j : ℕ) (b : Bool) → j < min L (2 * n) → cell 0 two j b ≡ cell 0 pair (lane_of (chosen first.pens j / 2) (odd (chosen first.pens j))) b
  pub second : Settled (at + 1) L (min L (2 * n)) two between places' scratch'
  pub lanes-are : (j : ℕ) → j < min L (2 * min L (2 * n)) → (get_or lanes j 0 ≡ lane_of (chosen first.pens (chosen second.pens j / 2) / 2) (odd (chosen first.pens (chosen second.pens j / 2))))
