-- Proof side: two rows of sixteen costs, and the greatest of a row of best scores. Assumes nothing.
use Rattle.std.specs.Prelude.{◌≡◌, Bool, true, false, List, [], ℕ, zero, suc, ◌≤◌, ◌<◌, min, get_or, ℤ, pos, ◌≤ℤ◌}
use Rattle.base.specs.Bit.{digit}
use Rattle.polar.specs.Code.{Costs}

-- Of two rows that of bit b.
abbrev pub row_of : {X : Type 0} → List (List X) → Bool → List X
row_of rows b = get_or rows (digit b) []

-- Entry j of the row of bit b, o past the end.
abbrev pub cell : {X : Type 0} → X → List (List X) → ℕ → Bool → X
cell o rows j b = get_or (row_of rows b) j o

-- Row 0 has what each place pays for bit 0, row 1 what it pays for bit 1.
abbrev pub costs_of : List (List ℕ) → Costs
costs_of rows = cell 0 rows

-- No place pays more than n.
abbrev pub Within : ℕ → List (List ℕ) → Type 0
Within n rows = (j : ℕ) (b : Bool) → costs_of rows j b ≤ n

-- The second of two numbers where the bit is set, else the first.
abbrev pub select : ℕ → ℕ → Bool → ℕ
select x y c = elim c [ true ↦ y | false ↦ x ]

-- Place j pays the one for bit 0 and the other for bit 1.
abbrev pub Pays : Costs → ℕ → ℕ → ℕ → Type 0
Pays m j x y = (x ≡ m j false) × (y ≡ m j true)

-- r is among the first n scores, and none of them is greater.
pub record IsGreatest (row : List ℤ) (n : ℕ) (r : ℤ) : Type 0 where
  pub place : ℕ
  pub inside : place < n
  pub had : get_or row place (pos 0) ≡ r
  pub top : (w : ℕ) → w < n → get_or row w (pos 0) ≤ℤ r

-- The least of g 0, g 1, .., g k.
unfoldable pub least_to : (ℕ → ℕ) → ℕ → ℕ
least_to g zero = g 0
least_to g (suc k) = min (least_to g k) (g (suc k))
