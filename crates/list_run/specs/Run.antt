-- Proof side: the list between two phases of a row and between two rows. Assumes nothing.
use Rattle.std.specs.Prelude.{◌≡◌, Bool, true, false, ◌⊎◌, List, [], ◌∷◌, ◌++◌, ℕ, zero, suc, ◌+◌, ◌*◌, ◌≤◌, ◌<◌, ℤ, length, get_or, take, drop, set}
use Rattle.base.specs.Bit.{bit}
use Rattle.bits.specs.Packed.{bits}
use Rattle.polar.specs.Code.{channel, least}
use Rattle.polar.specs.Kernel.{code}
use Rattle.polar.specs.Stages.{rows, column}
use Rattle.kernel.specs.Kernels.{kernel, kernel_code}
use Rattle.kernel.specs.Rows.{row_sum, table}
use Rattle.grid.specs.Grid.{rows_bits}
use Rattle.plan.specs.Pairs.{frame_code}
use Rattle.lane.specs.Lanes.{lane_costs, LanesWithin}
use Rattle.lane_phases.specs.Rows.{column as lane_column, HeldLane, KeptLane}
use Rattle.lane_step.specs.Step.{Halves}
use Rattle.lane_totals.specs.Totals.{Again, TablesOf}
use Rattle.lane_moves.specs.Moves.{Twins}
use Rattle.list.specs.Ahead.{All}
use Rattle.list.specs.Paths.{phase, paths}
use Rattle.list_step.specs.Step.{Listed, Paid, row_symbols, KeptRow, Lanes, PhaseStep, TwoSteps}
use Rattle.list_step.specs.Marked.{Clean}
use Rattle.list_run.specs.declared.Turn.{Turn}
use Rattle.list_run.specs.declared.Turn.TheVariants.{Skip, Freeze, Split, SplitTwice}

-- Whether a phase is marked, by what is done there,
abbrev pub marked_of : Turn → Bool
marked_of Skip = false
marked_of Freeze = false
marked_of Split = true
marked_of SplitTwice = true

-- and whether the next one is taken with it.
abbrev pub pair_of : Turn → Bool
pair_of Skip = false
pair_of Freeze = false
pair_of Split = false
pair_of SplitTwice = true

-- The paths ps after the first s phases of a row.
unfoldable pub advance : (List Bool → ℕ) → ℕ → (ℕ → Bool) → ℕ → List (List Bool) → List (List Bool)
advance penalty L mark zero ps = ps
advance penalty L mark (suc s) ps = phase penalty L (mark s) (advance penalty L mark s ps)

-- The least totals of the inner kernel, over what lane i pays, are the penalties of path i with symbols of the row after it.
abbrev pub Prices : ℕ → (List Bool → ℕ) → List (List (List ℕ)) → List (List Bool) → Type 0
Prices k penalty costs ps = (i : ℕ) (p : List Bool) → i < length ps → length p ≤ 16 → penalty (get_or ps i [] ++ p) ≡ least (kernel_code k) (lane_costs costs i) p

-- Every path has n symbols.
abbrev pub Long : ℕ → List (List Bool) → Type 0
Long n ps = All (λ p. length p ≡ n) ps

-- What holds of the list qs after s phases of row r, which began with the paths ps: the records have it, and path i went on from path
-- home i. After the last phase the records have its penalties too.
pub record RowList (penalty : List Bool → ℕ) (r s : ℕ) (ps qs : List (List Bool)) (count : ℕ) (scratch home : List ℕ) : Type 0 where
  pub count-is : length qs ≡ count
  pub listed : Listed qs scratch
  pub long : Long (16 * r + s) qs
  pub begun : (i : ℕ) → i < count → take (16 * r) (get_or qs i []) ≡ get_or ps (get_or home i 0) []
  pub paid : s ≡ 16 → Paid penalty qs scratch

-- After s phases of row r, which began with n paths: lanes are those of the paths' homes; where the last phase was stepped its rows are there.
pub record InRow (k r L : ℕ) (mark : ℕ → Bool) (n : ℕ) (scratch₀ : List ℕ) (costs₀ : List (List (List ℕ)))
    (s count : ℕ) (stepped : Bool) (scratch : List ℕ) (costs halves rows : List (List (List ℕ))) (home : List ℕ) : Type 0 where
  pub within : s ≤ 16
  pub some : 1 ≤ count
  pub few : count ≤ 8
  pub room : length scratch ≡ length scratch₀
  pub rest : drop 4096 scratch ≡ drop 4096 scratch₀
  pub lanes : Lanes costs halves rows
  pub clean : Clean (16 * r + s) count scratch
  pub home-room : length home ≡ 8
  pub home-in : (i : ℕ) → i < count → get_or home i 0 < n
  pub lane-so : (i t : ℕ) (c : Bool) → i < count → t < 16 → lane_costs costs i t c ≡ lane_costs costs₀ (get_or home i 0) t c
  pub stepped-so : stepped ≡ true → (0 < s) × ((i : ℕ) → i < count → KeptRow k costs rows scratch r s i)
  pub list-so : (ps : List (List Bool)) (penalty : List Bool → ℕ) → length ps ≡ n → Long (16 * r) ps → Listed ps scratch₀ → Prices k penalty costs₀ ps
      → RowList penalty r s ps (advance penalty L mark s ps) count scratch home

-- A phase that is stepped, or an unmarked one before the last that is not: then nothing moves.
abbrev pub Turned : ℕ → ℕ → ℕ → ℕ → Bool → ℕ → List ℕ → List (List (List ℕ)) → List (List (List ℕ)) → List (List (List ℕ)) → List ℕ
    → ℕ → List ℕ → List (List (List ℕ)) → List (List (List ℕ)) → List (List (List ℕ)) → List ℕ → Type 0
Turned k r s L marked n scratch costs halves rows home count scratch' costs' halves' rows' home' =
    PhaseStep k r s L marked n scratch costs home count scratch' costs' rows' home'
    ⊎ ((marked ≡ false) × (s < 15) × (count ≡ n) × (scratch' ≡ scratch) × (costs' ≡ costs) × (halves' ≡ halves) × (rows' ≡ rows) × (home' ≡ home))

-- The same, or where phases are taken as a pair two marked ones.
abbrev pub Advanced : ℕ → ℕ → ℕ → ℕ → Bool → Bool → ℕ → List ℕ → List (List (List ℕ)) → List (List (List ℕ)) → List (List (List ℕ)) → List ℕ
    → ℕ → List ℕ → List (List (List ℕ)) → List (List (List ℕ)) → List (List (List ℕ)) → List ℕ → Type 0
Advanced k r s L marked pair n scratch costs halves rows home count scratch' costs' halves' rows' home' =
    (pair ≡ true → TwoSteps k r s L n scratch costs home count scratch' costs' rows' home')
    × (pair ≡ false → Turned k r s L marked n scratch costs halves rows home count scratch' costs' halves' rows' home')

-- What a whole row leaves.
pub record RowDone (k r L : ℕ) (mark : ℕ → Bool) (n : ℕ) (scratch₀ : List ℕ) (costs₀ : List (List (List ℕ)))
    (count : ℕ) (scratch home : List ℕ) : Type 0 where
  pub some : 1 ≤ count
  pub few : count ≤ 8
  pub room : length scratch ≡ length scratch₀
  pub rest : drop 4096 scratch ≡ drop 4096 scratch₀
  pub home-room : length home ≡ 8
  pub home-in : (i : ℕ) → i < count → get_or home i 0 < n
  pub list-so : (ps : List (List Bool)) (penalty : List Bool → ℕ) → length ps ≡ n → Long (16 * r) ps → Listed ps scratch₀ → Prices k penalty costs₀ ps
      → RowList penalty r 16 ps (advance penalty L mark 16 ps) count scratch home

-- The paths of a frame after n phases: inner kernel a, outer kernel b, a list of L.
abbrev pub frame_paths : ℕ → ℕ → ℕ → List ℤ → List ℕ → ℕ → List (List Bool)
frame_paths a b L values marks n = paths (frame_code a b) (channel values) (bit (rows_bits 16 marks)) L n

-- What the run leaves: how many paths there are at the end, and their records.
pub record ListRun (a b L : ℕ) (values : List ℤ) (marks : List ℕ) (count : ℕ) (scratch : List ℕ) : Type 0 where
  pub few : count ≤ 8
  pub count-is : length (frame_paths a b L values marks 256) ≡ count
  pub listed : Listed (frame_paths a b L values marks 256) scratch
  pub paid : Paid (least (frame_code a b) (channel values)) (frame_paths a b L values marks 256) scratch

-- After r rows of a frame: the records have its paths; plane s of a path has the word of its row s; and where the next phase of the
-- outer kernels asks for them, each path has the rows of its sixteen lanes. After the last row the records have the penalties.
pub record AfterRows (a b L : ℕ) (values : List ℤ) (marks : List ℕ) (costs : List (List (List ℕ))) (scratch₀ : List ℕ)
    (r n : ℕ) (planes : List (List ℕ)) (held : List (List (List (List ℕ)))) (scratch : List ℕ) : Type 0 where
  pub within : r ≤ 16
  pub some : 1 ≤ n
  pub few : n ≤ 8
  pub room : length scratch ≡ length scratch₀
  pub rest : drop 4096 scratch ≡ drop 4096 scratch₀
  pub plane-room : (i : ℕ) → i < 8 → length (get_or planes i []) ≡ 16
  pub held-count : length held ≡ 8
  pub held-room : (i : ℕ) → i < 8 → length (get_or held i []) ≡ 16
  pub count-is : length (frame_paths a b L values marks (16 * r)) ≡ n
  pub listed : Listed (frame_paths a b L values marks (16 * r)) scratch
  pub columns : (i j : ℕ) → i < n → j < 16 → lane_column (get_or planes i []) r j ≡ column (code (kernel a)) (rows 16 r (get_or (frame_paths a b L values marks (16 * r)) i [])) j
  pub kept : 0 < r → Again b r → (i j : ℕ) → i < n → j < 16 → KeptLane b costs (get_or planes i []) r (get_or held i []) j
  pub paid : r ≡ 16 → Paid (least (frame_code a b) (channel values)) (frame_paths a b L values marks (16 * r)) scratch

-- What the outer kernels leave of row r: lane i has the least totals of path i's outer kernels, and their rows are held.
pub record RowCosts (b : ℕ) (costs : List (List (List ℕ))) (r n : ℕ) (planes : List (List ℕ)) (held : List (List (List (List ℕ)))) (lanes : List (List (List ℕ))) : Type 0 where
  pub lanes-within : LanesWithin 2047 lanes
  pub twins : Twins 16 lanes
  pub held-count : length held ≡ 8
  pub held-room : (i : ℕ) → i < 8 → length (get_or held i []) ≡ 16
  pub least-so : (i j : ℕ) (c : Bool) → i < n → j < 16 → lane_costs lanes i j c ≡ least (kernel_code b) (lane_costs costs j) (lane_column (get_or planes i []) r j ++ (c ∷ []))
  pub held-so : (i j : ℕ) → i < n → j < 16 → HeldLane b costs (get_or planes i []) r (get_or held i []) j

-- The planes of each path with row r: those of its home, and the word of its own row by the rows of a kernel.
abbrev pub NextPlanes : List ℕ → ℕ → ℕ → List ℕ → List ℕ → List (List ℕ) → List (List ℕ) → Type 0
NextPlanes matrix r n scratch home planes planes' =
    (i : ℕ) → i < n → (x : ℕ) × (bits 16 x ≡ row_symbols scratch r 16 i) × (get_or planes' i [] ≡ set (get_or planes (get_or home i 0) []) r (row_sum matrix x))

-- What a run has before its first row and keeps: the tables of the outer kernel, the inner kernel's rows, and what the values pay, by outer
-- kernel, with its fold onto eight.
pub record FrameTables (a b : ℕ) (values : List ℤ) (outer_shapes outer_tables : List (List ℕ)) (matrix : List ℕ) (costs halves : List (List (List ℕ))) : Type 0 where
  pub outer-tables : TablesOf b outer_shapes outer_tables
  pub matrix-is : matrix ≡ get_or table a []
  pub cost-room : length costs ≡ 16
  pub costs-within : LanesWithin 127 costs
  pub halves-within : LanesWithin 4095 halves
  pub halves_are : Halves costs halves
  pub agree : (j t : ℕ) (c : Bool) → j < 16 → t < 16 → lane_costs costs j t c ≡ channel values (16 * j + t) c
