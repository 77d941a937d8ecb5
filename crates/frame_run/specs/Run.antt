-- Proof side: what the run of a frame asks for and hands out, for any number of layers. Assumes nothing.
use Rattle.std.specs.Prelude.{◌≡◌, false, List, ◌++◌, ℕ, ◌-◌, ◌^◌, ◌≤◌, ℤ, length, get_or, drop}
use Rattle.base.specs.Bit.{bit}
use Rattle.polar.specs.Code.{channel}
use Rattle.polar.specs.Follow.{scores, penalties}
use Rattle.polar.specs.Frame.{layers}
use Rattle.folds.specs.Range.{first_outside}
use Rattle.kernel.specs.Kernels.{kernel}
use Rattle.grid.specs.Grid.{rows_bits}
use Rattle.plan.specs.declared.Plan.{Plan}
use Rattle.plan.specs.Plan.{bad_layers, bad_kernels, plan_code, symbol_count}
use Rattle.run.specs.Run.{SymbolsBy}

-- How many rows of sixteen symbols a frame has.
abbrev pub row_count : Plan → ℕ
row_count p = 16 ^ (p.layers - 1)

-- What the run of m layers leaves: symbols by their sources, and their scores before what the buffer held past these.
pub record Scored (ks : List ℕ) (m : ℕ) (values : List ℤ) (free given symbols : List ℕ) (new old : List ℤ) : Type 0 where
  pub symbols-by :
      SymbolsBy (layers (λ i. kernel (get_or ks i 0)) m) (channel values) (bit (rows_bits (16 ^ (m - 1)) free)) (bit (rows_bits (16 ^ (m - 1)) given)) (rows_bits (16 ^ (m - 1)) symbols)
  pub scores-are : new ≡ scores (layers (λ i. kernel (get_or ks i 0)) m) (channel values) (rows_bits (16 ^ (m - 1)) symbols) ++ drop (16 ^ m) old

-- A plan that is not refused, as many values as it says, in range, and room for as many scores and penalties.
pub record Ready (p : Plan) (values : List ℤ) (score_room penalty_room : ℕ) : Type 0 where
  pub layered : bad_layers p ≡ false
  pub known : bad_kernels p ≡ false
  pub count : length values ≡ symbol_count p
  pub inside : first_outside 127 values ≡ symbol_count p
  pub score-room : symbol_count p ≤ score_room
  pub penalty-room : symbol_count p ≤ penalty_room

-- Symbols by their sources, their scores and their penalties, before what the buffers held past these.
pub record FrameRun (p : Plan) (values : List ℤ) (free given symbols : List ℕ) (new_scores old_scores : List ℤ) (new_penalties old_penalties : List ℕ) : Type 0 where
  pub symbols-by : SymbolsBy (plan_code p) (channel values) (bit (rows_bits (row_count p) free)) (bit (rows_bits (row_count p) given)) (rows_bits (row_count p) symbols)
  pub scores-are : new_scores ≡ scores (plan_code p) (channel values) (rows_bits (row_count p) symbols) ++ drop (symbol_count p) old_scores
  pub penalties-are : new_penalties ≡ penalties (plan_code p) (channel values) (rows_bits (row_count p) symbols) ++ drop (symbol_count p) old_penalties
