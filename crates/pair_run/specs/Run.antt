-- Proof side: the symbols of rows so far, and what a run of two layers hands out. Assumes nothing.
use Rattle.std.specs.Prelude.{◌≡◌, Bool, List, [], ◌++◌, ℕ, zero, suc, ◌/◌, ◌%◌, ◌<◌, ℤ, get_or}
use Rattle.std.proofs.Math.Seq.{paste}
use Rattle.base.specs.Bit.{bit}
use Rattle.bits.specs.Packed.{bits}
use Rattle.polar.specs.Code.{Costs}
use Rattle.polar.specs.Follow.{scores}
use Rattle.polar.specs.Kernel.{code}
use Rattle.polar.specs.Stages.{rows, column}
use Rattle.kernel.specs.Kernels.{kernel}
use Rattle.plan.specs.Pairs.{frame_code}
use Rattle.lane.specs.Lanes.{lane_costs}
use Rattle.lane_phases.specs.Rows.{column as lane_column}
use Rattle.run.specs.Run.{SymbolsBy}

-- The symbols of the first n rows.
unfoldable pub front : ℕ → List ℕ → List Bool
front zero rows = []
front (suc n) rows = front n rows ++ bits 16 (get_or rows n 0)

-- What the places of a frame pay, a lane for each outer kernel: place 16j + t is place t of kernel j.
abbrev pub held_costs : List (List (List ℕ)) → Costs
held_costs costs i = lane_costs costs (i / 16) (i % 16)

-- What a run of the frame of kernels a and b hands out: symbols by their sources, their scores, written from a place on, and the
-- symbols of the outer kernels.
pub record PairRun (a b : ℕ) (costs : List (List (List ℕ))) (free given symbols planes : List ℕ) (at : ℕ) (new_scores old_scores : List ℤ) : Type 0 where
  pub symbols-by : SymbolsBy (frame_code a b) (held_costs costs) (bit (front 16 free)) (bit (front 16 given)) (front 16 symbols)
  pub scores-are : new_scores ≡ paste old_scores at (scores (frame_code a b) (held_costs costs) (front 16 symbols)) 256
  pub planes-are : (j : ℕ) → j < 16 → lane_column planes 16 j ≡ column (code (kernel a)) (rows 16 16 (front 16 symbols)) j
