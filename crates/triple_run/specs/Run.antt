-- Proof side: what a run of three layers hands out. Assumes nothing.
use Rattle.std.specs.Prelude.{◌≡◌, Bool, List, ℕ, ◌+◌, ◌*◌, ◌<◌, ℤ, get_or}
use Rattle.std.proofs.Math.Seq.{paste}
use Rattle.base.specs.Bit.{bit}
use Rattle.polar.specs.Code.{Code, channel}
use Rattle.polar.specs.Follow.{scores}
use Rattle.polar.specs.Kernel.{code}
use Rattle.polar.specs.Stages.{staged}
use Rattle.kernel.specs.Kernels.{kernel}
use Rattle.plan.specs.Pairs.{frame_code}
use Rattle.run.specs.Run.{SymbolsBy}
use Rattle.lane.specs.Lanes.{lane_costs}
use Rattle.pair_run.specs.Run.{front, PairRun}

-- The frame of three kernels, innermost first: one more around a frame of two.
abbrev pub triple_code : List ℕ → Code
triple_code ks = staged (frame_code (get_or ks 0 0) (get_or ks 1 0)) (code (kernel (get_or ks 2 0)))

-- Row r of the frame inside: a run over what the scores found pay, by the row's own sources.
pub record Inside (a b : ℕ) (found : List ℤ) (free given : List ℕ) (r : ℕ) (symbols planes : List ℕ) (new_scores old_scores : List ℤ) : Type 0 where
  pub costs : List (List (List ℕ))
  pub row_free : List ℕ
  pub row_given : List ℕ
  pub costs-are : (j t : ℕ) (c : Bool) → j < 16 → t < 16 → lane_costs costs j t c ≡ channel found (16 * j + t) c
  pub free-are : (i : ℕ) → i < 16 → get_or row_free i 0 ≡ get_or free (16 * r + i) 0
  pub given-are : (i : ℕ) → i < 16 → get_or row_given i 0 ≡ get_or given (16 * r + i) 0
  pub ran : PairRun a b costs row_free row_given symbols planes (256 * r) new_scores old_scores

-- Symbols by their sources, and their scores at the front of the buffer.
pub record TripleRun (ks : List ℕ) (values : List ℤ) (free given symbols : List ℕ) (new_scores old_scores : List ℤ) : Type 0 where
  pub symbols-by : SymbolsBy (triple_code ks) (channel values) (bit (front 256 free)) (bit (front 256 given)) (front 256 symbols)
  pub scores-are : new_scores ≡ paste old_scores 0 (scores (triple_code ks) (channel values) (front 256 symbols)) 4096
