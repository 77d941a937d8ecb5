-- Proof side: one run of a kernel, each symbol by its source. Assumes nothing.
use Rattle.std.specs.Prelude.{◌≡◌, Bool, true, false, not, List, ℕ, ◌<◌, ℤ, take, set, length}
use Rattle.std.specs.Int.Signed.{non_neg}
use Rattle.base.specs.Bit.{bit}
use Rattle.bits.specs.Packed.{bits}
use Rattle.polar.specs.Code.{Code, Costs, channel, score}
use Rattle.polar.specs.Follow.{scores}
use Rattle.kernel.specs.Kernels.{kernel_code}

-- Bits with bit i set where b says so.
abbrev pub with_bit : List Bool → ℕ → Bool → List Bool
with_bit u i b = elim b [ true ↦ set u i true | false ↦ u ]

-- A symbol by its source: the sign of the score where it is free, else the one that is given.
abbrev pub symbol_by : Bool → Bool → ℤ → Bool
symbol_by free given s = elim free [ true ↦ not (non_neg s) | false ↦ given ]

-- Each symbol of u is the one by its source and its score.
abbrev pub SymbolsBy : Code → Costs → (ℕ → Bool) → (ℕ → Bool) → List Bool → Type 0
SymbolsBy C m free given u = (i : ℕ) → i < length u → bit u i ≡ symbol_by (free i) (given i) (score C m (take i u))

-- What a run of a kernel hands out over channel values: symbols by their sources, and their scores.
pub record KernelRun (k : ℕ) (values : List ℤ) (free given symbols : ℕ) (new_scores : List ℤ) : Type 0 where
  pub symbols-by : SymbolsBy (kernel_code k) (channel values) (bit (bits 16 free)) (bit (bits 16 given)) (bits 16 symbols)
  pub scores-are : new_scores ≡ scores (kernel_code k) (channel values) (bits 16 symbols)
