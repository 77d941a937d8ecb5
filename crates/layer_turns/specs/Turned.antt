-- Proof side: a run over two stages, after some of its rows. Assumes nothing.
use Rattle.std.specs.Prelude.{◌≡◌, Bool, List, ℕ, ◌*◌, ◌<◌, ℤ, length}
use Rattle.polar.specs.Code.{Code, Costs}
use Rattle.polar.specs.Follow.{scores}
use Rattle.polar.specs.Stages.{rows, column, staged}
use Rattle.run.specs.Run.{SymbolsBy}

-- A whole run over a code: its symbols are those by their sources, and these are their scores.
pub record Ran (C : Code) (c : Costs) (free given : ℕ → Bool) (u : List Bool) (scored : List ℤ) : Type 0 where
  pub long : length u ≡ C.size
  pub symbols-by : SymbolsBy C c free given u
  pub scores-are : scored ≡ scores C c u

-- After r rows of the stages of A and B: the symbols u so far, their scores, and what each outer word has of its own symbols.
pub record Turned (A B : Code) (c : Costs) (free given : ℕ → Bool) (r : ℕ) (u : List Bool) (scored : List ℤ) (own : ℕ → List Bool) : Type 0 where
  pub count : length u ≡ r * A.size
  pub symbols-so : SymbolsBy (staged A B) c free given u
  pub scores-so : scored ≡ scores (staged A B) c u
  pub columns-so : (j : ℕ) → j < A.places → own j ≡ column A (rows A.size r u) j
