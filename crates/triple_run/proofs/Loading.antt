-- Groups loaded one after the other. Assumes nothing.
use mathlib.Core.Path.{◌≡◌}
use mathlib.Core.Bool.{Bool}
use mathlib.Core.List.{List, []}
use Prim.Native.Nat.{ℕ, ◌+◌, ◌*◌, ◌<◌}
use native.Mathlib.Decide.{dec_lt}
use native.Mathlib.Omega.{arith}
use lib.IntN.{ℤ}
use lib.ListN.{length, get_or, set}
use lib.Seq.{get_or-set_same, get_or-set_other}
use Rattle.polar.specs.Code.{channel}
use Rattle.lane.specs.Lanes.{lane_costs, LanesWithin}
use Rattle.lane_step.specs.Step.{Halves}

-- What is known of a loaded group.
pub record Group (values : List ℤ) (g : ℕ) (costs halves : List (List (List ℕ))) : Type 0 where
  pub agree : (l t : ℕ) (b : Bool) → l < 16 → t < 16 → lane_costs costs l t b ≡ channel values (256 * g + (16 * l + t)) b
  pub small : LanesWithin 127 costs
  pub folds-small : LanesWithin 4095 halves
  pub folds : Halves costs halves

-- The groups below n are loaded.
abbrev pub LoadedTo : List ℤ → ℕ → List (List (List (List ℕ))) → List (List (List (List ℕ))) → Type 0
LoadedTo values n costs halves = (g : ℕ) → g < n → Group values g (get_or costs g []) (get_or halves g [])

pub loaded-next : (values : List ℤ) (n : ℕ) (costs halves : List (List (List (List ℕ)))) (found fold : List (List (List ℕ))) → n < length costs → n < length halves
    → LoadedTo values n costs halves → Group values n found fold → LoadedTo values (n + 1) (set costs n found) (set halves n fold)
loaded-next values n costs halves found fold lc lh h k g l = go (dec_lt g n)
  where
    go : Dec (g < n) → Group values g (get_or (set costs n found) g []) (get_or (set halves n fold) g [])
    go (yes y) = rw (get_or-set_other costs n g found [] (λ q. omega arith), get_or-set_other halves n g fold [] (λ q. omega arith)) (h g y)
    go (no y) = let q : g ≡ n = omega arith in rw (q, get_or-set_same costs n found [] lc, get_or-set_same halves n fold [] lh) k
