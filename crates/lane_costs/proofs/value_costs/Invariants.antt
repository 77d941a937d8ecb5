use mathlib.Core.Path.{◌≡◌}
use mathlib.Core.Bool.{Bool}
use mathlib.Core.List.{[]}
use Prim.Native.Nat.{ℕ, ◌+◌, ◌*◌, ◌<◌}
use lib.ListN.{length, get_or}
use Rattle.polar.specs.Code.{channel}
use Rattle.folds.specs.Rows.{cell}
use Rattle.lane_costs.proofs.value_costs.Given as goal

abbrev pub invariant-loop-t : goal.invariant-loop-t
invariant-loop-t l =
    record {
      long : length l.o-items ≡ 16;
      done : (i : ℕ) → i < l.t → (j : ℕ) (b : Bool) → j < 16 → cell 0 (get_or l.o-items i []) j b ≡ channel l.values (16 * j + i) b;
    }
