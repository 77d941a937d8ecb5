use mathlib.Core.Path.{◌≡◌}
use mathlib.Core.Bool.{Bool}
use mathlib.Core.List.{[]}
use Prim.Native.Nat.{ℕ, ◌+◌, ◌*◌, ◌<◌}
use lib.IntN.{pos}
use lib.ListN.{length, get_or}
use Rattle.polar.specs.Code.{pay}
use Rattle.folds.specs.Rows.{cell}
use Rattle.side_follow.proofs.lane_costs.Given as goal

abbrev pub invariant-loop-t : goal.invariant-loop-t
invariant-loop-t z =
    record {
      long : length z.o-items ≡ 16;
      done : (i : ℕ) → i < z.t → (l : ℕ) (b : Bool) → l < 16 → cell 0 (get_or z.o-items i []) l b ≡ pay (get_or z.values (16 * i + l) (pos 0)) b;
    }
