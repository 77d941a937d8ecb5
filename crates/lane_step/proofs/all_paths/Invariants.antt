use mathlib.Core.Path.{◌≡◌}
use mathlib.Core.Bool.{Bool}
use mathlib.Core.List.{[]}
use Prim.Native.Nat.{ℕ, ◌<◌}
use lib.ListN.{length, get_or}
use Rattle.folds.specs.Rows.{cell}
use Rattle.lane_step.specs.Step.{path_total}
use Rattle.lane_step.proofs.all_paths.Given as goal

abbrev pub invariant-loop-w : goal.invariant-loop-w
invariant-loop-w z =
    record {
      room : length z.rows ≡ 16;
      done : (i : ℕ) → i < z.w → (l : ℕ) (b : Bool) → l < 16 → cell 0 (get_or z.rows i []) l b ≡ path_total z.phase.table.now z.phase.number z.phase.high z.words z.nodes i l b;
    }
