use mathlib.Core.Path.{◌≡◌}
use Prim.Native.Nat.{◌-◌, ◌^◌, ◌≤◌}
use lib.IntN.{pos}
use lib.ListN.{get_or}
use Rattle.folds.specs.Rows.{row_of}
use Rattle.folds.proofs.Fill.{Filled}
use Rattle.windows.specs.Paths.{path_word_of}
use Rattle.step.proofs.again_rows.Given as goal

abbrev pub invariant-loop-w : goal.invariant-loop-w
invariant-loop-w l =
    (l.paths ≡ 2 ^ (l.high - l.phase)) × (l.paths ≤ 16)
    × Filled (pos 0) 16 l.w (λ w b. get_or (row_of l.rows l.chosen) (path_word_of l.table l.symbols l.phase l.high b w) (pos 0)) l.out
