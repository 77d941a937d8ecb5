use mathlib.Core.Path.{◌≡◌}
use mathlib.Core.Bool.{false}
use Prim.Native.Nat.{◌-◌, ◌^◌, ◌≤◌}
use lib.IntN.{pos, neg_ℤ}
use Rattle.folds.proofs.Fill.{Filled}
use Rattle.windows.specs.Paths.{path_word_of, path_least}
use Rattle.step.proofs.fresh_rows.Given as goal

abbrev pub invariant-loop-w : goal.invariant-loop-w
invariant-loop-w l =
    (l.paths ≡ 2 ^ (l.high - l.phase)) × (l.paths ≤ 16)
    × Filled (pos 0) 16 l.w (λ w b. neg_ℤ (pos (path_least l.costs l.high (path_word_of l.table l.symbols l.phase l.high false w) b))) l.out
