use mathlib.Core.Path.{◌≡◌}
use mathlib.Core.List.{List}
use Prim.Native.Nat.{ℕ, ◌+◌, ◌*◌}
use Rattle.polar.specs.Code.{sum}
use Rattle.penalty_sums.specs.Paid.{paid_at, summed}
use Rattle.penalty_sums.proofs.add_rows.Given as goal

abbrev pub invariant-loop-i : goal.invariant-loop-i
invariant-loop-i l =
    (l.penalty ≡ sum ((l.first + l.i) * 16) (paid_at l.scores l.symbols))
    × ((old : List ℕ) → l.initial.out ≡ summed (paid_at l.scores l.symbols) l.first old → l.out ≡ summed (paid_at l.scores l.symbols) (l.first + l.i) old)
