use mathlib.Core.Path.{◌≡◌}
use Prim.Native.Nat.{◌+◌}
use lib.ListN.{get_or}
use lib.Seq.{paste}
use Rattle.polar.specs.Code.{sum}
use Rattle.penalty_sums.proofs.Sums.{row_sums}
use Rattle.penalty_sums.proofs.add_row.Given as goal

abbrev pub invariant-loop-i : goal.invariant-loop-i
invariant-loop-i l =
    (l.penalty ≡ l.start + sum l.i (λ j. get_or l.paid j 0)) × (l.out ≡ paste l.initial.out l.at (row_sums l.paid l.start) l.i)
