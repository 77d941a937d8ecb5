use Prim.Native.Nat.{min}
use Rattle.folds.specs.Rows.{cell}
use Rattle.folds.proofs.Fill.{Filled}
use Rattle.lane_rows.proofs.least_three.Given as goal

abbrev pub invariant-loop-l : goal.invariant-loop-l
invariant-loop-l l = Filled 0 16 l.l (λ i b. min (min (cell 0 l.found i b) (cell 0 l.p i b)) (cell 0 l.q i b)) l.out
