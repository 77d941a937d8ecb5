use Prim.Native.Nat.{◌+◌, ◌*◌}
use Rattle.polar.specs.Code.{channel}
use Rattle.folds.proofs.Fill.{Filled}
use Rattle.lane_costs.proofs.place_costs.Given as goal

abbrev pub invariant-loop-j : goal.invariant-loop-j
invariant-loop-j l = Filled 0 16 l.j (λ i. channel l.values (16 * i + l.t)) l.out
