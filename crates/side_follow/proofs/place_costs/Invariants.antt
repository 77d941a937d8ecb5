use Prim.Native.Nat.{◌+◌, ◌*◌}
use lib.IntN.{pos}
use lib.ListN.{get_or}
use Rattle.polar.specs.Code.{pay}
use Rattle.folds.proofs.Fill.{Filled}
use Rattle.side_follow.proofs.place_costs.Given as goal

abbrev pub invariant-loop-l : goal.invariant-loop-l
invariant-loop-l l = Filled 0 16 l.l (λ ll. pay (get_or l.values (16 * l.t + ll) (pos 0))) l.out
