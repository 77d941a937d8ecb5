-- `lane_moves::lanes_of` meets its contract. Assumes nothing.
use mathlib.Core.List.{[]}
use native.Mathlib.Omega.{arith}
use lib.ListN.{get_or}
use Rattle.lane_moves.proofs.Places.{lane-within}
use Rattle.lane_moves.proofs.lanes_of.Goals as goal

pub returns-clause-within : goal.returns-clause-within
returns-clause-within c =
    let k = c.loop-j in
    λ m w j lj. lane-within m c.args.pairs.now j lj (get_or k.o-items j []) (k.invariant.done j (omega arith)) w
