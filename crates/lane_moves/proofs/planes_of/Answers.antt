-- `lane_moves::planes_of` meets its contract: the planes have the words of the first l lanes. Assumes nothing.
use mathlib.Core.Path.{ap}
use mathlib.Core.List.{List}
use Prim.Native.Nat.{ℕ}
use native.Mathlib.Omega.{arith}
use lib.ListN.{get_or}
use Rattle.lane_moves.proofs.Planes.{planed-none, planed-next}
use Rattle.lane_moves.proofs.planes_of.Goals as goal

pub loop-l-init : goal.loop-l-init
loop-l-init c = planed-none c.args.words.now

pub loop-l-preserved : goal.loop-l-preserved
loop-l-preserved c =
    let k = c.loop-l in
    planed-next c.args.words.now k.planes _ k.l _ (omega arith) (ap (λ (f : List ℕ). get_or f k.l 0) c.flags-flags.ensures) k.invariant c.with_plane-next.ensures
