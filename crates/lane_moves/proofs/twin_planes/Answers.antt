-- `lane_moves::twin_planes` meets its contract. Assumes nothing.
use mathlib.Core.Path.{subst⁻¹}
use lib.ListN.{get_or}
use lib.Seq.{get_or-set_same, get_or-set_other}
use Rattle.std.proofs.Common.{rules}
use Rattle.lane_moves.specs.Moves.{TwinPlane, OwnPlane}
use Rattle.lane_moves.proofs.Twins.{own_is}
use Rattle.lane_moves.proofs.twin_planes.Goals as goal

pub returns-clause-others : goal.returns-clause-others
returns-clause-others c = λ t lt d.
    let k = c.filled-out.ensures t 0 lt in
    let e : TwinPlane (get_or c.args.planes.now t 0) (get_or c.filled-out.result t 0) = search (rules, k) in
    subst⁻¹ (λ x. TwinPlane (get_or c.args.planes.now t 0) x) (get_or-set_other c.filled-out.result c.args.s t _ 0 d) e

pub returns-clause-own : goal.returns-clause-own
returns-clause-own c = subst⁻¹ (λ x. OwnPlane x) (get_or-set_same c.filled-out.result c.args.s _ 0 (search rules)) own_is
