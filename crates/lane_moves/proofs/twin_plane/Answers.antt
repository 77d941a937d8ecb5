-- `lane_moves::twin_plane` meets its contract. Assumes nothing.
use native.Mathlib.Omega.{arith}
use Rattle.lane_moves.proofs.Twins.{twin-is}
use Rattle.lane_moves.proofs.twin_plane.Goals as goal

pub returns : goal.returns
returns c = twin-is c.args.plane (omega arith)
