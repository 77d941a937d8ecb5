-- `quarters::one_and_three` meets its contract. Assumes nothing.
use mathlib.Core.Path.{refl}
use mir.Facts.{to_z-of_z}
use Rattle.value_folds.proofs.Read.{read_is}
use Rattle.quarters.proofs.Following.{one-three}
use Rattle.quarters.proofs.one_and_three.Goals as goal
use mir.Syntax.{w32}

pub returns : goal.returns
returns c =
    let s = c in (
      λ sc f g es ef h. one-three sc f g s.args.score _ s.args.symbol _ _ _ s.args.rest.scores s.args.rest.symbols
          (to_z-of_z {w = w32} s.ranges.score) (read_is _ c.result-1.given) (read_is _ c.result-2-1.given) (read_is _ c.result-3-1.given) es ef h,
      refl,
    )
