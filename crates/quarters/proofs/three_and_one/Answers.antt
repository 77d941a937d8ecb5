-- `quarters::three_and_one` meets its contract. Assumes nothing.
use mathlib.Core.Path.{refl}
use mir.Facts.{to_z-of_z}
use Rattle.value_folds.proofs.Read.{read_is}
use Rattle.quarters.proofs.Following.{three-one}
use Rattle.quarters.proofs.three_and_one.Goals as goal
use mir.Syntax.{w32}

pub returns : goal.returns
returns g c =
    let s = c in (
      λ sc f v h es el. three-one sc f v s.args.score _ s.args.symbol _ _ _ s.args.first.scores s.args.first.symbols
          (to_z-of_z {w = w32} s.ranges.score) (read_is _ c.result-1.given) (read_is _ c.result-2-1.given) (read_is _ c.result-3-1.given) h es el,
      refl,
    )
