-- `path::row_word` meets its contract. Assumes nothing.
use mathlib.Core.Path.{refl}
use Rattle.path.proofs.Records.{row-bits}
use borrow.Author.Rules.{rules}
use Rattle.path.proofs.row_word.Goals as goal

pub returns : goal.returns
returns c =
    let r = c.requires in
    row-bits c.args.scratch.now c.args.i c.args.r _ _ r.0 r.1 r.2 refl (search rules) (search rules)
