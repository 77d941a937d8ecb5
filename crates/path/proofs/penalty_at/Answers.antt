-- `path::penalty_at` meets its contract. Assumes nothing.
use mathlib.Core.Path.{refl}
use Rattle.path.proofs.Records.{penalty-read}
use borrow.Author.Rules.{rules}
use Rattle.path.proofs.penalty_at.Goals as goal

pub returns : goal.returns
returns c = let a = c.args in penalty-read a.scratch.now a.i _ _ refl (search rules)
