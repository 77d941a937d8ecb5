-- `folds::greatest` meets its contract. The local m is the greatest of the first i scores. Assumes nothing.
use borrow.Author.Rules.{rules}
use Rattle.folds.proofs.Rows.{greatest-next}
use Rattle.folds.proofs.greatest.Goals as goal

pub loop-i-preserved : goal.loop-i-preserved
loop-i-preserved c = search (rules, greatest-next)
