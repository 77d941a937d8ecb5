-- `triple_run::rows_at` meets its contract. Assumes nothing.
use borrow.Author.Rules.{rules}
use Rattle.triple_run.proofs.rows_at.Goals as goal

pub returns : goal.returns
returns c i l =
    let k = c.filled.ensures i 0 l in
    search (rules, k)
