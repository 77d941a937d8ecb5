-- `penalty_sums::payments` meets its contract. Assumes nothing.
use borrow.Author.Rules.{rules}
use Rattle.penalty_sums.proofs.payments.Goals as goal

pub returns : goal.returns
returns c s l =
    let k = c.filled.ensures s 0 l in
    search (rules, k)
