-- `frame_run::kernel_values` meets its contract. Assumes nothing.
use lib.IntN.{pos}
use borrow.Author.Rules.{rules}
use Rattle.frame_run.proofs.kernel_values.Goals as goal

pub returns : goal.returns
returns c i l =
    let k = c.filled.ensures i (pos 0) l in
    search (rules, k)
