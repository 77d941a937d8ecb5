-- `list_step::moved_home` meets its contract: what the array is filled with. Assumes nothing.
use native.Mathlib.Omega.{arith}
use borrow.Author.Rules.{rules}
use Rattle.list_step.proofs.moved_home.Goals as goal

pub returns : goal.returns
returns c = λ j l.
    let k = c.filled.ensures j 0 (omega arith) in
    search (rules, k)
