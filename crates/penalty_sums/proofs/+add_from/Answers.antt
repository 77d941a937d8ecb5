-- `penalty_sums::add_from` meets its contract: sixteen rows, and the others after them. Assumes nothing.
use native.Mathlib.Omega.{arith}
use borrow.Author.Rules.{rules}
use Rattle.penalty_sums.proofs.Sums.{addable-part}
use Rattle.penalty_sums.proofs.+add_from.Goals as goal

pub add_rows-next-requires : goal.add_rows-next-requires
add_rows-next-requires t c =
    let z = c in
    let a = z.args in
    (omega arith, addable-part a.n 16 a.first a.start a.scores.now a.symbols.now _ (search rules) z.requires)
