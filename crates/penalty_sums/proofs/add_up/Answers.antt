-- `penalty_sums::add_up` meets its contract. Assumes nothing.
use Rattle.penalty_sums.proofs.Sums.{addable-whole, added-whole}
use borrow.Author.Rules.{rules}
use Rattle.penalty_sums.proofs.add_up.Goals as goal

pub add_from-requires : goal.add_from-requires
add_from-requires c = let z = c in addable-whole z.args.n z.args.scores.now z.args.symbols.now _ z.requires.0 z.requires.1 (search rules) z.requires.3

pub returns : goal.returns
returns c =
    let a = c.args in
    let h = c.add_from in
    added-whole a.n a.scores.now a.symbols.now a.out.now h.new.out h.ensures
