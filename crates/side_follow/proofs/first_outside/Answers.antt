-- `side_follow::first_outside` meets its contract. Assumes nothing.
use borrow.Author.Rules.{rules}
use lib.Dec.{ltb}
use lib.IntN.{nat_abs}
use Rattle.std.proofs.Common.{tests}
use Rattle.std.proofs.lemmas.Iterator.{YieldsList-from_slice}
use Rattle.std.proofs.lemmas.Iterator.Search.{position_from_yields_List}
use Rattle.folds.proofs.Range.{position-outside}
use Rattle.side_follow.proofs.first_outside.Goals as goal

pub returns : goal.returns
returns c =
    let a = c.args in
    let e = position_from_yields_List (λ y. ltb 2047 (nat_abs y)) _ _ c.position.result c.position.ensures.ran (YieldsList-from_slice a.values.now cc) (λ x b q k. search (rules, tests)) in
    rw e (position-outside 2047 a.values.now)
