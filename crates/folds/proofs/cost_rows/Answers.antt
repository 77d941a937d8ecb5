-- `folds::cost_rows` meets its contract: rows that are filled are within a bound of the costs. Assumes nothing.
use mathlib.Core.Path.{◌≡◌, sym, ◌∙◌}
use borrow.Author.Rules.{rules}
use Rattle.folds.proofs.Fill.{filled_within}
use Rattle.folds.proofs.Signs.{channel-most}
use Rattle.folds.proofs.cost_rows.Goals as goal

pub returns-clause-within : goal.returns-clause-within
returns-clause-within c =
    let e : c.loop-i.i ≡ 16 = search rules in
    λ n h. filled_within 16 16 _ _ (rw e at c.loop-i.invariant) n (λ j b _. channel-most n c.args.values.now (h ∙ sym c.requires) j b)
