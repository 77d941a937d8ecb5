-- `pair_run::store_scores` meets its contract: the first i are stored, and the rest of the buffer is as it was. Assumes nothing.
use mathlib.Core.Path.{◌≡◌, refl, ap, ◌∙◌}
use lib.IntN.{pos}
use lib.ListN.{length}
use lib.Seq.{paste, paste-zero}
use Rattle.base.proofs.List.{paste-one}
use borrow.Author.Rules.{rules}
use Rattle.pair_run.proofs.store_scores.Goals as goal

pub loop-i-init : goal.loop-i-init
loop-i-init c = paste-zero c.args.out.now c.args.at c.args.found

pub loop-i-preserved : goal.loop-i-preserved
loop-i-preserved c =
    let a = c.args in
    let k = c.loop-i in
    let n : length a.found ≡ 16 = search rules in
    paste-one a.out.now k.out a.found a.at k.i _ (pos 0) _ (search rules) (search rules) k.invariant refl (search rules)

pub returns : goal.returns
returns c =
    let k = c.loop-i in
    let i : k.i ≡ 16 = search rules in
    let a = c.args in
    k.invariant ∙ ap (paste a.out.now a.at a.found) i
