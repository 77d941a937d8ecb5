-- `follow::store_scores` meets its contract: the first i are stored, and the rest of the buffer is as it was. Assumes nothing.
use mathlib.Core.Path.{◌≡◌, sym, ap, ◌∙◌}
use mathlib.Core.List.{List, ◌++◌}
use native.Mathlib.Nat.{zero-add}
use native.Mathlib.Omega.{arith}
use lib.IntN.{ℤ, pos}
use lib.ListN.{length, drop}
use lib.Seq.{paste, paste-zero, take_all}
use Rattle.base.proofs.List.{paste-one}
use borrow.Author.Rules.{rules}
use Rattle.follow.proofs.store_scores.Goals as goal

pub loop-i-init : goal.loop-i-init
loop-i-init c = paste-zero c.args.out.now 0 c.args.found

pub loop-i-preserved : goal.loop-i-preserved
loop-i-preserved c =
    let a = c.args in
    let k = c.loop-i in
    let n : length a.found ≡ 16 = search rules in
    paste-one a.out.now k.out a.found 0 k.i k.i (pos 0) _ (search rules) (search rules) k.invariant (sym (zero-add k.i))
    (search rules)

pub returns : goal.returns
returns c =
    let k = c.loop-i in
    let a = c.args in
    let n : length a.found ≡ 16 = search rules in
    let i : k.i ≡ 16 = search rules in
    k.invariant ∙ ap (paste a.out.now 0 a.found) i ∙ ap (λ (t : List ℤ). t ++ drop 16 a.out.now) (take_all 16 a.found (omega arith))
