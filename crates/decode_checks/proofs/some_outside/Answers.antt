-- `decode_checks::some_outside` meets its contract. Found says whether the first value outside is among those passed. Assumes nothing.
use mathlib.Core.Path.{refl, sym}
use native.Mathlib.Omega.{arith}
use borrow.Author.Rules.{rules}
use borrow.Author.Tests.{le-ltb}
use lib.IntN.{pos}
use lib.ListN.{get_or}
use Rattle.folds.specs.Range.{first_outside}
use Rattle.folds.proofs.Range.{outside-lowest, outside-found}
use Rattle.decode_checks.proofs.Outside.{turn}
use Rattle.decode_checks.proofs.some_outside.Goals as goal

pub loop-y-init : goal.loop-y-init
loop-y-init c = sym (le-ltb (first_outside 127 c.args.values.now) 0 (omega arith))

pub loop-y-preserved : goal.loop-y-preserved
loop-y-preserved c =
    let ys = c.args.values.now in
    let i = c.loop-y.y-index in
    rw c.loop-y.invariant (turn _ i 128 (get_or ys i (pos 0)) refl (search rules) (outside-lowest 127 ys i) (λ d. rw d at (outside-found 127 ys (omega arith))))
