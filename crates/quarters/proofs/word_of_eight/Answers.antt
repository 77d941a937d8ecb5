-- `quarters::word_of_eight` meets its contract. Assumes nothing.
use mathlib.Core.Path.{ap₂, ◌∙◌}
use native.Mathlib.Omega.{arith}
use Rattle.base.specs.Bit.{◌⊕◌, bit}
use Rattle.values.specs.Arikan.{arikan_word}
use Rattle.quarters.proofs.Index.{below-8, differ}
use Rattle.quarters.proofs.word_of_eight.Goals as goal

pub returns : goal.returns
unfolding arikan_word
returns c a b d e p q s t h k =
    let u = c.args.first.now in
    let v = c.args.second.now in
    below-8 _
    (differ (bit u 0) (bit v 0) ∙ ap₂ ◌⊕◌ (h 0 (omega arith)) (k 0 (omega arith)))
    (differ (bit u 1) (bit v 1) ∙ ap₂ ◌⊕◌ (h 1 (omega arith)) (k 1 (omega arith)))
    (differ (bit u 2) (bit v 2) ∙ ap₂ ◌⊕◌ (h 2 (omega arith)) (k 2 (omega arith)))
    (differ (bit u 3) (bit v 3) ∙ ap₂ ◌⊕◌ (h 3 (omega arith)) (k 3 (omega arith)))
    (k 0 (omega arith))
    (k 1 (omega arith))
    (k 2 (omega arith))
    (k 3 (omega arith))
