-- `quarters::word_of_four` meets its contract. Assumes nothing.
use mathlib.Core.Path.{refl, ap₂, ◌∙◌}
use mathlib.Core.Bool.{not, beq}
use Rattle.base.specs.Bit.{◌⊕◌, bit}
use Rattle.values.specs.Arikan.{arikan_word}
use Rattle.quarters.proofs.Index.{below-4, differ}
use Rattle.quarters.proofs.word_of_four.Goals as goal

pub returns : goal.returns
unfolding arikan_word
returns c =
    let v = bit c.args.v.now in
    below-4 _
    (differ (not (beq (v 0) (v 1))) (not (beq (v 2) (v 3))) ∙ ap₂ ◌⊕◌ (differ (v 0) (v 1)) (differ (v 2) (v 3)))
    (differ (v 1) (v 3))
    (differ (v 2) (v 3))
    refl
