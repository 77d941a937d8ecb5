-- `straight_one::rest1` meets its contract. Assumes nothing.
use mathlib.Core.Path.{ap, ◌∙◌}
use mathlib.Core.List.{[], ◌∷◌}
use Prim.Native.Nat.{◌+◌}
use Rattle.base.specs.Bit.{bit}
use Rattle.values.specs.Value.{known_value}
use Rattle.values.specs.Arikan.{arikan_word}
use Rattle.phase_scores.specs.Quarter.{at}
use Rattle.quarters.proofs.Index.{fifth}
use Rattle.straight_one.proofs.rest1.Goals as goal

pub rest_half-requires : goal.rest_half-requires
rest_half-requires c = (c.requires.0, c.requires.1)

pub returns : goal.returns
returns c i l =
    let s = c.args in
    let ys = s.values.now in
    let v = s.v.now in
    let o = s.opened.now in
    let q = s.found.now in
    c.rest_half.ensures i l
    ∙ ap (λ b. known_value (arikan_word 3 (bit v 0 ∷ bit v 1 ∷ bit v 2 ∷ s.v3 ∷ bit v 3 ∷ b ∷ bit q 0 ∷ bit q 2 ∷ []) i) (at ys i) (at ys (8 + i))) (fifth (bit o 2) (bit q 0) (bit q 1))
