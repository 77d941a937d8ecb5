-- `lane_words::low_four` meets its contract. Assumes nothing.
use mathlib.Core.Path.{refl}
use Prim.Native.Nat.{◌+◌}
use Rattle.lane.specs.Lanes.{word_at}
use Rattle.lane_words.proofs.Fours.{four_is}
use Rattle.lane_words.proofs.low_four.Goals as goal

pub returns : goal.returns
returns c =
    let a = c.args in
    four_is (λ i. word_at a.words.now a.l (12 + i)) _ _ _ _ _
    c.digit_of.ensures.1
    c.digit_of-2.ensures.1
    c.digit_of-3.ensures.1
    c.digit_of-4.ensures.1
    refl
