-- `straight_one::word1` meets its contract. Assumes nothing.
use mathlib.Core.Bool.{false}
use Rattle.base.specs.Bit.{bit}
use Rattle.straight_one.proofs.word1.Goals as goal

pub returns : goal.returns
returns c =
    let v = c.args.v.now in
    c.word_of_eight.ensures (bit v 0) (bit v 1) (bit v 2) false (bit v 3) false false false c.word_of_four-low.ensures c.word_of_four-high.ensures
