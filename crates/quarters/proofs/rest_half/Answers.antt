-- `quarters::rest_half` meets its contract. Assumes nothing.
use mathlib.Core.Path.{ap, ◌∙◌}
use Prim.Native.Nat.{◌+◌}
use native.Mathlib.Omega.{arith}
use lib.IntN.{pos}
use lib.ListN.{get_or}
use Rattle.base.specs.Bit.{bit}
use Rattle.folds.specs.Range.{value_limit}
use Rattle.folds.proofs.Limit.{limit-room}
use Rattle.values.specs.Value.{known_value}
use Rattle.quarters.proofs.Bounds.{wider, limit-small}
use borrow.Author.Rules.{rules}
use Rattle.quarters.proofs.rest_half.Goals as goal

pub known_half-requires : goal.known_half-requires
known_half-requires c =
    let s = c in
    (search rules, (search rules, (s.requires.0, wider value_limit 16777216 16 s.args.values.now (omega (arith, limit-room)) (limit-small s.args.values.now s.requires.0 s.requires.1))))

pub returns : goal.returns
returns c =
    let s = c.args in
    let ys = s.values.now in
    let w = c.word_of_eight-word.ensures (bit s.first.now 0) (bit s.first.now 1) (bit s.first.now 2) (bit s.first.now 3) (bit s.second.now 0) (bit s.second.now 1) (bit s.second.now 2) (bit s.second.now 3) c.word_of_four.ensures c.word_of_four-2.ensures in
    λ i l. c.known_half.ensures i l ∙ ap (λ b. known_value b (get_or ys i (pos 0)) (get_or ys (8 + i) (pos 0))) (w i l)
