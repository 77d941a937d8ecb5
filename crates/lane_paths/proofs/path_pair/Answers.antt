-- `lane_paths::path_pair` meets its contract. Assumes nothing.
use mathlib.Core.Path.{◌∙◌}
use native.Mathlib.Omega.{arith}
use Rattle.base.specs.Bit.{◌⊕◌, bit}
use Rattle.bits.specs.Packed.{bits}
use Rattle.lane.specs.Lanes.{word_at, node_costs}
use Rattle.lane_paths.specs.Places.{two_costs}
use Rattle.lane_paths.proofs.Levels.{last-free, last-known, two-le, node-le}
use Rattle.lane_paths.proofs.path_pair.Goals as goal

pub returns-then-high-eq0 : goal.returns-then-high-eq0
returns-then-high-eq0 c =
    let two = c.onto_two-two in
    let a = c.args in
    λ l b ll. c.last_fold.ensures l b ll
    ∙ last-free a.high (word_at a.words.now l) (node_costs a.nodes.now (bit (bits 16 a.other)) l) (two_costs two.result l) (λ i b li. two.ensures i l b li ll) c.if-high-eq0.true (word_at a.words.now l a.high ⊕ b)

pub last_fold-requires-2-clause-small : goal.last_fold-requires-2-clause-small
last_fold-requires-2-clause-small c =
    let a = c.args in
    let f = bit (bits 16 a.other) in
    λ i l b li ll. rw (c.onto_two-two.ensures i l b li ll) (omega (arith, two-le a.high (word_at a.words.now l) (node_costs a.nodes.now f l) 4095 (node-le a.nodes.now f l c.requires.2 ll) i b li))

pub returns : goal.returns
returns c =
    let two = c.onto_two-two in
    let a = c.args in
    λ l b ll. c.last_fold-2.ensures l b ll
    ∙ last-known a.high (word_at a.words.now l) (node_costs a.nodes.now (bit (bits 16 a.other)) l) (two_costs two.result l) (λ i b li. two.ensures i l b li ll) c.if-high-eq0.false (word_at a.words.now l a.high ⊕ b)
