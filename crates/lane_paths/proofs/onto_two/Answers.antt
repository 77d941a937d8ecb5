-- `lane_paths::onto_two` meets its contract. Assumes nothing.
use mathlib.Core.Path.{◌≡◌, ap, ◌∙◌}
use mathlib.Core.List.{List}
use Prim.Native.Nat.{ℕ, ◌+◌, ◌<◌}
use native.Mathlib.Omega.{arith}
use lib.ListN.{get_or}
use Rattle.base.specs.Bit.{bit}
use Rattle.bits.specs.Packed.{bits}
use Rattle.polar.specs.Code.{Costs}
use Rattle.lane.specs.Lanes.{lane_bit, word_at, node_costs}
use Rattle.lane_paths.proofs.Levels.{onto-0, onto-1, onto-2, onto-3, read-1, read-2, read-3}
use Rattle.lane_paths.proofs.onto_two.Goals as goal

-- The bit of a lane in a plane of the four, and in the one that it was.
read : (words planes : List ℕ) (from l : ℕ) → ((j : ℕ) → j < 4 → get_or planes j 0 ≡ get_or words (from + j) 0) → (j : ℕ) → j < 4 → word_at planes l j ≡ word_at words l (from + j)
read words planes from l e j lj = ap (λ w. lane_bit w l) (e j lj)

pub returns-then-high-lt2 : goal.returns-then-high-lt2
returns-then-high-lt2 c =
    let a = c.args in
    λ i l b li ll. c.two_folds.ensures i l b li ll
    ∙ ap (λ (m : Costs). m i b) (onto-0 a.high (word_at a.words.now l) (node_costs a.nodes.now (bit (bits 16 a.other)) l) c.if-high-lt2.true)

pub returns-then-high-lt4 : goal.returns-then-high-lt4
returns-then-high-lt4 c =
    let a = c.args in
    λ i l b li ll.
    let y = word_at a.words.now l in
    let m = node_costs a.nodes.now (bit (bits 16 a.other)) l in
    let x = read a.words.now _ _ l c.four_from-planes.ensures in
    c.two_folds-then-high-lt4.ensures i l b li ll
    ∙ read-1 a.high y m (word_at c.four_from-planes.result l) i b (x i (omega arith))
    ∙ ap (λ (m : Costs). m i b) (onto-1 a.high y m c.if-high-lt2.false c.if-high-lt4.true)

pub returns-then-high-lt6 : goal.returns-then-high-lt6
returns-then-high-lt6 c =
    let a = c.args in
    λ i l b li ll.
    let y = word_at a.words.now l in
    let m = node_costs a.nodes.now (bit (bits 16 a.other)) l in
    let w = read a.words.now _ _ l c.four_from-planes-2.ensures in
    c.two_folds-then-high-lt6.ensures i l b li ll
    ∙ read-2 a.high y m (word_at c.four_from-planes-2.result l) i b (w i (omega arith)) (w (2 + i) (omega arith))
    ∙ ap (λ (m : Costs). m i b) (onto-2 a.high y m c.if-high-lt4.false c.if-high-lt6.true)

pub returns : goal.returns
returns c =
    let a = c.args in
    λ i l b li ll.
    let y = word_at a.words.now l in
    let m = node_costs a.nodes.now (bit (bits 16 a.other)) l in
    let w = read a.words.now _ _ l c.four_from-planes-2.ensures in
    let x = read a.words.now _ _ l c.four_from-planes-3.ensures in
    c.two_folds-2.ensures i l b li ll
    ∙ read-3 a.high y m (word_at c.four_from-planes-3.result l) (word_at c.four_from-planes-2.result l) i b (x i (omega arith)) (w i (omega arith)) (w (2 + i) (omega arith))
    ∙ ap (λ (m : Costs). m i b) (onto-3 a.high y m c.if-high-lt6.false)
