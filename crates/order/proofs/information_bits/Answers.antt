-- `order::information_bits` meets its contract. Invariant: the phases of the order that the loop has passed are marked.
-- Assumes nothing.
use mathlib.Core.Path.{◌≡◌, ap, ap₂, ◌∙◌}
use mathlib.Core.Bool.{true}
use Prim.Native.Nat.{◌*◌, ◌<◌}
use native.Mathlib.Omega.{arith}
use lib.ListN.{length, get_or, set, take}
use lib.Seq.{get_or-take, length-take-le}
use Rattle.order.specs.Order.{order, information_bits}
use Rattle.order.proofs.Order.{order-count}
use Rattle.order.proofs.Marks.{marks, marks-none, marks-next}
use Rattle.order.proofs.information_bits.Goals as goal
use Rattle.order.proofs.information_bits.Goals.{After-information_order}

-- So many phases are marked.
count : (c : After-information_order) → length (take (8 * c.args.p) c.information_order.result.now) ≡ 8 * c.args.p
count c = length-take-le (8 * c.args.p) c.information_order.result.now (omega (arith, c.requires, ap length c.information_order.ensures, order-count))

pub loop-phase-init : goal.loop-phase-init
loop-phase-init c = marks-none order

pub loop-phase-preserved : goal.loop-phase-preserved
loop-phase-preserved c =
    let l = c.loop-phase in
    let o = c.information_order in
    let i : l.phase-index < 8 * c.args.p = omega (arith, count (goal.at.loop-phase-preserved c).After-information_order, c.loop-phase-test.true) in
    c.set_bit.ensures
    ∙ ap₂ (λ u x. set u x true) l.invariant (get_or-take (8 * c.args.p) o.result.now l.phase-index 0 i ∙ ap (λ s. get_or s l.phase-index 0) o.ensures)
    ∙ marks-next order l.phase-index (omega (arith, order-count, c.requires, i))

pub returns : goal.returns
unfolding information_bits
returns c =
    let l = c.loop-phase in
    let e : l.phase-index ≡ 8 * c.args.p = omega (arith, count (goal.at.returns c).After-information_order, l.auto.phase-index-end, c.loop-phase-test.false) in
    l.invariant ∙ ap (marks order) e
