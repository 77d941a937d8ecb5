-- `lane_paths::two_folds` meets its contract: the first fold doubles the bound. Assumes nothing.
use mathlib.Core.Path.{◌∙◌}
use mathlib.Core.Bool.{Bool, true, false}
use Prim.Native.Nat.{ℕ, ◌≤◌, ◌<◌}
use native.Mathlib.Omega.{arith}
use borrow.Author.Rules.{rules}
use Rattle.base.specs.Bit.{bit}
use Rattle.bits.specs.Packed.{bits}
use Rattle.polar.specs.Code.{Costs}
use Rattle.lane.specs.Lanes.{node_costs}
use Rattle.folds.specs.Rows.{Pays}
use Rattle.lane_paths.proofs.Filling.{fill-four}
use Rattle.lane_paths.proofs.Levels.{node-le}
use Rattle.lane_paths.proofs.two_folds.Goals as goal

-- Two places that it leaves are small.
small : (m : Costs) → ((j : ℕ) (b : Bool) → j < 4 → m j b ≤ 8190) → (i j p q s t : ℕ) → i < 4 → j < 4 → Pays m i p q → Pays m j s t
    → (p ≤ 16383) × (q ≤ 16383) × (s ≤ 16383) × (t ≤ 16383)
small m most i j p q s t li lj a b = (
  omega (arith, a.0, most i false li),
  omega (arith, a.1, most i true li),
  omega (arith, b.0, most j false lj),
  omega (arith, b.1, most j true lj),
)

pub fold_pair-even-requires : goal.fold_pair-even-requires
fold_pair-even-requires g c =
    let a = c.args in
    let f = bit (bits 16 a.other) in
    let l = c.loop-l.l in
    let most = g.met.A.Fold.doubles a.first.now l 4 (node_costs a.nodes.now f l) 4095 (node-le a.nodes.now f l c.requires (search rules)) in
    small _ most 0 2 _ _ _ _ (omega arith) (omega arith) c.half-p.ensures c.half-q.ensures

pub fold_pair-odd-requires : goal.fold_pair-odd-requires
fold_pair-odd-requires g c =
    let a = c.args in
    let f = bit (bits 16 a.other) in
    let l = c.loop-l.l in
    let most = g.met.A.Fold.doubles a.first.now l 4 (node_costs a.nodes.now f l) 4095 (node-le a.nodes.now f l c.requires (search rules)) in
    small _ most 1 3 _ _ _ _ (omega arith) (omega arith) c.half-r.ensures c.half-s.ensures

pub loop-l-preserved : goal.loop-l-preserved
loop-l-preserved g c =
    let a = c.args in
    let k = c.loop-l in
    let ll : k.l < 16 = search rules in
    let left = g.A.Fold.onto a.first.now k.l 4 (node_costs a.nodes.now (bit (bits 16 a.other)) k.l) in
    let even = c.fold_pair-even.ensures 2 0 left c.half-p.ensures c.half-q.ensures in
    let odd = c.fold_pair-odd.ensures 2 1 left c.half-r.ensures c.half-s.ensures in
    fill-four k.l _ k.out k.invariant _ _ _ _ ll
    (even.0 ∙ c.bit.ensures 2 left false, even.1 ∙ c.bit.ensures 2 left true)
    (odd.0 ∙ c.bit-in-loop-l.ensures 2 left false, odd.1 ∙ c.bit-in-loop-l.ensures 2 left true)
