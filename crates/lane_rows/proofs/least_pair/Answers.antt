-- `lane_rows::least_pair` meets its contract: the least of the first w paths, or of all. Assumes nothing.
use mathlib.Core.Path.{◌≡◌, ◌∙◌}
use Prim.Native.Nat.{◌+◌, ◌-◌, min}
use native.Mathlib.Omega.{arith}
use Rattle.lane.specs.Lanes.{lane_costs}
use Rattle.lane_rows.proofs.Rows.{least_first, least-next}
use Rattle.lane_rows.proofs.least_pair.Goals as goal

pub loop-w-init : goal.loop-w-init
loop-w-init c = λ l b _. least_first (λ i. lane_costs c.args.rows.now l i b) _

pub loop-w-preserved : goal.loop-w-preserved
loop-w-preserved c =
    let k = c.loop-w in
    let a = c.args in
    λ l b h. c.least_three-next.ensures l b h ∙ least-next (λ i. lane_costs a.rows.now l i b) a.n k.w _ _ k.auto.w c.loop-w-test.true c.path_after.ensures (k.invariant l b h)

pub returns-2 : goal.returns-2
returns-2 c =
    let k = c.loop-w in
    let a = c.args in
    let e : a.n - 1 ≡ min (k.w + 2 - 1) (a.n - 1) = omega arith in
    λ l b h. rw e (c.least_three-next.ensures l b h ∙ least-next (λ i. lane_costs a.rows.now l i b) a.n k.w _ _ k.auto.w c.loop-w-test.true c.path_after.ensures (k.invariant l b h))
