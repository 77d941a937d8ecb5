-- `lane_totals::totals_from` meets its contract: before phase q a lane has what that phase asks for. Assumes nothing.
use mathlib.Core.Path.{◌≡◌, refl, subst}
use Prim.Native.Nat.{◌<◌}
use native.Mathlib.Omega.{arith}
use Rattle.lane_phases.specs.Rows.{KeptLane}
use Rattle.lane_phases.proofs.Phases.{held-kept-lane}
use Rattle.lane_totals.specs.Totals.{Again}
use Rattle.lane_totals.proofs.totals_from.Goals as goal

pub loop-q-preserved : goal.loop-q-preserved
loop-q-preserved c =
    let k = c.loop-q in
    let a = c.args in
    λ l ll h _ _. held-kept-lane a.kernel a.costs.now a.planes.now a.planes.now k.q c.stepped.new.rows (λ i li. refl) l (c.stepped.ensures.held l ll (k.invariant l ll h))

pub returns : goal.returns
returns c =
    let k = c.loop-q in
    let a = c.args in
    let e : k.q ≡ a.phase = omega (arith, k.auto.q-end c.requires.kernel_bound.2, c.loop-q-test.false) in
    record { room = c.totals.ensures.room; lanes = λ l ll h. c.totals.ensures.lanes l ll (subst (λ n. 0 < n → Again a.kernel n → KeptLane a.kernel a.costs.now a.planes.now n k.rows l) e (k.invariant l ll h)) }
