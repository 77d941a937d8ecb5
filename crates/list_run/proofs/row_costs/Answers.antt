-- `list_run::row_costs` meets its contract: the first i paths have their pairs. Assumes nothing.
use mathlib.Core.Path.{◌≡◌, subst⁻¹}
use mathlib.Core.List.{List, []}
use Prim.Native.Nat.{ℕ, ◌<◌}
use native.Mathlib.Omega.{arith}
use lib.ListN.{length, get_or}
use Rattle.lane.specs.Lanes.{LanesWithin}
use Rattle.lane_phases.specs.Rows.{KeptLane}
use Rattle.list_run.proofs.Outer.{none_yet, pairs_next, pairs-done}
use borrow.Author.Rules.{rules}
use Rattle.list_run.proofs.row_costs.Goals as goal

pub loop-i-init : goal.loop-i-init
loop-i-init c = none_yet _ _ _ _ _ (search rules) c.requires.held_len

pub loop-i-preserved : goal.loop-i-preserved
loop-i-preserved c =
    let k = c.loop-i in
    let a = c.args in
    let o = a.outer.now in
    let t = c.totals in
    let lt = c.loop-i-test.true in
    let li : k.i < 8 = omega (arith, c.requires.r_bound.1, lt) in
    let room : length o.costs.now ≡ 16 = search rules in
    let within : LanesWithin 127 o.costs.now = search rules in
    pairs_next o.kernel o.costs.now room within a.r a.planes.now a.held.now k.i li k.held k.pairs k.invariant
    t.result t.new.rows t.ensures.room
    (λ l ll. t.ensures.lanes l ll (λ late f. subst⁻¹ (λ (h : List (List (List ℕ))). KeptLane o.kernel o.costs.now (get_or a.planes.now k.i []) a.r h l) (k.invariant.later k.i (omega arith) li) (c.requires.kept_lane late f k.i l lt ll)))

pub returns : goal.returns
returns c =
    let k = c.loop-i in
    let a = c.args in
    let o = a.outer.now in
    let h = c.lanes_of.ensures in
    pairs-done o.kernel o.costs.now a.r a.planes.now a.held.now k.i a.n k.held k.pairs k.invariant (search rules) c.requires.r_bound.1 _ h.lanes h.within h.twins
