-- `lane_step::step` meets its contract. Assumes nothing.
use mathlib.Core.Path.{◌≡◌, ap, ◌∙◌}
use mathlib.Core.Bool.{true, false}
use Prim.Native.Nat.{ℕ, ◌-◌, ◌*◌, ◌%◌, ◌^◌, ◌≤◌, ◌<◌}
use native.Mathlib.Omega.{arith}
use lib.IntN.{sub_ℕ}
use lib.ListN.{get_or}
use lib.Pow.{pow_pos}
use Rattle.folds.specs.Rows.{least_to}
use Rattle.windows.specs.Tables.{shape_at}
use Rattle.windows.proofs.Words.{pow-le, paths-are}
use Rattle.windows.proofs.Stepping.{in-range}
use Rattle.lane.specs.Lanes.{lane_costs}
use Rattle.lane_phases.specs.Rows.{HeldLanes}
use Rattle.lane_phases.proofs.Phases.{lane-score}
use Rattle.lane_step.proofs.step.Goals as goal

-- The paths of a phase are some, and at most sixteen.
some-paths : (d : ℕ) → d ≤ 4 → (0 < 1 * 2 ^ d % 2 ^ 64) × (1 * 2 ^ d % 2 ^ 64 ≤ 16)
some-paths d l = (rw (paths-are d l) (pow_pos d), rw (paths-are d l) (pow-le d l))

pub scores-requires : goal.scores-requires
scores-requires c =
    let a = c.args in
    let p = c.requires in
    some-paths (get_or a.shape 0 0 - a.phase) (in-range a.kernel a.phase p.kernel_bound.0 p.kernel_bound.1 0 a.shape p.shape_value.0).2

pub returns-clause-scores : goal.returns-clause-scores
returns-clause-scores c =
    let a = c.args in
    let p = c.requires in
    let rows = c.next_rows.new.rows in
    let r = in-range a.kernel a.phase p.kernel_bound.0 p.kernel_bound.1 0 a.shape p.shape_value.0 in
    let e : get_or a.shape 0 0 ≡ shape_at a.kernel a.phase 0 = ap (λ l. get_or l 0 0) p.shape_value.0 in
    let d : shape_at a.kernel a.phase 0 - a.phase ≤ 4 = omega (arith, e, r.2) in
    let held : HeldLanes a.kernel a.costs.now a.planes.now a.phase rows = λ l ll. c.next_rows.ensures.held l ll (λ late f. p.kept late f l ll) in
    λ l ll.
    c.scores.ensures l ll
    ∙ ap (λ m. sub_ℕ (least_to (λ w. lane_costs rows l w true) (m - 1)) (least_to (λ w. lane_costs rows l w false) (m - 1)))
    (paths-are (get_or a.shape 0 0 - a.phase) r.2 ∙ ap (λ h. 2 ^ (h - a.phase)) e)
    ∙ lane-score a.kernel a.phase p.kernel_bound.0 p.kernel_bound.1 a.costs.now a.planes.now l rows d (held l ll)
