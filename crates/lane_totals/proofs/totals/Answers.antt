-- `lane_totals::totals` meets its contract. Assumes nothing.
use mathlib.Core.Path.{refl, ap, ◌∙◌}
use mathlib.Core.List.{[]}
use Prim.Native.Nat.{ℕ, ◌-◌, ◌≤◌, ◌<◌}
use lib.ListN.{get_or}
use Rattle.folds.specs.Rows.{least_to}
use Rattle.windows.specs.Tables.{shape_table, shape_at}
use Rattle.windows.proofs.Stepping.{in-range}
use Rattle.lane.specs.Lanes.{lane_costs}
use Rattle.lane_phases.proofs.Phases.{lane-least}
use borrow.Author.Rules.{rules}
use Rattle.lane_totals.proofs.totals.Goals as goal

few : (k s : ℕ) → k < 3 → s < 16 → shape_at k s 0 - s ≤ 4
few k s lk ls = (in-range k s lk ls 0 (get_or (get_or shape_table k []) s []) refl).2

pub returns : goal.returns
returns c =
    let a = c.args in
    let p = c.requires in
    let paths = c.stepped-paths in
    let d = few a.kernel a.phase p.kernel_bound.0 p.kernel_bound.1 in
    record {
      room = search rules;
      lanes = λ l ll kept. let held = paths.ensures.held l ll kept in (
        held,
        λ b. c.least_pair.ensures l b ll
            ∙ ap (λ m. least_to (λ w. lane_costs paths.new.rows l w b) (m - 1)) paths.ensures.paths
            ∙ lane-least a.kernel a.phase p.kernel_bound.0 p.kernel_bound.1 a.costs.now a.planes.now l paths.new.rows d held b,
      );
    }
