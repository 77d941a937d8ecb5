-- `lane_totals::stepped` meets its contract. Assumes nothing.
use mathlib.Core.Path.{ap}
use mathlib.Core.List.{[]}
use lib.ListN.{get_or}
use Rattle.windows.proofs.Stepping.{in-range}
use Rattle.lane_totals.proofs.stepped.Goals as goal

pub path_count-requires : goal.path_count-requires
path_count-requires c =
    let a = c.args in
    let p = c.requires in
    in-range a.kernel a.phase p.kernel_bound.0 p.kernel_bound.1 0 _ (ap (λ t. get_or t a.phase []) p.tables_of.0)
