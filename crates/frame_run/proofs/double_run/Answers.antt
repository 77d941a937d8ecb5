-- `frame_run::double_run` meets its contract. Assumes nothing.
use mathlib.Core.Path.{ap, ◌∙◌}
use mathlib.Core.List.{List}
use Prim.Native.Nat.{ℕ}
use native.Mathlib.Omega.{arith}
use lib.ListN.{get_or, get_or-append}
use Rattle.frame_run.proofs.Runs.{double-scored}
use Rattle.frame_run.proofs.double_run.Goals as goal
use Rattle.frame_run.proofs.double_run.Goals.{After-pair_run-run}

pub returns : goal.returns
returns c =
    let a = c.args in
    let o = c.outer_costs-costs in
    let row = c.pair_run-run in
    double-scored a.kernels a.values.now o.result o.ensures.0 a.free.now a.given.now c.rows_at.result c.rows_at-2.result
    row.result.symbols row.result.planes _ _ a.scores.now c.rows_at.ensures c.rows_at-2.ensures
    (λ i l. get_or-append c.copy_from_slice.new.self _ 0 i (omega (arith, c.copy_from_slice.ensures.len)) ∙ ap (λ (t : List ℕ). get_or t i 0) c.copy_from_slice.ensures.after)
    row.ensures
