-- `paths::lead` meets its contract. Assumes nothing.
use mathlib.Core.List.{[]}
use native.Mathlib.Omega.{arith}
use lib.ListN.{get_or}
use Rattle.values.specs.Path.{row_best}
use Rattle.paths.proofs.Best.{row_small}
use Rattle.value_folds.proofs.Carried.{Carried, carried, sub-fits, carried-sub}
use Rattle.paths.proofs.lead.Goals as goal
use Rattle.paths.proofs.lead.Goals.{After-best8-one}

-- The greatest of each row.
zero : (c : After-best8-one) → Carried c.best8-zero.result (row_best (get_or c.args.rows.now 0 [])) 16777216
zero c =
    let s = c in
    let d = c in
    carried d.best8-zero.result (row_best (get_or s.args.rows.now 0 [])) 16777216 d.best8-zero.type_inv d.best8-zero.ensures (row_small 16777216 (get_or s.args.rows.now 0 []) s.requires.0)

one : (c : After-best8-one) → Carried c.best8-one.result (row_best (get_or c.args.rows.now 1 [])) 16777216
one c =
    let s = c in
    carried c.best8-one.result (row_best (get_or s.args.rows.now 1 [])) 16777216 c.best8-one.type_inv c.best8-one.ensures (row_small 16777216 (get_or s.args.rows.now 1 []) s.requires.1)

pub overflow_sub-result : goal.overflow_sub-result
overflow_sub-result c = sub-fits _ _ _ _ 16777216 16777216 (zero (goal.at.overflow_sub-result c).After-best8-one) (one (goal.at.overflow_sub-result c).After-best8-one) (omega arith)

pub returns : goal.returns
returns c = (carried-sub _ _ _ _ 16777216 16777216 (zero (goal.at.returns c).After-best8-one) (one (goal.at.returns c).After-best8-one) (omega arith)).is
