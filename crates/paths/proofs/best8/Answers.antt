-- `paths::best8` meets its contract: the greater of each pair, and the greatest of those. Assumes nothing.
use Rattle.std.proofs.Common.{rules, arith, ◌≡◌, ℕ, ◌+◌, ◌<◌, pos, get_or}
use mathlib.Core.Path.{ap₂, ◌∙◌}
use Rattle.values.specs.Value.{greater}
use Rattle.value_folds.proofs.Read.{read_is}
use Rattle.paths.proofs.Best.{row-best}
use Rattle.paths.proofs.best8.Goals as goal
use Rattle.paths.proofs.best8.Goals.{After-filled}

at : (c : After-filled) (i : ℕ) → i < 4 → get_or c.filled.result i (pos 0) ≡ greater (get_or c.args.row.now i (pos 0)) (get_or c.args.row.now (4 + i) (pos 0))
at c i h =
    let k = c.filled.ensures i (pos 0) h in
    let l : 4 + i < 8 = omega arith in
    search (rules, k)

pub returns : goal.returns
returns c =
    let m = at (goal.at.returns c).After-filled in
    read_is c.best4.result c.best4.type_inv ∙ c.best4.ensures
    ∙ ap₂ greater (ap₂ greater (m 0 (omega arith)) (m 1 (omega arith))) (ap₂ greater (m 2 (omega arith)) (m 3 (omega arith)))
    ∙ row-best c.args.row.now
