-- `lane_rows::scores` meets its contract. Assumes nothing.
use mathlib.Core.Path.{◌≡◌, ap₂, ◌∙◌}
use mathlib.Core.Bool.{true, false}
use lib.IntN.{pos, sub_ℕ}
use lib.ListN.{get_or}
use Rattle.folds.specs.Rows.{cell}
use Rattle.std.proofs.Common.{rules}
use Rattle.lane_rows.proofs.scores.Goals as goal

pub returns : goal.returns
returns c l h =
    let k = c.filled.ensures l (pos 0) h in
    let t = c.least_pair-least in
    let e : get_or c.filled.result l (pos 0) ≡ sub_ℕ (cell 0 t.result l true) (cell 0 t.result l false) = search (rules, k) in
    e ∙ ap₂ sub_ℕ (t.ensures l true h) (t.ensures l false h)
