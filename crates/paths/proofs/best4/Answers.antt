-- `paths::best4` meets its contract. Assumes nothing.
use Rattle.std.proofs.Common.{rules, ◌≡◌, pos, get_or, w32, to_z, of_z}
use mathlib.Core.Path.{ap₂, ◌∙◌}
use Rattle.values.specs.Value.{greater}
use Rattle.values.proofs.Greater.{greater-comm}
use Rattle.value_folds.proofs.Read.{read_is}
use Rattle.paths.proofs.best4.Goals as goal

pub returns : goal.returns
returns c =
    let row = c.args.row.now in
    let first : to_z w32 (of_z w32 c.max.result) ≡ greater (get_or row 0 (pos 0)) (get_or row 1 (pos 0)) = search rules in
    let second : to_z w32 (of_z w32 c.max-2.result) ≡ greater (get_or row 2 (pos 0)) (get_or row 3 (pos 0)) = search rules in
    read_is c.max-3.result c.max-3.type_inv ∙ c.max-3.ensures.value ∙ greater-comm (to_z w32 (of_z w32 c.max-2.result)) (to_z w32 (of_z w32 c.max.result)) ∙ ap₂ greater first second
