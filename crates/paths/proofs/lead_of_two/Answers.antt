-- `paths::lead_of_two` meets its contract. Assumes nothing.
use mathlib.Core.Path.{ap₂, ◌∙◌}
use mathlib.Core.List.{[]}
use lib.IntN.{pos, ◌-ℤ◌}
use lib.ListN.{get_or}
use Rattle.values.proofs.Greater.{greater-small}
use Rattle.value_folds.proofs.Read.{read_is}
use Rattle.paths.proofs.Best.{row-greater}
use Rattle.paths.proofs.lead_of_two.Goals as goal

pub lead-requires : goal.lead-requires
lead-requires c =
    let a = c.args.a.now in
    let b = c.args.b.now in (
      λ i l. rw (c.best_each.ensures i l) (greater-small (get_or (get_or a 0 []) i (pos 0)) (get_or (get_or b 0 []) i (pos 0)) 16777216 (c.requires.0 i l) (c.requires.2 i l)),
      λ i l. rw (c.best_each-2.ensures i l) (greater-small (get_or (get_or a 1 []) i (pos 0)) (get_or (get_or b 1 []) i (pos 0)) 16777216 (c.requires.1 i l) (c.requires.3 i l)),
    )

pub returns : goal.returns
returns c =
    let a = c.args.a.now in
    let b = c.args.b.now in
    read_is c.lead.result c.lead.type_inv ∙ c.lead.ensures
    ∙ ap₂ ◌-ℤ◌ (row-greater c.best_each.result (get_or a 0 []) (get_or b 0 []) c.best_each.ensures) (row-greater c.best_each-2.result (get_or a 1 []) (get_or b 1 []) c.best_each-2.ensures)
