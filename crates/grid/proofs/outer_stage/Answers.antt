-- `grid::outer_stage` meets its contract. Assumes nothing.
use mathlib.Core.Path.{ap, ◌∙◌}
use Prim.Native.Nat.{ℕ}
use lib.ListN.{length}
use Rattle.grid.specs.Grid.{rows_bits}
use Rattle.grid.proofs.Grid.{rows-taken}
use borrow.Author.Rules.{rules}
use Rattle.grid.proofs.outer_stage.Goals as goal

pub returns : goal.returns
returns c =
    let a = c.args in
    let n : ℕ = length a.rows.now in
    (search rules, ap (rows_bits n) c.copy_from_slice.ensures.after ∙ rows-taken n _ ∙ c.stage_rows.ensures)
