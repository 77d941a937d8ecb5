-- `grid::column_sums` meets its contract. Assumes nothing.
use Rattle.grid.specs.Grid.{column_sum, column_sums}
use Rattle.grid.proofs.Grid.{tabulated}
use borrow.Author.Rules.{rules}
use Rattle.grid.proofs.column_sums.Goals as goal

pub returns : goal.returns
unfolding column_sums
returns c =
    tabulated 16 (column_sum c.args.rows c.args.choosing) c.filled.result (search rules) (λ i l.
    let k = c.filled.ensures i 0 l in
    search (rules, k))
