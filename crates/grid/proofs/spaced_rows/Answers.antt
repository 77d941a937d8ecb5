-- `grid::spaced_rows` meets its contract. Assumes nothing.
use Prim.Native.Nat.{◌+◌, ◌*◌}
use lib.ListN.{get_or}
use Rattle.grid.proofs.Grid.{tabulated}
use borrow.Author.Rules.{rules}
use Rattle.grid.proofs.spaced_rows.Goals as goal

pub returns : goal.returns
returns c =
    let a = c.args in
    tabulated 16 (λ i. get_or a.from.now (a.first + a.s * i) 0) c.filled.result (search rules) (λ i l.
    let k = c.filled.ensures i 0 l in
    search (rules, k))
