-- `grid::inner_stage` meets its contract: the first r rows are encoded, and the others as they were. Assumes nothing.
use mathlib.Core.Path.{◌≡◌, refl, ap, ◌∙◌}
use Prim.Native.Nat.{ℕ}
use lib.ListN.{length, get_or, set}
use Rattle.base.specs.Bit.{tabulate}
use Rattle.base.proofs.List.{filled, fill-next, fill-rest, fill-all, tabulate-at}
use Rattle.kernel.specs.Rows.{row_sum}
use Rattle.grid.proofs.Grid.{row-turned, staged-rows}
use borrow.Author.Rules.{rules}
use Rattle.grid.proofs.inner_stage.Goals as goal

pub loop-row-init : goal.loop-row-init
unfolding tabulate
loop-row-init c = refl

pub loop-row-preserved : goal.loop-row-preserved
loop-row-preserved c =
    let a = c.args in
    let l = c.loop-row in
    let f : ℕ → ℕ = λ q. row_sum a.table (get_or a.rows.now q 0) in
    let z = c.row_sum.result in
    ap (λ o. set o l.row-index z) l.invariant
    ∙ fill-next f l.row-index a.rows.now z (search rules)
    (c.row_sum.ensures ∙ ap (λ o. row_sum a.table (get_or o l.row-index 0)) l.invariant ∙ ap (row_sum a.table) (fill-rest f l.row-index a.rows.now l.row-index 0 (search rules)))

pub returns : goal.returns
returns c =
    let a = c.args in
    let l = c.loop-row in
    let f : ℕ → ℕ = λ q. row_sum a.table (get_or a.rows.now q 0) in
    let n : ℕ = length a.rows.now in
    let e : l.row-index ≡ n = search rules in
    let all : l.rows ≡ tabulate n f = l.invariant ∙ ap (λ k. filled f k a.rows.now) e ∙ fill-all f n a.rows.now refl in (
      search rules,
      staged-rows a.table 1 a.rows.now l.rows (λ q lq.
          ap (λ o. get_or o q 0) all ∙ tabulate-at n f q 0 lq ∙ row-turned a.table a.rows.now q),
    )
