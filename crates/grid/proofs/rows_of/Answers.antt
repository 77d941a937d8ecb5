-- `grid::rows_of` meets its contract: the first r rows are stored. Assumes nothing.
use mathlib.Core.Path.{◌≡◌, refl, ap, ◌∙◌}
use Prim.Native.Nat.{ℕ}
use lib.ListN.{length, set}
use Rattle.base.specs.Bit.{tabulate}
use Rattle.base.proofs.List.{filled, fill-next, fill-all}
use Rattle.grid.specs.Grid.{byte_row, rows_bits}
use Rattle.grid.proofs.Bytes.{rows_made}
use borrow.Author.Rules.{rules}
use Rattle.grid.proofs.rows_of.Goals as goal

pub loop-r-init : goal.loop-r-init
unfolding tabulate
loop-r-init c = refl

pub loop-r-preserved : goal.loop-r-preserved
loop-r-preserved c =
    let a = c.args in
    let l = c.loop-r in
    ap (λ o. set o l.r c.from_be_bytes.result) l.invariant ∙ fill-next (byte_row a.bytes.now) l.r a.out.now _ (search rules) (search rules)

pub returns : goal.returns
returns c =
    let a = c.args in
    let l = c.loop-r in
    let n : ℕ = length a.out.now in
    let e : l.r ≡ n = search rules in (
      search rules,
      ap (rows_bits n) (l.invariant ∙ ap (λ k. filled (byte_row a.bytes.now) k a.out.now) e ∙ fill-all (byte_row a.bytes.now) n a.out.now refl)
          ∙ rows_made n a.bytes.now c.requires.0 (λ i _. (c.type_inv.bytes i).fits),
    )
