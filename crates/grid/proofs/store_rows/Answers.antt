-- `grid::store_rows` meets its contract: the bytes of the first r rows are stored, and the rest of the buffer is as it was. Assumes nothing.
use mathlib.Core.Path.{◌≡◌, refl, sym, ap, ◌∙◌}
use mathlib.Core.List.{◌++◌}
use Prim.Native.Nat.{ℕ, ◌+◌, ◌*◌}
use native.Mathlib.Omega.{arith}
use lib.ListN.{length, drop}
use Rattle.base.specs.Bit.{tabulate}
use Rattle.base.proofs.List.{filled}
use Rattle.grid.specs.Grid.{byte_of}
use Rattle.grid.proofs.Bytes.{fill-two, byte_high, byte_low, pack-rows}
use borrow.Author.Rules.{rules}
use Rattle.grid.proofs.store_rows.Goals as goal

pub loop-r-init : goal.loop-r-init
unfolding tabulate
loop-r-init c = refl

pub loop-r-preserved : goal.loop-r-preserved
loop-r-preserved c =
    let a = c.args in
    let r = c.loop-r.r in
    fill-two (byte_of a.rows.now) (2 * r) (2 * (r + 1)) a.out.now c.loop-r.out _ _ (omega arith) (omega arith) c.loop-r.invariant
    (search (rules, byte_high a.rows.now r)) (search (rules, byte_low a.rows.now r))

pub returns : goal.returns
returns c =
    let a = c.args in
    let l = c.loop-r in
    let n : ℕ = length a.rows.now in
    let e : l.r ≡ n = search rules in
    l.invariant ∙ ap (λ r. filled (byte_of a.rows.now) (2 * r) a.out.now) e ∙ ap (λ p. p ++ drop (2 * n) a.out.now) (sym (pack-rows n a.rows.now))
