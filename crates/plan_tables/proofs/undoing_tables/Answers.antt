-- `plan_tables::undoing_tables` meets its contract: the tables of the first i layers are there. Assumes nothing.
use mathlib.Core.Path.{◌≡◌, ap, ◌∙◌}
use mathlib.Core.List.{[]}
use Prim.Native.Nat.{◌-◌}
use native.Mathlib.Omega.{arith}
use borrow.Author.Rules.{rules}
use lib.ListN.{get_or}
use Rattle.kernel.specs.Rows.{inverse_table}
use Rattle.base.proofs.List.{each_next}
use Rattle.plan.proofs.Layered.{layers-few, kernels-known}
use Rattle.plan_tables.specs.Tables.{undoing_table}
use Rattle.plan_tables.proofs.undoing_tables.Goals as goal

pub loop-i-init : goal.loop-i-init
loop-i-init c = (c.from-m.ensures, omega (arith, layers-few _ c.requires.0, c.from-m.ensures), search rules, λ j l. absurd (omega arith))

pub inverse_rows-requires : goal.inverse_rows-requires
inverse_rows-requires c = kernels-known _ c.requires.1 _ (omega (arith, c.loop-i-test.true, c.loop-i.invariant.0))

pub loop-i-preserved : goal.loop-i-preserved
loop-i-preserved c =
    let a = c.args.plan in
    let l = c.loop-i in
    (l.invariant.0, l.invariant.1, search rules, each_next (λ j x. x ≡ undoing_table a j) l.tables l.i [] _ (search rules) l.invariant.3 (c.inverse_rows.ensures ∙ ap (λ m. get_or inverse_table (get_or a.kernels (m - 1 - l.i) 0) []) l.invariant.0))
