-- `plan_tables::layer_tables` meets its contract: the tables of the first i layers are there. Assumes nothing.
use mathlib.Core.Path.{◌≡◌}
use mathlib.Core.List.{[]}
use native.Mathlib.Omega.{arith}
use borrow.Author.Rules.{rules}
use Rattle.base.proofs.List.{each_next}
use Rattle.plan.proofs.Layered.{layers-few, kernels-known}
use Rattle.plan_tables.specs.Tables.{layer_table}
use Rattle.plan_tables.proofs.layer_tables.Goals as goal

pub loop-i-init : goal.loop-i-init
loop-i-init c = (c.from-m.ensures, omega (arith, layers-few _ c.requires.0, c.from-m.ensures), search rules, λ j l. absurd (omega arith))

pub kernel_rows-requires : goal.kernel_rows-requires
kernel_rows-requires c = kernels-known _ c.requires.1 _ (omega (arith, c.loop-i-test.true, c.loop-i.invariant.0))

pub loop-i-preserved : goal.loop-i-preserved
loop-i-preserved c =
    let a = c.args.plan in
    let l = c.loop-i in
    (l.invariant.0, l.invariant.1, search rules, each_next (λ j x. x ≡ layer_table a j) l.tables l.i [] _ (search rules) l.invariant.3 c.kernel_rows.ensures)
