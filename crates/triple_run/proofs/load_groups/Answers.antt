-- `triple_run::load_groups` meets its contract: the groups below g are made. Assumes nothing.
use mathlib.Core.Path.{◌∙◌}
use native.Mathlib.Omega.{arith}
use lib.ListN.{length-set}
use Rattle.pair_run.proofs.Premises.{lanes-wider}
use Rattle.triple_run.proofs.Loading.{loaded-next}
use borrow.Author.Rules.{rules}
use Rattle.triple_run.proofs.load_groups.Goals as goal

pub loop-g-preserved : goal.loop-g-preserved
loop-g-preserved c =
    let k = c.loop-g in
    let o = c.outer_costs-found in
    let h = c.free_eight in
    let lg = c.loop-g-test.true in (
      length-set k.costs k.g _ ∙ k.invariant.0,
      length-set k.halves k.g _ ∙ k.invariant.1,
      loaded-next c.args.values.now k.g k.costs k.halves o.result h.result (omega (arith, k.invariant.0, lg)) (omega (arith, k.invariant.1, lg)) k.invariant.2
          (record { agree = o.ensures.0; small = o.ensures.1; folds-small = lanes-wider 254 4095 h.result (omega arith) (h.ensures.within 127 o.ensures.1); folds = h.ensures.nodes }),
    )

pub returns : goal.returns
returns c =
    let k = c.loop-g in
    ((λ g l. (k.invariant.2 g (search rules)).agree), λ g l. let h = k.invariant.2 g (search rules) in (h.small, h.folds-small, h.folds))
