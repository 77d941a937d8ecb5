-- `side_follow::run` meets its contract: after s phases their scores are written and the rows of the last one are kept. Assumes nothing.
use mathlib.Core.Path.{refl, ap}
use mathlib.Core.List.{[]}
use native.Mathlib.Omega.{arith}
use lib.ListN.{get_or}
use Rattle.side_follow.proofs.Phases.{no-phase, phase-next}
use borrow.Author.Rules.{rules}
use Rattle.side_follow.proofs.run.Goals as goal

pub free_eight-halves-requires : goal.free_eight-halves-requires
free_eight-halves-requires c = λ j lj l b ll. omega (arith, c.requires.1 j lj l b ll)

pub loop-s-init : goal.loop-s-init
loop-s-init c = let r = c in no-phase r.args.kernel r.args.costs.now r.args.planes.now _ _ refl refl

pub step-requires : goal.step-requires
step-requires c =
    let l = c.loop-s in
    let z = c in
    let h = c.free_eight-halves.ensures in record {
      kernel_bound = (z.requires.0, search rules, c.flags-flags.ensures);
      shape_value = (ap (λ t. get_or t l.s []) c.shapes_of-shapes.ensures, ap (λ t. get_or t l.s []) c.tables_of-tables.ensures);
      lanes_within = (z.requires.1, λ j lj p b lp. omega (arith, h.within 2047 z.requires.1 j lj p b lp), h.nodes);
      kept = λ z _. l.invariant.kept-so z;
    }

pub loop-s-preserved : goal.loop-s-preserved
loop-s-preserved c =
    let l = c.loop-s in
    let z = c in
    let t = c.step in
    phase-next z.args.kernel z.args.costs.now z.args.planes.now l.s (search rules) l.rows l.out l.invariant
    t.new.rows (search rules) t.ensures.held t.result t.ensures.scores

pub returns : goal.returns
returns c = λ s l ls ll. c.loop-s.invariant.scores-so s (omega arith) l ll
