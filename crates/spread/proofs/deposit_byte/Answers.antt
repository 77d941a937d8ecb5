-- `spread::deposit_byte` meets its contract: after i phases u has their symbols, and rest the payload bits that are left. Assumes nothing.
use Rattle.std.proofs.Common.{◌∙◌, arith, rules, eq-eqb, ne_eqb}
use Rattle.bits.proofs.Packed.{bits-shift}
use Rattle.spread.proofs.Spreading.{partly_none, partly-marked, partly-frozen, partly-all}
use Rattle.spread.proofs.deposit_byte.Goals as goal
use Rattle.spread.proofs.deposit_byte.Goals.{else-m-i-eq1, then-m-i-eq1}

pub loop-i-init : goal.loop-i-init
loop-i-init c = (search rules, search rules, partly_none c.args.m c.args.p 0)

pub loop-i-preserved : goal.loop-i-preserved
loop-i-preserved c =
    let a = c.args in
    let l = c.loop-i in
    let b = bits-shift 7 a.m l.i (omega arith) in
    (elim c.if-m-i-eq1.branch [
      | then-m-i-eq1 w ↦ (
        omega arith,
        omega arith,
        partly-marked a.m a.p l.u l.rest l.i (omega arith) l.invariant.2 (b ∙ eq-eqb _ _ w.if-m-i-eq1.true) l.invariant.1 _ _ (omega (arith, w.x-is)) (omega (arith, w.x-is)),
      )
      | else-m-i-eq1 w ↦ (
        omega arith,
        omega arith,
        partly-frozen a.m a.p l.u l.rest l.i (omega arith) l.invariant.2 (b ∙ ne_eqb _ _ w.if-m-i-eq1.false) _ _ (omega (arith, w.x-is)) (omega (arith, w.x-is)),
      )
    ])

pub returns : goal.returns
returns c =
    let a = c.args in
    let l = c.loop-i in
    partly-all a.m a.p l.u l.rest l.i (search rules) l.invariant.0 l.invariant.2
