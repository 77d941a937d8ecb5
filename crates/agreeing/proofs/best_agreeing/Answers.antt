-- `agreeing::best_agreeing` meets its contract. The loop's invariant: `best` is the best of the records before i. Assumes nothing.
use mathlib.Core.Path.{sym, ◌∙◌, subst}
use Prim.Native.Nat.{◌+◌}
use Rattle.agreeing.specs.Found.{Lower, BestFound}
use Rattle.agreeing.proofs.Records.{found_stays, found_passes, found_new}
use Rattle.agreeing.proofs.best_agreeing.Goals as goal
use Rattle.agreeing.proofs.best_agreeing.Goals.{then-lower+then-agreeing, else-lower, else-lower-via-then-lower+else-agreeing, else-lower-via-else-lower}

pub loop-i-preserved : goal.loop-i-preserved
loop-i-preserved c =
    let a = c.args in
    let l = c.loop-i in
    elim c.if-lower.branch [
      | then-lower+then-agreeing w ↦
          subst (BestFound a.mask.now a.scratch.now a.n (l.i + 1)) (sym w.best-is)
          (found_new _ _ _ _ l.best l.invariant c.loop-i-test.true (subst (Lower a.scratch.now l.i l.best) w.if-lower.true c.lower.ensures) (sym w.agreeing.ensures ∙ w.if-agreeing.true))
      | else-lower w ↦
          subst (BestFound a.mask.now a.scratch.now a.n (l.i + 1)) (sym w.best-is)
          (elim w.else-lower.branch [
            | else-lower-via-then-lower+else-agreeing v ↦ found_passes _ _ _ _ l.best l.invariant (sym v.agreeing.ensures ∙ v.if-agreeing.false)
            | else-lower-via-else-lower v ↦ found_stays _ _ _ _ l.best l.invariant (subst (Lower a.scratch.now l.i l.best) v.if-lower.false c.lower.ensures)
          ])
    ]
