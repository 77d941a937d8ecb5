-- `side_follow::store` meets its contract: the first i scores are stored, and the rest of the buffer is as it was. Assumes nothing.
use mathlib.Core.Path.{refl, ◌∙◌}
use native.Mathlib.Omega.{arith}
use borrow.Author.Rules.{rules}
use lib.ListN.{length-set}
use Rattle.base.specs.Bit.{tabulate}
use Rattle.base.proofs.List.{fill-next}
use Rattle.side_follow.specs.Rows.{phase_major}
use Rattle.side_follow.proofs.store.Goals as goal

pub loop-i-init : goal.loop-i-init
unfolding tabulate
loop-i-init c = record { long = refl; done = refl }

pub loop-i-preserved : goal.loop-i-preserved
loop-i-preserved c =
    let a = c.args in
    let k = c.loop-i in
    record {
      long = length-set k.scores k.i _ ∙ k.invariant.long;
      done = rw k.invariant.done (fill-next (phase_major a.found.now) k.i a.scores.now _ (omega arith) (search rules));
    }
