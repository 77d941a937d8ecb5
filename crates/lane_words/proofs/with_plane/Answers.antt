-- `lane_words::with_plane` meets its contract: the words below place j have the plane. Assumes nothing.
use mathlib.Core.Path.{◌≡◌, ap, ◌∙◌}
use mathlib.Core.Bool.{◌&&◌}
use Prim.Native.Nat.{ℕ}
use native.Mathlib.Omega.{arith}
use lib.ListN.{get_or, length-set}
use Rattle.base.specs.Bit.{◌⊕◌}
use Rattle.base.proofs.List.{each_next}
use Rattle.lane.specs.Lanes.{lane_bit, word_at}
use Rattle.lane_words.proofs.Sums.{added}
use Rattle.lane_words.proofs.with_plane.Goals as goal

pub loop-j-preserved : goal.loop-j-preserved
loop-j-preserved c =
    let a = c.args in
    let l = c.loop-j in
    record {
      long = length-set l.o-items l.j _ ∙ l.invariant.long;
      done = each_next (λ i x. (k : ℕ) → lane_bit x k ≡ (word_at a.words k i ⊕ (lane_bit a.row i && lane_bit a.plane k))) l.o-items l.j 0 _ (omega arith) l.invariant.done
          (λ k. added _ _ a.plane _ _ k c.only.ensures (c.has.ensures l.j (omega arith) (ap (λ f. get_or f l.j 0) c.requires)));
    }
