use mathlib.Core.Path.{◌≡◌}
use mathlib.Core.Bool.{◌&&◌}
use Prim.Native.Nat.{ℕ, ◌<◌}
use lib.ListN.{length}
use Rattle.base.specs.Bit.{◌⊕◌}
use Rattle.lane.specs.Lanes.{lane_bit, word_at}
use Rattle.lane_words.proofs.with_plane.Given as goal

abbrev pub invariant-loop-j : goal.invariant-loop-j
invariant-loop-j z =
    record {
      long : length z.o-items ≡ 16;
      done : (i : ℕ) → i < z.j → (l : ℕ) → word_at z.o-items l i ≡ (word_at z.words l i ⊕ (lane_bit z.row i && lane_bit z.plane l));
    }
