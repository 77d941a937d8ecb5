use Prim.Native.Nat.{◌≤◌}
use Rattle.lane_words.proofs.Sums.{Made}
use Rattle.lane_words.proofs.words_of.Given as goal

abbrev pub invariant-loop-s : goal.invariant-loop-s
invariant-loop-s l = (l.s ≤ l.phase) × Made l.table l.planes l.s l.words
