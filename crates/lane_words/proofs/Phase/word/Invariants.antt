use Prim.Native.Nat.{◌-◌}
use Rattle.lane_words.proofs.Sums.{Window}
use Rattle.lane_words.proofs.Phase.word.Given as goal

abbrev pub invariant-loop-t : goal.invariant-loop-t
invariant-loop-t l = Window l.self.table.now l.self.number l.own (l.self.high - l.self.number) l.path l.t l.c
