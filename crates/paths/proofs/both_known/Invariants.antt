use Prim.Native.Nat.{◌+◌}
use lib.IntN.{pos}
use lib.ListN.{get_or}
use Rattle.base.specs.Bit.{◌⊕◌}
use Rattle.values.specs.Value.{known_value}
use Rattle.paths.proofs.Halves.{Halves}
use Rattle.paths.proofs.both_known.Given as goal

abbrev pub invariant-loop-i : goal.invariant-loop-i
invariant-loop-i l = Halves (pos 0) l.i (λ d j. known_value (l.bit ⊕ d) (get_or l.p j (pos 0)) (get_or l.p (4 + j) (pos 0))) l.out
