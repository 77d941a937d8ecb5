use Rattle.std.proofs.Common.{◌≡◌, ℕ, ◌<◌, length, get_or}
use lib.IntN.{pos}
use Rattle.line.specs.Line.{signed_byte}
use Rattle.line.proofs.values.Given as goal

abbrev pub invariant-loop-i : goal.invariant-loop-i
invariant-loop-i l = (length l.out ≡ 256) × ((j : ℕ) → j < l.i → get_or l.out j (pos 0) ≡ signed_byte (get_or l.bytes j 0))
