use Rattle.std.proofs.Common.{◌≡◌, ◌+◌, ◌*◌, take}
use Rattle.text.specs.Text.{hexadecimal}
use Rattle.text.specs.Put.{stored}
use Rattle.text.proofs.put_hexadecimal.Given as goal

abbrev pub invariant-loop-b : goal.invariant-loop-b
invariant-loop-b l = (l.end ≡ l.at + 2 * l.b-index) × (l.out ≡ stored (hexadecimal (take l.b-index l.bytes)) l.at l.initial.out)
