use Rattle.std.proofs.Common.{◌≡◌, ltb}
use Rattle.folds.specs.Range.{first_outside}
use Rattle.decode_checks.proofs.some_outside.Given as goal

abbrev pub invariant-loop-y : goal.invariant-loop-y
invariant-loop-y l = l.found ≡ ltb (first_outside 127 l.values) l.y-index
