-- The place of the number that is read next stays within the array.
use Rattle.std.proofs.Common.{◌≤◌}
use Rattle.report.proofs.rows.numbers.Given as goal

abbrev pub invariant-loop-c : goal.invariant-loop-c
invariant-loop-c l = (l.k ≤ 31) × (l.base ≤ 16)
