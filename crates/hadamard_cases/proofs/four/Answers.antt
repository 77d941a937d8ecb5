-- No value lies outside the limit, so four of them are small enough for the transform.
use Rattle.std.proofs.Common.{arith}
use Rattle.folds.proofs.Range.{outside-none}
use Rattle.hadamard_cases.proofs.four.Goals as goal

pub hadamard4-row-requires : goal.hadamard4-row-requires
hadamard4-row-requires g c = λ i l. omega (arith, outside-none 32767 c.args.values c.in_default.ensures i)
