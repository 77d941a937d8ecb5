-- No value lies outside the limit, so eight of them are small enough for the transform.
use Rattle.std.proofs.Common.{arith}
use Rattle.folds.proofs.Range.{outside-none}
use Rattle.hadamard_cases.proofs.eight.Goals as goal

pub hadamard8-rows-requires : goal.hadamard8-rows-requires
hadamard8-rows-requires g c = λ i l. omega (arith, outside-none 32767 c.args.values c.in_default.ensures i)
