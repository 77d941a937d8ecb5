-- `soft_value::nearest` meets its contract. Assumes nothing.
use native.Mathlib.Omega.{arith}
use Rattle.rounding.proofs.Rounded.{rounded-sum}
use Rattle.soft_value.proofs.nearest.Goals as goal

pub returns : goal.returns
returns c = let e = rounded-sum c.args.w in omega arith
