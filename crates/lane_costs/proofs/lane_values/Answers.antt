-- `lane_costs::lane_values` meets its contract. Assumes nothing.
use Rattle.std.proofs.Common.{rules, pos}
use Rattle.lane_costs.proofs.lane_values.Goals as goal

pub returns : goal.returns
returns c i h = let k = c.filled.ensures i (pos 0) h in search (rules, k)
