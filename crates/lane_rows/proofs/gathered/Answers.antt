-- `lane_rows::gathered` meets its contract. Assumes nothing.
use Rattle.std.proofs.Common.{rules}
use Rattle.lane_rows.proofs.gathered.Goals as goal

pub returns : goal.returns
returns c l h = let k = c.filled.ensures l 0 h in search (rules, k)
