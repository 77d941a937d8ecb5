-- `paths::best_each` meets its contract: each entry is what the closure makes of its index. Assumes nothing.
use Rattle.std.proofs.Common.{rules, pos}
use Rattle.paths.proofs.best_each.Goals as goal

pub returns : goal.returns
returns c i h = let k = c.filled.ensures i (pos 0) h in search (rules, k)
