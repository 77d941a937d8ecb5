-- `lane_words::numbers_of` meets its contract. Assumes nothing.
use Rattle.std.proofs.Common.{rules}
use Rattle.lane_words.proofs.numbers_of.Goals as goal

pub returns : goal.returns
returns c i h = let k = c.filled.ensures i 0 h in search (rules, k)
