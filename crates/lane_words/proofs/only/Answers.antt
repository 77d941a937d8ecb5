-- `lane_words::only` meets its contract. Assumes nothing.
use Rattle.lane_words.proofs.Sums.{dropped}
use Rattle.lane_words.proofs.only.Goals as goal

pub returns-else-c : goal.returns-else-c
returns-else-c c = λ l. dropped _ c.args.x l c.if-c.false
