-- `step::again_rows` meets its contract. Below place w the rows hold the chosen row's scores of the paths' words. Assumes nothing.
use lib.IntN.{pos}
use Rattle.folds.proofs.Fill.{filled_none}
use Rattle.windows.proofs.Words.{pow-le, paths-are}
use Rattle.step.proofs.again_rows.Goals as goal

pub loop-w-init : goal.loop-w-init
loop-w-init c = (paths-are _ c.requires.phase_le_high.2, rw (paths-are _ c.requires.phase_le_high.2) (pow-le _ c.requires.phase_le_high.2), filled_none (pos 0) 16 _)
