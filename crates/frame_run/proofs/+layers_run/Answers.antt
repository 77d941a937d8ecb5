-- `frame_run::layers_run` meets its contract: three layers make one around a frame of two. Assumes nothing.
use Rattle.frame_run.proofs.Runs.{triple-scored, of-layers}
use Rattle.frame_run.proofs.+layers_run.Goals as goal

pub returns-in-3 : goal.returns-in-3
returns-in-3 t c = of-layers _ _ c.in-3.is (triple-scored _ _ _ _ _ _ _ c.triple_run.ensures)
