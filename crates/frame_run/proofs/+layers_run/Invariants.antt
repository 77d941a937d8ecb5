use Rattle.frame_run.proofs.+layers_run.Given as goal

abbrev pub decreases-layers_run : goal.decreases-layers_run
decreases-layers_run l = l.m
