use Rattle.grid.proofs.Stages.{Going}
use Rattle.grid.proofs.frame_rows.Given as goal

abbrev pub invariant-loop-l : goal.invariant-loop-l
invariant-loop-l l = Going l.tables l.m l.initial.rows l.s l.l l.rows
