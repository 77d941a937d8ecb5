use mathlib.Core.List.{[], ◌∷◌}
use Rattle.triple_run.specs.Groups.{Loaded}
use Rattle.triple_run.proofs.Rows.{AfterRows}
use Rattle.triple_run.proofs.triple_run.Given as goal

abbrev pub invariant-loop-r : goal.invariant-loop-r
invariant-loop-r l =
    Loaded l.values l.costs l.halves × AfterRows (l.inner ∷ l.middle ∷ l.outer ∷ []) l.values l.costs l.free l.given l.initial.scores l.r l.symbols l.planes l.rows l.scores
