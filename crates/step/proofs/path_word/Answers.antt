-- `step::path_word` meets its contract. Assumes nothing.
use mathlib.Core.Bool.{false}
use Rattle.windows.proofs.Words.{word-found}
use Rattle.step.proofs.path_word.Goals as goal

pub returns : goal.returns
returns c =
    let x = c.choice-x in
    let a = c.args in
    word-found a.table.now a.symbols a.phase a.high false a.window x.result x.ensures.0 x.ensures.1 c.row_sum.ensures
