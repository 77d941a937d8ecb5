-- `hadamard_run::hadamard_run` meets its contract. Assumes nothing.
use mathlib.Core.Path.{◌≡◌}
use lib.ListN.{length}
use Rattle.hadamard_run.proofs.Whole.{run_is}
use borrow.Author.Rules.{rules}
use Rattle.hadamard_run.proofs.hadamard_run.Goals as goal

pub returns : goal.returns
returns c =
    let a = c.args in
    let h = c.straight-found in
    let long : length h.result.scores ≡ 16 = search rules in
    run_is a.kernel a.values.now a.free a.given h.result.scores h.result.symbols h.ensures c.packed.result c.packed.ensures long
