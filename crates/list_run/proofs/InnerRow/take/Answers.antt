-- `list_run::InnerRow::take` meets its contract: a skipped phase leaves everything. Assumes nothing.
use mathlib.Core.Path.{◌≡◌, sym, ap, subst, ◌∙◌}
use mathlib.Core.Bool.{false}
use Prim.Native.Nat.{suc, ◌+◌, ◌*◌, ◌<◌}
use native.Mathlib.Omega.{arith}
use Rattle.folds.specs.Rows.{select}
use Rattle.list_step.specs.Marked.{Clean}
use Rattle.list_run.specs.Run.{pair_of}
use Rattle.list_run.proofs.Phases.{clean-more}
use borrow.Author.Rules.{rules}
use Rattle.list_run.proofs.InnerRow.take.Goals as goal

pub returns-in-Skip-clause-clean : goal.returns-in-Skip-clause-clean
returns-in-Skip-clause-clean c =
    let a = c.args in
    let row = a.self.now.number in
    let n = a.state.now.count in
    let l : a.s < 15 = c.requires.s_bound.2 c.in-Skip.is in
    let p : pair_of a.turn ≡ false = ap pair_of c.in-Skip.is in
    let z : suc (16 * row + a.s) ≡ 16 * row + (a.s + 1) = omega arith in
    let lr : row < 16 = search rules in
    subst (λ m. Clean m n a.scratch.now) (z ∙ ap (λ b. 16 * row + (a.s + select 1 2 b)) (sym p)) (clean-more (16 * row + a.s) n a.scratch.now (omega (arith, lr, l)) c.requires.clean_2)
