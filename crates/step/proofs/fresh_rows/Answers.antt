-- `step::fresh_rows` meets its contract. The rows are filled with the best scores of the paths below w. Assumes nothing.
use mathlib.Core.Path.{ap, ◌∙◌}
use mathlib.Core.Bool.{true, false}
use lib.IntN.{pos, neg_ℤ}
use mir.Facts.{to_z-of_z}
use mir.Syntax.{w32}
use mir.Val.{SFits}
use Rattle.folds.proofs.Fill.{filled_none, fill-both}
use Rattle.windows.specs.Paths.{path_word_of}
use Rattle.windows.proofs.Words.{pow-le, paths-are}
use Rattle.windows.proofs.Levels.{path-least}
use borrow.Author.Rules.{rules}
use Rattle.step.proofs.fresh_rows.Goals as goal

pub loop-w-init : goal.loop-w-init
loop-w-init c = (paths-are _ c.requires.phase_le_high.2, rw (paths-are _ c.requires.phase_le_high.2) (pow-le _ c.requires.phase_le_high.2), filled_none (pos 0) 16 _)

pub loop-w-preserved : goal.loop-w-preserved
loop-w-preserved c =
    let k = c.loop-w in
    let a = c.args in
    let f = c.two_folds-four in
    let p = c.path_word-word in
    let g = c.best_of-best in
    let zero : SFits w32 g.result.zero = search rules in
    let one : SFits w32 g.result.one = search rules in
    let all = path-least a.costs.now f.result a.high p.result f.ensures (path_word_of a.table.now a.symbols a.phase a.high false k.w) p.ensures in (
      k.invariant.0,
      k.invariant.1,
      fill-both (pos 0) 16 k.w _ k.out k.invariant.2 _ _ (search rules)
          (to_z-of_z zero ∙ g.ensures.0 ∙ ap (λ n. neg_ℤ (pos n)) (all false))
          (to_z-of_z one ∙ g.ensures.1 ∙ ap (λ n. neg_ℤ (pos n)) (all true)),
    )
