-- `step::again_at` meets its contract. The words of the path are places of the row. Assumes nothing.
use mir.Val.{SFits}
use mir.Syntax.{w32}
use mathlib.Core.Path.{◌≡◌, refl, ap, ◌∙◌}
use mathlib.Core.Bool.{true}
use lib.IntN.{pos}
use lib.ListN.{get_or}
use mir.Facts.{to_z-of_z}
use borrow.Author.Rules.{rules}
use Rattle.windows.specs.Paths.{path_word_of}
use Rattle.step.proofs.Own.{own-word}
use Rattle.step.proofs.again_at.Goals as goal
use Rattle.step.proofs.again_at.Goals.{After-with_own-second}

-- The number with the own symbol 1.
one-is : (c : After-with_own-second) → (let a = c.args in c.with_own-second.result ≡ path_word_of a.table.now a.symbols a.phase a.high true a.w)
one-is c =
    let z = c.before.before.before in
    let a = z.args in
    own-word a.table.now a.symbols a.phase a.high a.w _ _ _ z.requires.phase_le_high.0 z.requires.phase_le_high.1 c.path_word-first.ensures refl c.with_own-second.ensures

pub bounds-row-second : goal.bounds-row-second
bounds-row-second c = rw (one-is (goal.at.bounds-row-second c).After-with_own-second) (c.requires.w_bound true)

pub returns : goal.returns
returns c =
    let row = c.args.row.now in
    let zero : SFits w32 (get_or row c.path_word-first.result (pos 0)) = search rules in
    let one : SFits w32 (get_or row c.with_own-second.result (pos 0)) = search rules in (
      to_z-of_z {w = w32} zero ∙ ap (λ n. get_or row n (pos 0)) c.path_word-first.ensures,
      to_z-of_z {w = w32} one ∙ ap (λ n. get_or row n (pos 0)) (one-is (goal.at.returns c).After-with_own-second),
    )
