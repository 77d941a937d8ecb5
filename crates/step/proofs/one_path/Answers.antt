-- `step::one_path` meets its contract. The only path is path 0. Assumes nothing.
use mathlib.Core.Path.{◌≡◌, ap, ◌∙◌}
use mathlib.Core.Bool.{true, false}
use Prim.Native.Nat.{ℕ, ◌-◌}
use native.Mathlib.Omega.{arith}
use lib.IntN.{pos, neg_ℤ}
use mir.Facts.{to_z-of_z}
use mir.Syntax.{w32}
use mir.Val.{SFits}
use borrow.Author.Rules.{rules}
use Rattle.folds.proofs.Fill.{filled_none, fill-both}
use Rattle.windows.specs.Paths.{path_word_of, path_least}
use Rattle.windows.proofs.Levels.{path-least}
use Rattle.step.proofs.one_path.Goals as goal

pub returns : goal.returns
returns c =
    let s = c in
    let a = s.args in
    let f = c.two_folds-four in
    let p = c.path_word-word in
    let g = c.best_of-best in
    let zero : SFits w32 g.result.zero = search rules in
    let one : SFits w32 g.result.one = search rules in
    let e : a.high - a.phase ≡ 0 = omega (arith, s.requires.phase_value.0) in
    let word : ℕ → ℕ = path_word_of a.table.now a.symbols a.phase a.high false in
    let same : p.result ≡ word 0 = ◌∙◌ {b = word (a.high - a.phase)} p.ensures (ap word e) in
    let all = path-least a.costs.now f.result a.high p.result f.ensures (word 0) same in
    let filled = fill-both (pos 0) 16 0 (λ w b. neg_ℤ (pos (path_least a.costs.now a.high (word w) b)))
    _ (filled_none (pos 0) 16 _) _ _ (omega arith)
    (to_z-of_z zero ∙ g.ensures.0 ∙ ap (λ n. neg_ℤ (pos n)) (all false))
    (to_z-of_z one ∙ g.ensures.1 ∙ ap (λ n. neg_ℤ (pos n)) (all true)) in
    λ w b l. filled.done w b (rw e at l)
