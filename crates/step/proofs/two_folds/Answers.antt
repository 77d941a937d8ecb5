-- `step::two_folds` meets its contract. Each quarter of the phases has its own two folds. Assumes nothing.
use mathlib.Core.Path.{ap, ◌∙◌}
use Rattle.base.specs.Bit.{bit}
use Rattle.bits.specs.Packed.{bits}
use Rattle.polar.specs.Code.{Costs}
use Rattle.folds.specs.Rows.{costs_of}
use Rattle.windows.proofs.Levels.{quarter-0}
use Rattle.step.proofs.Quarters.{free-known, known-free, known-known}
use borrow.Author.Rules.{rules}
use Rattle.step.proofs.two_folds.Goals as goal

pub returns-then-high-lt4 : goal.returns-then-high-lt4
returns-then-high-lt4 c =
    let a = c.args in
    λ j b l. c.two_folds.ensures j b l ∙ ap (λ (m : Costs). m j b) (quarter-0 a.high (bit (bits 16 a.word)) (costs_of a.costs.now) c.if-high-lt4.true)

pub returns-then-high-ge12 : goal.returns-then-high-ge12
returns-then-high-ge12 c =
    let a = c.args in
    λ j b l. c.two_folds-then-high-ge12.ensures j b l ∙ ap (λ (m : Costs). m j b) (known-known a.high (bit (bits 16 a.word)) (costs_of a.costs.now) (search rules) c.requires.0)

pub returns-then-high-lt8 : goal.returns-then-high-lt8
returns-then-high-lt8 c =
    let a = c.args in
    λ j b l. c.two_folds-then-high-lt8.ensures j b l ∙ ap (λ (m : Costs). m j b) (free-known a.high (bit (bits 16 a.word)) (costs_of a.costs.now) (search rules) c.if-high-lt8.true)

pub returns : goal.returns
returns c =
    let a = c.args in
    λ j b l. c.two_folds-2.ensures j b l ∙ ap (λ (m : Costs). m j b) (known-free a.high (bit (bits 16 a.word)) (costs_of a.costs.now) (search rules) (search rules))
