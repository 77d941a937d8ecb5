-- `run::kernel_run` meets its contract: after s phases the first s symbols are those by their sources, and their scores are written.
-- Assumes nothing.
use mir.Syntax.{w32}
use mathlib.Core.Path.{◌≡◌, refl, ap, ◌∙◌}
use lib.ListN.{take}
use mir.Facts.{to_z-of_z}
use Rattle.base.specs.Bit.{bit}
use Rattle.bits.specs.Packed.{bits}
use Rattle.bits.proofs.Packed.{length-bits, zero-at}
use Rattle.polar.specs.Code.{score}
use Rattle.folds.specs.Range.{value_limit}
use Rattle.folds.specs.Rows.{costs_of}
use Rattle.kernel.specs.Kernels.{kernel_code}
use Rattle.windows.proofs.Following.{difference-asks, difference-is}
use Rattle.run.specs.Run.{symbol_by}
use Rattle.run.proofs.Phases.{no-phase, phase-turn, run_of}
use borrow.Author.Rules.{rules}
use Rattle.run.proofs.kernel_run.Goals as goal
use Rattle.run.proofs.kernel_run.Goals.{After-difference-score, After-step-next, After-symbol_of-own}

-- The difference of a phase is its score.
found : (c : After-difference-score) → (let l = c.loop-s in
    c.difference-score.result ≡ score (kernel_code c.args.kernel)
    (costs_of c.cost_rows-costs.result) (take l.s (bits 16 l.symbols)))
found c =
    let l = c.loop-s in
    let r = c in
    difference-is r.args.kernel r.requires.kernel_bound c.cost_rows-costs.result (c.cost_rows-costs.ensures.within value_limit c.requires.values_len.1) l.symbols _ c.requires.shapes_value.0 l.s (search rules)
    c.step-next.result c.step-next.ensures c.path_count.result c.path_count.ensures c.difference-score.result c.difference-score.ensures

-- The symbol of the phase, by its source.
owned : (c : After-symbol_of-own) → (let l = c.loop-s in
    let a = c.args in
    c.symbol_of-own.result ≡ symbol_by (bit (bits 16 a.free) l.s) (bit (bits 16 a.given) l.s) c.difference-score.result)
owned c =
    let l = c.loop-s in
    let a = c.args in
    c.symbol_of-own.ensures
    ∙ ap (symbol_by (bit (bits 16 a.free) l.s) (bit (bits 16 a.given) l.s)) (to_z-of_z {w = w32} {z = c.difference-score.result} (record { sfits = c.difference-score.type_inv }))

pub loop-s-init : goal.loop-s-init
loop-s-init c = no-phase c.args.kernel (costs_of c.cost_rows-costs.result) _ _ (bits 16 0) (length-bits 16 0) (zero-at 16) _ _ _ refl

pub difference-score-requires-clause-by_index : goal.difference-score-requires-clause-by_index
difference-score-requires-clause-by_index c =
    let l = c.loop-s in
    let r = c in
    (difference-asks r.args.kernel r.requires.kernel_bound c.cost_rows-costs.result (c.cost_rows-costs.ensures.within value_limit c.requires.values_len.1) l.symbols _ c.requires.shapes_value.0 l.s (search rules)
    c.step-next.result c.step-next.ensures c.path_count.result c.path_count.ensures).1

pub loop-s-preserved : goal.loop-s-preserved
loop-s-preserved c =
    let l = c.loop-s in
    let r = c in
    let e = c in
    let d = e.difference-score.result in
    phase-turn r.args.kernel _ _ _ l.s _ _ _ _ l.invariant (search rules) d (found (goal.at.loop-s-preserved c).After-difference-score) _ (owned (goal.at.loop-s-preserved c).After-symbol_of-own)
    c.step-next.result c.step-next.ensures _ c.with_bit-symbols.ensures
    _ (to_z-of_z {w = w32} {z = d} (record { sfits = e.difference-score.type_inv }))

pub returns : goal.returns
returns c =
    let l = c.loop-s in
    let r = c in
    run_of r.args.kernel r.args.values.now _ c.cost_rows-costs.ensures.costs r.args.free r.args.given l.symbols l.scores l.rows l.own l.s
    (search rules) l.invariant
