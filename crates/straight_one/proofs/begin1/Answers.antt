-- `straight_one::begin1` meets its contract. Assumes nothing.
use mathlib.Core.Path.{◌≡◌, sym, ap₂, ◌∙◌, subst⁻¹}
use mathlib.Core.Bool.{Bool, true, false}
use mathlib.Core.List.{List, [], ◌∷◌}
use Prim.Native.Nat.{ℕ, zero, suc, ◌+◌, ◌*◌, ◌≤◌}
use native.Mathlib.Omega.{arith}
use lib.IntN.{ℤ, pos, nat_abs, ◌-ℤ◌}
use lib.ListN.{get_or}
use mir.Facts.{to_z-of_z}
use Rattle.base.specs.Bit.{bit, digit}
use Rattle.bits.specs.Packed.{bits}
use Rattle.polar.specs.Code.{channel, score}
use Rattle.folds.specs.Range.{value_limit}
use Rattle.folds.proofs.Limit.{limit-room}
use Rattle.kernel.specs.Kernels.{kernel_code}
use Rattle.values.specs.Value.{greater, Small}
use Rattle.values.specs.Arikan.{arikan_score}
use Rattle.phase_scores.specs.Quarter.{at}
use Rattle.phase_scores.proofs.Block.{best}
use Rattle.phase_scores.proofs.Kernel1.{score1-3}
use Rattle.phase_scores.proofs.Quarters.{first-quarter}
use Rattle.quarters.proofs.Bounds.{wider, limit-small, free-half-small, free-quarter-small}
use Rattle.quarters.proofs.Gains.{scores-small, best-five}
use Rattle.quarters.proofs.Rows.{best-small}
use Rattle.straight_one.proofs.Run1.{first_three}
use borrow.Author.Rules.{rules}
use Rattle.straight_one.proofs.begin1.Goals as goal
use Rattle.straight_one.proofs.begin1.Goals.{After-fourth1-one, After-fourth1-zero, After-free_half, After-run_four-run, Start}
use mir.Syntax.{w32}

-- Two numbers, each of which is small.
small-two : (n : ℕ) (xs : List ℤ) (z : Bool → ℤ) → ((b : Bool) → get_or xs (digit b) (pos 0) ≡ z b) → ((b : Bool) → nat_abs (z b) ≤ n) → Small n 2 xs
small-two n xs z e l zero li = subst⁻¹ (λ x. nat_abs x ≤ n) (e false) (l false)
small-two n xs z e l (suc zero) li = subst⁻¹ (λ x. nat_abs x ≤ n) (e true) (l true)
small-two n xs z e l (suc (suc i)) li = absurd (omega arith)

-- The eight values are small,
eighths-small : (c : Start) → Small value_limit 8 c.args.eighths.now
eighths-small c = free-half-small value_limit c.args.values.now c.args.eighths.now (limit-small c.args.values.now c.requires.0.0 c.requires.0.1) c.requires.1

pub free_half-requires : goal.free_half-requires
free_half-requires c = (search rules, (search rules, wider value_limit 16777216 8 c.args.eighths.now (omega (arith, limit-room)) (eighths-small (goal.at.free_half-requires c).Start)))

-- and so are four of them,
quarter-small : (c : After-free_half) → Small value_limit 4 c.free_half.result
quarter-small c = free-quarter-small value_limit c.args.eighths.now c.free_half.result (eighths-small (goal.at.After-free_half c).Start) c.free_half.ensures

pub run_four-run-requires : goal.run_four-run-requires
run_four-run-requires c = (wider value_limit 4194304 4 c.free_half.result (omega (arith, limit-room)) (quarter-small (goal.at.run_four-run-requires c).After-free_half), omega arith)

-- and their scores.
run_small : (c : After-run_four-run) → Small 4194304 4 c.run_four-run.result.scores
run_small c =
    let s = c.args in
    let a = c.run_four-run in
    wider (4 * value_limit) 4194304 4 a.result.scores (omega (arith, limit-room))
    (scores-small value_limit c.free_half.result (λ i. bit (bits 16 s.sources.free) (0 + i)) (λ i. bit (bits 16 s.sources.given) (0 + i)) a.result.scores a.result.symbols (quarter-small (goal.at.After-run_four-run c).After-free_half) a.ensures)

pub fourth1-zero-requires : goal.fourth1-zero-requires
fourth1-zero-requires c =
    let s = (goal.at.fourth1-zero-requires c).Start in
    (wider value_limit 1048576 8 s.args.eighths.now (omega (arith, limit-room)) (eighths-small s), run_small (goal.at.fourth1-zero-requires c).After-run_four-run)

-- Both best scores with v3 = 0,
zero_is : (c : After-fourth1-zero) (b : Bool) → (
    let v = c.run_four-run.result.symbols in
    get_or c.fourth1-zero.result (digit b) (pos 0) ≡ best c.args.values.now (bit v 0 ∷ bit v 1 ∷ bit v 2 ∷ false ∷ b ∷ []))
zero_is c b =
    let s = c in
    let ys = s.args.values.now in
    let e = s.args.eighths.now in
    let t = c.free_half in
    let a = c.run_four-run in
    c.fourth1-zero.ensures b
    ∙ best-five ys e s.requires.1 (arikan_score 2 (at t.result)) (first-quarter ys e t.result s.requires.1 t.ensures)
    (λ i. bit (bits 16 s.args.sources.free) (0 + i)) (λ i. bit (bits 16 s.args.sources.given) (0 + i)) a.result.scores a.result.symbols a.ensures false b

zero-small : (c : After-fourth1-zero) → Small 16777216 2 c.fourth1-zero.result
zero-small c =
    let s = c in
    let v = c.run_four-run.result.symbols in
    small-two 16777216 c.fourth1-zero.result _ (zero_is c) (λ b. omega (arith, limit-room, best-small s.args.values.now s.requires.0.0 s.requires.0.1 (bit v 0 ∷ bit v 1 ∷ bit v 2 ∷ false ∷ b ∷ [])))

pub fourth1-one-requires : goal.fourth1-one-requires
fourth1-one-requires c =
    let s = (goal.at.fourth1-one-requires c).Start in
    (wider value_limit 1048576 8 s.args.eighths.now (omega (arith, limit-room)) (eighths-small s), run_small (goal.at.fourth1-one-requires c).After-run_four-run)

-- and with v3 = 1.
one-is : (c : After-fourth1-one) (b : Bool) → (
    let v = c.run_four-run.result.symbols in
    get_or c.fourth1-one.result (digit b) (pos 0) ≡ best c.args.values.now (bit v 0 ∷ bit v 1 ∷ bit v 2 ∷ true ∷ b ∷ []))
one-is c b =
    let s = c in
    let ys = s.args.values.now in
    let e = s.args.eighths.now in
    let t = c.free_half in
    let a = c.run_four-run in
    c.fourth1-one.ensures b
    ∙ best-five ys e s.requires.1 (arikan_score 2 (at t.result)) (first-quarter ys e t.result s.requires.1 t.ensures)
    (λ i. bit (bits 16 s.args.sources.free) (0 + i)) (λ i. bit (bits 16 s.args.sources.given) (0 + i)) a.result.scores a.result.symbols a.ensures true b

one-small : (c : After-fourth1-one) → Small 16777216 2 c.fourth1-one.result
one-small c =
    let s = c in
    let v = c.run_four-run.result.symbols in
    small-two 16777216 c.fourth1-one.result _ (one-is c) (λ b. omega (arith, limit-room, best-small s.args.values.now s.requires.0.0 s.requires.0.1 (bit v 0 ∷ bit v 1 ∷ bit v 2 ∷ true ∷ b ∷ [])))

pub lead1-score-requires : goal.lead1-score-requires
lead1-score-requires c = (zero-small (goal.at.lead1-score-requires c).After-fourth1-zero, one-small (goal.at.lead1-score-requires c).After-fourth1-one)

pub returns : goal.returns
returns c =
    let s = c in
    let ys = s.args.values.now in
    let a = c.run_four-run in
    let v = a.result.symbols in
    let f = bit (bits 16 s.args.sources.free) in
    let g = bit (bits 16 s.args.sources.given) in
    let t = c.free_half in
    let zero = zero_is (goal.at.returns c).After-fourth1-zero in
    let one = one-is (goal.at.returns c).After-fourth1-one in
    let l = c.lead1-score in
    c.three_and_one.ensures.0 (score (kernel_code 1) (channel ys)) f g
    (first_three ys s.args.eighths.now t.result s.requires.1 t.ensures f g a.result.scores v a.ensures)
    (to_z-of_z {w = w32} (record { sfits = l.type_inv }) ∙ l.ensures ∙ ap₂ ◌-ℤ◌ (ap₂ greater (zero false) (one false)) (ap₂ greater (zero true) (one true)) ∙ sym (score1-3 ys (bit v 0) (bit v 1) (bit v 2)))
    c.symbol-v4.ensures
