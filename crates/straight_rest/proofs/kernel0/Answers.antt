-- `straight_rest::kernel0` meets its contract: each quarter of the run is that of four values. Assumes nothing.
use mathlib.Core.Path.{refl, sym, ap, ◌∙◌}
use mathlib.Core.List.{[], ◌∷◌, ◌++◌}
use Prim.Native.Nat.{◌+◌}
use native.Mathlib.Nat.{zero-add}
use native.Mathlib.Omega.{arith}
use Rattle.base.specs.Bit.{bit}
use Rattle.bits.specs.Packed.{bits}
use Rattle.polar.specs.Code.{channel, score}
use Rattle.folds.specs.Range.{value_limit}
use Rattle.folds.proofs.Limit.{limit-room}
use Rattle.kernel.specs.Kernels.{kernel_code}
use Rattle.values.specs.Value.{Small}
use Rattle.values.specs.Arikan.{arikan_score}
use Rattle.phase_scores.specs.Quarter.{at}
use Rattle.phase_scores.proofs.Kernel0.{score0}
use Rattle.phase_scores.proofs.Quarters.{first-quarter, second-quarter, third-quarter, last-quarter}
use Rattle.quarters.proofs.Bounds.{wider, limit-small, free-half-small, known-half-small, free-quarter-small, known-quarter-small}
use Rattle.quarters.proofs.Following.{follows-as}
use borrow.Author.Rules.{rules}
use Rattle.straight_rest.proofs.kernel0.Goals as goal
use Rattle.straight_rest.proofs.kernel0.Goals.{After-free_half-eighths, After-known_half-rest}

pub free_half-eighths-requires : goal.free_half-eighths-requires
free_half-eighths-requires c = (search rules, (c.requires.0, wider value_limit 16777216 16 c.args.values.now (omega (arith, limit-room)) (limit-small c.args.values.now c.requires.0 c.requires.1)))

-- The eight values of either half are small.
eighths-small : (c : After-free_half-eighths) → Small value_limit 8 c.free_half-eighths.result
eighths-small c = free-half-small value_limit c.args.values.now c.free_half-eighths.result (limit-small c.args.values.now c.requires.0 c.requires.1) c.free_half-eighths.ensures

rest-small : (c : After-known_half-rest) → Small (value_limit + value_limit) 8 c.known_half-rest.result
rest-small c = known-half-small value_limit c.args.values.now c.known_half-rest.result (limit-small c.args.values.now c.requires.0 c.requires.1) (bit c.word_of_eight.result) c.known_half-rest.ensures

pub free_half-requires : goal.free_half-requires
free_half-requires c = (search rules, (search rules, wider value_limit 16777216 8 c.free_half-eighths.result (omega (arith, limit-room)) (eighths-small (goal.at.free_half-requires c).After-free_half-eighths)))

pub run_four-a-requires : goal.run_four-a-requires
run_four-a-requires c = (wider value_limit 4194304 4 c.free_half.result (omega (arith, limit-room)) (free-quarter-small value_limit c.free_half-eighths.result c.free_half.result (eighths-small (goal.at.run_four-a-requires c).After-free_half-eighths) c.free_half.ensures), omega arith)

pub known_half-requires : goal.known_half-requires
known_half-requires c = (search rules, (search rules, (search rules, wider value_limit 16777216 8 c.free_half-eighths.result (omega (arith, limit-room)) (eighths-small (goal.at.known_half-requires c).After-free_half-eighths))))

pub run_four-b-requires : goal.run_four-b-requires
run_four-b-requires c = (wider (value_limit + value_limit) 4194304 4 c.known_half.result (omega (arith, limit-room)) (known-quarter-small value_limit c.free_half-eighths.result c.known_half.result (eighths-small (goal.at.run_four-b-requires c).After-free_half-eighths) (bit c.word_of_four-first.result) c.known_half.ensures), omega arith)

pub known_half-rest-requires : goal.known_half-rest-requires
known_half-rest-requires c = (search rules, (search rules, (c.requires.0, wider value_limit 16777216 16 c.args.values.now (omega (arith, limit-room)) (limit-small c.args.values.now c.requires.0 c.requires.1))))

pub free_half-requires-2 : goal.free_half-requires-2
free_half-requires-2 c = (search rules, (search rules, wider (value_limit + value_limit) 16777216 8 c.known_half-rest.result (omega (arith, limit-room)) (rest-small (goal.at.free_half-requires-2 c).After-known_half-rest)))

pub run_four-c-requires : goal.run_four-c-requires
run_four-c-requires c = (wider (value_limit + value_limit) 4194304 4 c.free_half-2.result (omega (arith, limit-room)) (free-quarter-small (value_limit + value_limit) c.known_half-rest.result c.free_half-2.result (rest-small (goal.at.run_four-c-requires c).After-known_half-rest) c.free_half-2.ensures), omega arith)

pub known_half-requires-2 : goal.known_half-requires-2
known_half-requires-2 c = (search rules, (search rules, (search rules, wider (value_limit + value_limit) 16777216 8 c.known_half-rest.result (omega (arith, limit-room)) (rest-small (goal.at.known_half-requires-2 c).After-known_half-rest))))

pub run_four-d-requires : goal.run_four-d-requires
run_four-d-requires c = (wider ((value_limit + value_limit) + (value_limit + value_limit)) 4194304 4 c.known_half-2.result (omega (arith, limit-room)) (known-quarter-small (value_limit + value_limit) c.known_half-rest.result c.known_half-2.result (rest-small (goal.at.run_four-d-requires c).After-known_half-rest) (bit c.word_of_four-third.result) c.known_half-2.ensures), omega arith)

pub returns : goal.returns
returns c =
    let s = c.args in
    let ys = s.values.now in
    let f = bit (bits 16 s.free) in
    let g = bit (bits 16 s.given) in
    let u = c.run_four-a.result.symbols in
    let v = c.run_four-b.result.symbols in
    let x = c.run_four-c.result.symbols in
    let e = c.free_half-eighths.result in
    let r = c.known_half-rest.result in
    let h = c.free_half-eighths.ensures in
    let k = c.known_half-rest.ensures in
    let w = c.word_of_eight.ensures (bit u 0) (bit u 1) (bit u 2) (bit u 3) (bit v 0) (bit v 1) (bit v 2) (bit v 3) c.word_of_four-first.ensures c.word_of_four-second.ensures in
    let first = bit u 0 ∷ bit u 1 ∷ bit u 2 ∷ bit u 3 ∷ [] in
    let half = bit u 0 ∷ bit u 1 ∷ bit u 2 ∷ bit u 3 ∷ bit v 0 ∷ bit v 1 ∷ bit v 2 ∷ bit v 3 ∷ [] in
    let m = channel ys in
    let t = c.free_half.result in
    let t2 = c.known_half.result in
    let t3 = c.free_half-2.result in
    let t4 = c.known_half-2.result in
    c.joined.ensures (score (kernel_code 0) m) f g
    (follows-as (arikan_score 2 (at t)) (score (kernel_code 0) m) (λ i. f (0 + i)) f (λ i. g (0 + i)) g 4 c.run_four-a.result.scores u
    (λ p l. sym (score0 ys p (omega arith) ∙ first-quarter ys e t h c.free_half.ensures p l)) (λ i. ap f (zero-add i)) (λ i. ap g (zero-add i)) c.run_four-a.ensures)
    (follows-as (arikan_score 2 (at t2)) (λ p. score (kernel_code 0) m (bit u 0 ∷ bit u 1 ∷ bit u 2 ∷ bit u 3 ∷ p)) (λ i. f (4 + i)) (λ i. f (4 + i)) (λ i. g (4 + i)) (λ i. g (4 + i)) 4 c.run_four-b.result.scores v
    (λ p l. sym (score0 ys (first ++ p) (omega arith) ∙ second-quarter ys e t2 h first refl (bit c.word_of_four-first.result) c.word_of_four-first.ensures c.known_half.ensures p l)) (λ i. refl) (λ i. refl) c.run_four-b.ensures)
    (follows-as (arikan_score 2 (at t3)) (λ p. score (kernel_code 0) m (bit u 0 ∷ bit u 1 ∷ bit u 2 ∷ bit u 3 ∷ bit v 0 ∷ bit v 1 ∷ bit v 2 ∷ bit v 3 ∷ p)) (λ i. f (8 + i)) (λ i. f (8 + i)) (λ i. g (8 + i)) (λ i. g (8 + i)) 4 c.run_four-c.result.scores x
    (λ p l. sym (score0 ys (half ++ p) (omega arith) ∙ third-quarter ys r t3 half refl (bit c.word_of_eight.result) w k c.free_half-2.ensures p l)) (λ i. refl) (λ i. refl) c.run_four-c.ensures)
    (follows-as (arikan_score 2 (at t4)) (λ p. score (kernel_code 0) m (bit u 0 ∷ bit u 1 ∷ bit u 2 ∷ bit u 3 ∷ bit v 0 ∷ bit v 1 ∷ bit v 2 ∷ bit v 3 ∷ bit x 0 ∷ bit x 1 ∷ bit x 2 ∷ bit x 3 ∷ p)) (λ i. f (12 + i)) (λ i. f (12 + i)) (λ i. g (12 + i)) (λ i. g (12 + i)) 4 c.run_four-d.result.scores c.run_four-d.result.symbols
    (λ p l. sym (score0 ys (half ++ (bit x 0 ∷ bit x 1 ∷ bit x 2 ∷ bit x 3 ∷ p)) (omega arith) ∙ last-quarter ys r t4 half refl (bit c.word_of_eight.result) w k (bit x 0 ∷ bit x 1 ∷ bit x 2 ∷ bit x 3 ∷ []) refl (bit c.word_of_four-third.result) c.word_of_four-third.ensures c.known_half-2.ensures p l)) (λ i. refl) (λ i. refl) c.run_four-d.ensures)
