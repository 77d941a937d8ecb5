-- `straight_rest::kernel2` meets its contract, by parts of four phases. Assumes nothing.
use mathlib.Core.Path.{◌≡◌, sym, ap, ◌∙◌}
use mathlib.Core.Bool.{false}
use mathlib.Core.List.{[], ◌∷◌}
use Prim.Native.Nat.{◌+◌, ◌*◌}
use native.Mathlib.Omega.{arith}
use mir.Facts.{to_z-of_z}
use Rattle.base.specs.Bit.{◌⊕◌, bit}
use Rattle.bits.specs.Packed.{bits}
use Rattle.polar.specs.Code.{channel, score}
use Rattle.folds.specs.Range.{value_limit}
use Rattle.folds.proofs.Limit.{limit-room}
use Rattle.kernel.specs.Kernels.{kernel_code}
use Rattle.values.specs.Value.{known_value, Small}
use Rattle.values.specs.Arikan.{arikan_word, arikan_score}
use Rattle.run.specs.Run.{symbol_by}
use Rattle.value_folds.proofs.Carried.{read}
use Rattle.phase_scores.specs.Quarter.{at, KnownHalf}
use Rattle.phase_scores.proofs.Block.{best}
use Rattle.phase_scores.proofs.Quarters.{first-quarter}
use Rattle.quarters.proofs.Bounds.{wider, limit-small, free-half-small, known-half-small, free-quarter-small}
use Rattle.quarters.proofs.Gains.{scores-small, best-gained}
use Rattle.quarters.proofs.Index.{fifth}
use Rattle.quarters.proofs.Rows.{row_small}
use Rattle.straight_rest.proofs.Run2.{part-one, part-two, part-close, part-three, phase-eleven, part-four}
use borrow.Author.Rules.{rules}
use Rattle.straight_rest.proofs.kernel2.Goals as goal
use Rattle.straight_rest.proofs.kernel2.Goals.{After-free_half-eighths, After-free_half, After-gained, After-rest_half-rest}
use mir.Syntax.{w32}

pub free_half-eighths-requires : goal.free_half-eighths-requires
free_half-eighths-requires c = (search rules, (c.requires.0, wider value_limit 16777216 16 c.args.values.now (omega (arith, limit-room)) (limit-small c.args.values.now c.requires.0 c.requires.1)))

-- The eight values that v0 to v7 being free leaves are small,
eighths-small : (c : After-free_half-eighths) → Small value_limit 8 c.free_half-eighths.result
eighths-small c = free-half-small value_limit c.args.values.now c.free_half-eighths.result (limit-small c.args.values.now c.requires.0 c.requires.1) c.free_half-eighths.ensures

pub free_half-requires : goal.free_half-requires
free_half-requires c = (search rules, (search rules, wider value_limit 16777216 8 c.free_half-eighths.result (omega (arith, limit-room)) (eighths-small (goal.at.free_half-requires c).After-free_half-eighths)))

-- and so are four of them.
quarter-small : (c : After-free_half) → Small value_limit 4 c.free_half.result
quarter-small c = free-quarter-small value_limit c.free_half-eighths.result c.free_half.result (eighths-small (goal.at.After-free_half c).After-free_half-eighths) c.free_half.ensures

pub run_four-a-requires : goal.run_four-a-requires
run_four-a-requires c = (wider value_limit 4194304 4 c.free_half.result (omega (arith, limit-room)) (quarter-small (goal.at.run_four-a-requires c).After-free_half), omega arith)

pub gained-requires : goal.gained-requires
gained-requires c =
    let a = c.run_four-a in
    let s = c.args in
    wider (4 * value_limit) 4194304 4 a.result.scores (omega (arith, limit-room))
    (scores-small value_limit c.free_half.result (λ i. bit (bits 16 s.free) (0 + i)) (λ i. bit (bits 16 s.given) (0 + i)) a.result.scores a.result.symbols (quarter-small (goal.at.gained-requires c).After-free_half) a.ensures)

-- What the window begins with: the best score of v0 to v3.
base-is : (c : After-gained) → (
    let v = c.run_four-a.result.symbols in
    read c.gained.result ≡ best c.args.values.now (bit v 0 ∷ bit v 1 ∷ bit v 2 ∷ bit v 3 ∷ []))
base-is c =
    let s = c.args in
    let a = c.run_four-a in
    let t = c.free_half in
    to_z-of_z {w = w32} (record { sfits = c.gained.type_inv }) ∙ c.gained.ensures
    ∙ best-gained s.values.now (arikan_score 2 (at t.result)) (first-quarter s.values.now c.free_half-eighths.result t.result c.free_half-eighths.ensures t.ensures)
    (λ i. bit (bits 16 s.free) (0 + i)) (λ i. bit (bits 16 s.given) (0 + i)) a.result.scores a.result.symbols a.ensures (bit a.result.symbols 3)

pub fifth2-fifth-requires : goal.fifth2-fifth-requires
fifth2-fifth-requires c =
    let s = c in
    record {
      values_len = ((s.requires.0, s.requires.1), c.free_half-eighths.ensures);
      base_value = base-is (goal.at.fifth2-fifth-requires c).After-gained;
    }

pub close-closed-requires : goal.close-closed-requires
close-closed-requires c =
    let s = c in
    let v = c.run_four-a.result.symbols in
    let w = c.wide2-wide in
    let o = w.result.phases.symbols in (
      row_small s.args.values.now s.requires.0 s.requires.1 false
          (λ x y z. bit v 0 ∷ bit v 1 ∷ bit v 2 ∷ bit v 3 ∷ c.fifth2-fifth.result.symbol ∷ x ∷ y ∷ z ∷ bit o 0 ∷ (bit o 1 ⊕ y) ∷ (bit o 2 ⊕ (x ⊕ y)) ∷ [])
          w.result.kept w.ensures.kept,
      omega arith,
    )

pub rest_half-rest-requires : goal.rest_half-rest-requires
rest_half-rest-requires c = (c.requires.0, c.requires.1)

-- What v0 to v7 leave,
rest-known : (c : After-rest_half-rest) → (
    let v = c.run_four-a.result.symbols in
    let t = bit c.wide2-wide.result.phases.symbols 2 in
    let y = c.close-closed.result.symbols in
    KnownHalf c.args.values.now (arikan_word 3 (bit v 0 ∷ bit v 1 ∷ bit v 2 ∷ bit v 3 ∷ c.fifth2-fifth.result.symbol ∷ (t ⊕ (bit y 0 ⊕ bit y 1)) ∷ bit y 0 ∷ bit y 2 ∷ [])) c.rest_half-rest.result)
rest-known c =
    let ys = c.args.values.now in
    let v = c.run_four-a.result.symbols in
    let t = bit c.wide2-wide.result.phases.symbols 2 in
    let y = c.close-closed.result.symbols in
    λ i l. c.rest_half-rest.ensures i l
    ∙ ap (λ b. known_value (arikan_word 3 (bit v 0 ∷ bit v 1 ∷ bit v 2 ∷ bit v 3 ∷ c.fifth2-fifth.result.symbol ∷ b ∷ bit y 0 ∷ bit y 2 ∷ []) i) (at ys i) (at ys (8 + i))) (fifth t (bit y 0) (bit y 1))

-- which is small.
rest-small : (c : After-rest_half-rest) → Small 2097152 8 c.rest_half-rest.result
rest-small c =
    let v = c.run_four-a.result.symbols in
    let t = bit c.wide2-wide.result.phases.symbols 2 in
    let y = c.close-closed.result.symbols in
    wider (value_limit + value_limit) 2097152 8 c.rest_half-rest.result (omega (arith, limit-room))
    (known-half-small value_limit c.args.values.now c.rest_half-rest.result (limit-small c.args.values.now c.requires.0 c.requires.1)
    (arikan_word 3 (bit v 0 ∷ bit v 1 ∷ bit v 2 ∷ bit v 3 ∷ c.fifth2-fifth.result.symbol ∷ (t ⊕ (bit y 0 ⊕ bit y 1)) ∷ bit y 0 ∷ bit y 2 ∷ [])) (rest-known c))

pub third2-c-requires : goal.third2-c-requires
third2-c-requires c = rest-small (goal.at.third2-c-requires c).After-rest_half-rest

pub last2-d-requires : goal.last2-d-requires
last2-d-requires c = rest-small (goal.at.last2-d-requires c).After-rest_half-rest

pub returns : goal.returns
returns c =
    let s = c.args in
    let ys = s.values.now in
    let f = bit (bits 16 s.free) in
    let g = bit (bits 16 s.given) in
    let m = score (kernel_code 2) (channel ys) in
    let e = c.free_half-eighths in
    let t = c.free_half in
    let a = c.run_four-a in
    let v = a.result.symbols in
    let phase4 = c.fifth2-fifth in
    let v4 = phase4.result.symbol in
    let wide = c.wide2-wide in
    let o = wide.result.phases.symbols in
    let b = c.one_and_three-b in
    let closed = c.close-closed in
    let y = closed.result.symbols in
    let r = c.rest_half-rest.result in
    let known = rest-known (goal.at.returns c).After-rest_half-rest in
    let third = c.third2-c in
    let x = third.result.symbols in
    let last = c.last2-d in
    let held4 : read phase4.result.score ≡ phase4.result.score = to_z-of_z {w = w32} (record { sfits = c.struct_told-1.given.0.1 }) in
    c.joined.ensures m f g
    (part-one ys f g e.result t.result e.ensures t.ensures a.result.scores v a.ensures)
    (b.ensures.0 (λ p. m (bit v 0 ∷ bit v 1 ∷ bit v 2 ∷ bit v 3 ∷ p)) (λ i. f (4 + i)) (λ i. g (4 + i))
    (held4 ∙ phase4.ensures.score.0) (phase4.ensures.score.1 ∙ ap (symbol_by (f 4) (g 4)) (sym held4))
    (part-two ys f g v v4 o (λ p. m (bit v 0 ∷ bit v 1 ∷ bit v 2 ∷ bit v 3 ∷ v4 ∷ p)) wide.result.phases.scores wide.ensures.follows))
    (part-three ys f g v v4 o b.result.symbols b.ensures.1 third.result.scores x
    (third.ensures.0 (λ p. m (bit v 0 ∷ bit v 1 ∷ bit v 2 ∷ bit v 3 ∷ v4 ∷ bit o 0 ∷ bit o 1 ∷ bit o 2 ∷ p))
    (part-close ys f g v v4 o wide.result.kept wide.ensures.kept closed.result.scores y closed.ensures)
    (phase-eleven ys f g v v4 o y r known)))
    (part-four ys f g v v4 o y r known b.result.symbols b.ensures.1 x third.ensures.1 third.ensures.2 third.ensures.3 last.result.scores last.result.symbols last.ensures)
