-- `straight_one::fourth1` meets its contract. Assumes nothing.
use mathlib.Core.Path.{◌≡◌, refl, sym, ap, ◌∙◌}
use mathlib.Core.Bool.{Bool, true, false}
use mathlib.Core.List.{[], ◌∷◌}
use Prim.Native.Nat.{◌+◌}
use native.Mathlib.Omega.{arith}
use lib.IntN.{ℤ, pos, neg_ℤ, ◌+ℤ◌, ◌-ℤ◌, +ℤ_assoc}
use lib.ListN.{get_or}
use Rattle.base.specs.Bit.{bit, digit}
use Rattle.values.specs.Value.{gain}
use Rattle.values.specs.Arikan.{arikan_score}
use Rattle.value_folds.proofs.Carried.{Carried, carried, carried-add, carried-sub, add-fits, sub-fits, read}
use Rattle.value_folds.proofs.Sizes.{gain-small, gain-one}
use Rattle.phase_scores.specs.Quarter.{at}
use Rattle.phase_scores.proofs.Quarters.{quarter-known}
use Rattle.quarters.proofs.Bounds.{wider, known-quarter-small}
use Rattle.quarters.proofs.Gains.{score-small, gained-small}
use borrow.Author.Rules.{rules}
use Rattle.straight_one.proofs.fourth1.Goals as goal
use Rattle.straight_one.proofs.fourth1.Goals.{After-below, After-four_free-value, After-gained}

-- Two numbers of which the second is the first less s: what s adds for either bit.
by_bit : (x y g s : ℤ) → x ≡ g +ℤ gain s false → y ≡ (g +ℤ gain s false) -ℤ s → (b : Bool) → get_or (x ∷ y ∷ []) (digit b) (pos 0) ≡ g +ℤ gain s b
by_bit x y g s e f false = e
by_bit x y g s e f true = f ∙ +ℤ_assoc g (gain s false) (neg_ℤ s) ∙ ap (λ z. g +ℤ z) (sym (gain-one s))

pub known_half-requires : goal.known_half-requires
known_half-requires c = (search rules, (search rules, (search rules, wider 1048576 16777216 8 c.args.eighths.now (omega arith) c.requires.0)))

pub four_free-value-requires : goal.four_free-value-requires
four_free-value-requires c =
    let t = c.known_half in
    wider 2097152 16777216 4 t.result (omega arith) (known-quarter-small 1048576 c.args.eighths.now t.result c.requires.0 (bit c.word_of_four-word.result) t.ensures)

-- The value of v4,
value-held : (c : After-four_free-value) → (
    let e = c.args.eighths.now in
    let v = c.args.v.now in
    let w = c.args.v3 in
    Carried c.four_free-value.result (arikan_score 3 (at e) (bit v 0 ∷ bit v 1 ∷ bit v 2 ∷ w ∷ [])) 8388608)
value-held c =
    let e = c.args.eighths.now in
    let v = c.args.v.now in
    let w = c.args.v3 in
    let t = c.known_half in
    let f = c.word_of_four-word in
    carried _ _ _ c.four_free-value.type_inv (c.four_free-value.ensures ∙ sym (quarter-known e t.result (bit v 0 ∷ bit v 1 ∷ bit v 2 ∷ w ∷ []) refl (bit f.result) f.ensures t.ensures [] (omega arith)))
    (score-small 3 1048576 (at e) c.requires.0 (bit v 0 ∷ bit v 1 ∷ bit v 2 ∷ w ∷ []))

pub gained-requires : goal.gained-requires
gained-requires c = c.requires.1

-- the best score before it,
base-held : (c : After-gained) → (
    let x = c.args.scores.now in
    let v = c.args.v.now in
    let w = c.args.v3 in
    Carried c.gained.result (gain (at x 0) (bit v 0) +ℤ gain (at x 1) (bit v 1) +ℤ gain (at x 2) (bit v 2) +ℤ gain (at x 3) w) 16777216)
base-held c =
    let x = c.args.scores.now in
    let v = c.args.v.now in
    let w = c.args.v3 in
    carried _ _ _ c.gained.type_inv c.gained.ensures (gained-small 4194304 x c.requires.1 (bit v 0) (bit v 1) (bit v 2) w)

-- what v4 = 0 adds,
gain-held : (c : After-below) → (
    let e = c.args.eighths.now in
    let v = c.args.v.now in
    let w = c.args.v3 in
    Carried c.below.result (gain (arikan_score 3 (at e) (bit v 0 ∷ bit v 1 ∷ bit v 2 ∷ w ∷ [])) false) 8388608)
gain-held c =
    let e = c.args.eighths.now in
    let v = c.args.v.now in
    let w = c.args.v3 in
    let s = arikan_score 3 (at e) (bit v 0 ∷ bit v 1 ∷ bit v 2 ∷ w ∷ []) in
    let value = value-held (goal.at.After-below c).After-four_free-value in
    carried _ _ _ c.below.type_inv (c.below.ensures ∙ ap (λ z. gain z false) value.is) (omega (arith, gain-small s false, value.small))

pub overflow_add-zero : goal.overflow_add-zero
overflow_add-zero c = add-fits _ _ _ _ _ _ (base-held (goal.at.overflow_add-zero c).After-gained) (gain-held (goal.at.overflow_add-zero c).After-below) (omega arith)

-- and the best score with v4 = 0.
zero_held : (c : After-below) → (
    let e = c.args.eighths.now in
    let x = c.args.scores.now in
    let v = c.args.v.now in
    let w = c.args.v3 in
    Carried (read c.gained.result +ℤ read c.below.result) (gain (at x 0) (bit v 0) +ℤ gain (at x 1) (bit v 1) +ℤ gain (at x 2) (bit v 2) +ℤ gain (at x 3) w +ℤ gain (arikan_score 3 (at e) (bit v 0 ∷ bit v 1 ∷ bit v 2 ∷ w ∷ [])) false) (16777216 + 8388608))
zero_held c = carried-add _ _ _ _ _ _ (base-held (goal.at.After-below c).After-gained) (gain-held c) (omega arith)

pub overflow_sub-result : goal.overflow_sub-result
overflow_sub-result c = sub-fits _ _ _ _ _ _ (zero_held (goal.at.overflow_sub-result c).After-below) (value-held (goal.at.overflow_sub-result c).After-four_free-value) (omega arith)

pub returns : goal.returns
returns c =
    let e = c.args.eighths.now in
    let x = c.args.scores.now in
    let v = c.args.v.now in
    let w = c.args.v3 in
    by_bit _ _ (gain (at x 0) (bit v 0) +ℤ gain (at x 1) (bit v 1) +ℤ gain (at x 2) (bit v 2) +ℤ gain (at x 3) w) (arikan_score 3 (at e) (bit v 0 ∷ bit v 1 ∷ bit v 2 ∷ w ∷ [])) (zero_held (goal.at.returns c).After-below).is (carried-sub _ _ _ _ _ _ (zero_held (goal.at.returns c).After-below) (value-held (goal.at.returns c).After-four_free-value) (omega arith)).is
