-- `straight_rest::third2` meets its contract: v11 is the last of the four that the free fold of eight values gives. Assumes nothing.
use mathlib.Core.Path.{◌≡◌, sym, ap, ◌∙◌}
use mathlib.Core.List.{[], ◌∷◌}
use Prim.Native.Nat.{◌+◌}
use native.Mathlib.Omega.{arith}
use mir.Facts.{to_z-of_z}
use Rattle.base.specs.Bit.{◌⊕◌, bit}
use Rattle.bits.specs.Packed.{bits}
use Rattle.values.specs.Arikan.{arikan_score}
use Rattle.value_folds.proofs.Carried.{read}
use Rattle.phase_scores.specs.Quarter.{at}
use Rattle.phase_scores.proofs.Quarters.{quarter-free}
use Rattle.quarters.proofs.Bounds.{wider, free-quarter-small}
use Rattle.quarters.proofs.Index.{differ}
use borrow.Author.Rules.{rules}
use Rattle.straight_rest.proofs.third2.Goals as goal
use Rattle.straight_rest.proofs.third2.Goals.{After-fourth_of-score}
use mir.Syntax.{w32}

pub free_half-quarter-requires : goal.free_half-quarter-requires
free_half-quarter-requires c = (search rules, (search rules, wider 2097152 16777216 8 c.args.rest.now (omega arith) c.requires))

pub fourth_of-score-requires : goal.fourth_of-score-requires
fourth_of-score-requires c =
    let s = c in
    let t = c.free_half-quarter in
    wider 2097152 4194304 4 t.result (omega arith) (free-quarter-small 2097152 s.args.rest.now t.result s.requires t.ensures)

-- The score of v11.
fourth-is : (c : After-fourth_of-score) → (
    let s = c.args in
    let o = s.opened.now in
    let y = s.closed.symbols in
    read c.fourth_of-score.result ≡ arikan_score 3 (at s.rest.now) (bit o 0 ∷ (bit o 1 ⊕ bit y 0) ∷ bit y 1 ∷ []))
fourth-is c =
    let s = c.args in
    let o = s.opened.now in
    let y = s.closed.symbols in
    let t = c.free_half-quarter in
    to_z-of_z {w = w32} (record { sfits = c.fourth_of-score.type_inv }) ∙ c.fourth_of-score.ensures
    ∙ ap (λ b. arikan_score 2 (at t.result) (bit o 0 ∷ b ∷ bit y 1 ∷ [])) (differ (bit o 1) (bit y 0))
    ∙ sym (quarter-free s.rest.now t.result t.ensures (bit o 0 ∷ (bit o 1 ⊕ bit y 0) ∷ bit y 1 ∷ []) (omega arith))

pub returns : goal.returns
returns c =
    let s = c.args in
    let joined = c.three_and_one.ensures in (
      λ sc h e. joined.0 sc (λ i. bit (bits 16 s.sources.free) (8 + i)) (λ i. bit (bits 16 s.sources.given) (8 + i)) h (fourth-is (goal.at.returns c).After-fourth_of-score ∙ sym e) c.symbol-v11.ensures,
      ap (λ x. bit x 0) joined.1,
      ap (λ x. bit x 1) joined.1,
      ap (λ x. bit x 2) joined.1,
    )
