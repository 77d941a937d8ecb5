-- `straight_rest::last2` meets its contract: the last four phases are those of four values. Assumes nothing.
use mathlib.Core.Path.{◌≡◌, refl, sym, ap, ◌∙◌}
use mathlib.Core.List.{[], ◌∷◌}
use Prim.Native.Nat.{ℕ, ◌+◌, ◌<◌}
use native.Mathlib.Omega.{arith}
use Rattle.base.specs.Bit.{◌⊕◌, bit}
use Rattle.bits.specs.Packed.{bits}
use Rattle.values.specs.Arikan.{arikan_word, arikan_score}
use Rattle.phase_scores.specs.Quarter.{at}
use Rattle.phase_scores.proofs.Quarters.{quarter-known}
use Rattle.quarters.proofs.Bounds.{wider, known-quarter-small}
use Rattle.quarters.proofs.Following.{follows-as}
use Rattle.quarters.proofs.Index.{differ}
use borrow.Author.Rules.{rules}
use Rattle.straight_rest.proofs.last2.Goals as goal
use Rattle.straight_rest.proofs.last2.Goals.{After-word_of_four-word}

-- The word of v8 to v11.
word-is : (c : After-word_of_four-word) → (
    let s = c.args in
    let o = s.opened.now in
    let y = s.third.now in
    (i : ℕ) → i < 4 → bit c.word_of_four-word.result i ≡ arikan_word 2 (bit o 0 ∷ (bit o 1 ⊕ bit y 0) ∷ bit y 1 ∷ bit y 3 ∷ []) i)
word-is c =
    let s = c.args in
    let o = s.opened.now in
    let y = s.third.now in
    λ i l. c.word_of_four-word.ensures i l ∙ ap (λ b. arikan_word 2 (bit o 0 ∷ b ∷ bit y 1 ∷ bit y 3 ∷ []) i) (differ (bit o 1) (bit y 0))

pub known_half-requires : goal.known_half-requires
known_half-requires c =
    let s = c in
    (search rules, (search rules, (search rules, wider 2097152 16777216 8 s.args.rest.now (omega arith) s.requires)))

pub run_four-requires : goal.run_four-requires
run_four-requires c =
    let s = c in
    let t = c.known_half in
    (known-quarter-small 2097152 s.args.rest.now t.result s.requires (bit c.word_of_four-word.result) t.ensures, omega arith)

pub returns : goal.returns
returns c =
    let s = c.args in
    let o = s.opened.now in
    let y = s.third.now in
    let v = bit o 0 ∷ (bit o 1 ⊕ bit y 0) ∷ bit y 1 ∷ bit y 3 ∷ [] in
    let w = c.word_of_four-word.result in
    let t = c.known_half in
    follows-as (arikan_score 2 (at t.result)) (λ p. arikan_score 3 (at s.rest.now) (bit o 0 ∷ (bit o 1 ⊕ bit y 0) ∷ bit y 1 ∷ bit y 3 ∷ p))
    (λ i. bit (bits 16 s.sources.free) (12 + i)) (λ i. bit (bits 16 s.sources.free) (12 + i)) (λ i. bit (bits 16 s.sources.given) (12 + i)) (λ i. bit (bits 16 s.sources.given) (12 + i)) 4
    c.run_four.result.scores c.run_four.result.symbols
    (λ p l. sym (quarter-known s.rest.now t.result v refl (bit w) (word-is (goal.at.returns c).After-word_of_four-word) t.ensures p l)) (λ i. refl) (λ i. refl) c.run_four.ensures
