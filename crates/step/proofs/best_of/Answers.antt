-- `step::best_of` meets its contract. Assumes nothing.
use mir.Syntax.{w32}
use mathlib.Core.Path.{ap, sym, ◌∙◌}
use mathlib.Core.Bool.{Bool, true, false}
use Prim.Native.Nat.{ℕ, ◌+◌, ◌*◌, ◌/◌, ◌%◌}
use native.Mathlib.Omega.{arith}
use lib.IntN.{pos, neg_ℤ}
use mir.Facts.{to_z-of_z}
use Rattle.base.specs.Bit.{bit}
use Rattle.bits.specs.Packed.{bits}
use Rattle.polar.specs.Fold.{level}
use Rattle.folds.specs.Range.{value_limit}
use Rattle.folds.specs.Rows.{costs_of}
use Rattle.folds.proofs.Limit.{limit-room}
use Rattle.folds.proofs.Pairs.{pays-small}
use Rattle.windows.proofs.Levels.{turned, level-le}
use Rattle.step.proofs.best_of.Goals as goal

pub minus-zero-requires : goal.minus-zero-requires
minus-zero-requires c =
    let s = c in
    let y : ℕ → Bool = bit (bits 16 s.args.word) in
    let m = costs_of s.args.four.now in
    let two = level 2 (s.args.high % 4) (λ i. y (s.args.high / 4 * 4 + i)) m in
    let most = level-le 2 (s.args.high % 4) (λ i. y (s.args.high / 4 * 4 + i)) m (4 * value_limit) s.requires.1 in
    (pays-small (level 1 (s.args.high % 2) (λ i. y (s.args.high / 2 * 2 + i)) two) 0 _ _ (8 * value_limit + 8 * value_limit) (omega (arith, limit-room)) (λ b. level-le 1 (s.args.high % 2) (λ i. y (s.args.high / 2 * 2 + i)) two (8 * value_limit) (λ j d l. omega (arith, most j d l)) 0 b (omega arith)) c.last_two-last.ensures).0

pub minus-one-requires : goal.minus-one-requires
minus-one-requires c =
    let s = c in
    let y : ℕ → Bool = bit (bits 16 s.args.word) in
    let m = costs_of s.args.four.now in
    let two = level 2 (s.args.high % 4) (λ i. y (s.args.high / 4 * 4 + i)) m in
    let most = level-le 2 (s.args.high % 4) (λ i. y (s.args.high / 4 * 4 + i)) m (4 * value_limit) s.requires.1 in
    (pays-small (level 1 (s.args.high % 2) (λ i. y (s.args.high / 2 * 2 + i)) two) 0 _ _ (8 * value_limit + 8 * value_limit) (omega (arith, limit-room)) (λ b. level-le 1 (s.args.high % 2) (λ i. y (s.args.high / 2 * 2 + i)) two (8 * value_limit) (λ j d l. omega (arith, most j d l)) 0 b (omega arith)) c.last_two-last.ensures).1

pub returns-then-word_bit : goal.returns-then-word_bit
returns-then-word_bit c =
    let d = c in
    let a = d.args in
    let e = sym c.word_bit.ensures ∙ c.if-word_bit.true in
    let t = turned a.high (bit (bits 16 a.word)) (costs_of a.four.now) _ _ d.last_two-last.ensures true e in (
      to_z-of_z {w = w32} (record { sfits = c.minus-one.type_inv }) ∙ c.minus-one.ensures ∙ ap (λ n. neg_ℤ (pos n)) (t false),
      to_z-of_z {w = w32} (record { sfits = c.minus-zero.type_inv }) ∙ c.minus-zero.ensures ∙ ap (λ n. neg_ℤ (pos n)) (t true),
    )

pub returns-else-word_bit : goal.returns-else-word_bit
returns-else-word_bit c =
    let d = c in
    let a = d.args in
    let e = sym c.word_bit.ensures ∙ c.if-word_bit.false in
    let t = turned a.high (bit (bits 16 a.word)) (costs_of a.four.now) _ _ d.last_two-last.ensures false e in (
      to_z-of_z {w = w32} (record { sfits = c.minus-zero.type_inv }) ∙ c.minus-zero.ensures ∙ ap (λ n. neg_ℤ (pos n)) (t false),
      to_z-of_z {w = w32} (record { sfits = c.minus-one.type_inv }) ∙ c.minus-one.ensures ∙ ap (λ n. neg_ℤ (pos n)) (t true),
    )
