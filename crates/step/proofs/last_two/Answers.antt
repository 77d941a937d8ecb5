-- `step::last_two` meets its contract. Assumes nothing.
use mathlib.Core.Path.{◌≡◌, ap, ◌∙◌}
use mathlib.Core.Bool.{Bool}
use Prim.Native.Nat.{ℕ, ◌+◌, ◌*◌, ◌/◌, ◌%◌, ◌≤◌, ◌<◌}
use native.Mathlib.Omega.{arith}
use Rattle.base.specs.Bit.{bit}
use Rattle.bits.specs.Packed.{bits}
use Rattle.polar.specs.Code.{Costs}
use Rattle.polar.specs.Fold.{level}
use Rattle.folds.specs.Range.{value_limit}
use Rattle.folds.specs.Rows.{costs_of, Pays}
use Rattle.folds.proofs.Limit.{limit-room}
use Rattle.folds.proofs.Pairs.{pays-small}
use Rattle.windows.proofs.Levels.{level-le}
use Rattle.step.proofs.Known.{level-by}
use Rattle.step.proofs.last_two.Goals as goal
use Rattle.step.proofs.last_two.Goals.{After-fold_pair-q}

-- The word's bits from a place on.
abbrev from : ℕ → ℕ → ℕ → Bool
from word n i = bit (bits 16 word) (n + i)

-- What a place of the four pays is small.
four-small : (m : Costs) → ((j : ℕ) (b : Bool) → j < 4 → m j b ≤ 4 * value_limit) → (j x y : ℕ) → j < 4 → Pays m j x y → (x ≤ 16777216) × (y ≤ 16777216)
four-small m most j x y l e = pays-small m j x y (4 * value_limit) (omega (arith, limit-room)) (λ b. most j b l) e

-- The two places that the first of the two folds leaves.
halves : (c : After-fold_pair-q) → (let a = c.args in let m = level 2 (a.high % 4) (from a.word (a.high / 4 * 4)) (costs_of a.four.now) in
    Pays m 0 c.fold_pair-p.result.zero c.fold_pair-p.result.one × Pays m 1 c.fold_pair-q.result.zero c.fold_pair-q.result.one)
halves c =
    let a = c.args in
    let z = from a.word (a.high / 4 * 4) in
    let m = costs_of a.four.now in
    let n = a.high % 4 in
    let e : a.high / 4 * 4 ≡ a.high / 4 * 4 + 0 = omega arith in (
      level-by 2 n 0 z m _ _ _ (c.word_bit.ensures ∙ ap (bit (bits 16 a.word)) e) _ c.then_some-first.ensures (c.fold_pair-p.ensures 2 0 m c.place.ensures c.place-2.ensures),
      level-by 2 n 1 z m _ _ _ c.word_bit-2.ensures _ c.then_some-second.ensures (c.fold_pair-q.ensures 2 1 m c.place-3.ensures c.place-4.ensures),
    )

pub fold_pair-p-requires : goal.fold_pair-p-requires
fold_pair-p-requires c =
    let small = four-small (costs_of c.args.four.now) c.requires.1 in
    let p = small _ _ _ (omega arith) c.place.ensures in
    let q = small _ _ _ (omega arith) c.place-2.ensures in
    (p.0, p.1, q.0, q.1)

pub fold_pair-q-requires : goal.fold_pair-q-requires
fold_pair-q-requires c =
    let small = four-small (costs_of c.args.four.now) c.requires.1 in
    let p = small _ _ _ (omega arith) c.place-3.ensures in
    let q = small _ _ _ (omega arith) c.place-4.ensures in
    (p.0, p.1, q.0, q.1)

pub fold_pair-requires : goal.fold_pair-requires
fold_pair-requires c =
    let a = c.args in
    let m = level 2 (a.high % 4) (from a.word (a.high / 4 * 4)) (costs_of a.four.now) in
    let two = halves (goal.at.fold_pair-requires c).After-fold_pair-q in
    let most = level-le 2 (a.high % 4) (from a.word (a.high / 4 * 4)) (costs_of a.four.now) (4 * value_limit) c.requires.1 in
    let u = pays-small m 0 _ _ (4 * value_limit + 4 * value_limit) (omega (arith, limit-room)) (λ b. most 0 b (omega arith)) two.0 in
    let v = pays-small m 1 _ _ (4 * value_limit + 4 * value_limit) (omega (arith, limit-room)) (λ b. most 1 b (omega arith)) two.1 in
    (u.0, u.1, v.0, v.1)

pub returns : goal.returns
returns c =
    let a = c.args in
    let m = level 2 (a.high % 4) (from a.word (a.high / 4 * 4)) (costs_of a.four.now) in
    let two = halves (goal.at.returns c).After-fold_pair-q in
    let f : a.high / 2 * 2 ≡ a.high / 2 * 2 + 0 = omega arith in
    level-by 1 (a.high % 2) 0 (from a.word (a.high / 2 * 2)) m _ _ _ (c.word_bit-3.ensures ∙ ap (bit (bits 16 a.word)) f) _ c.then_some-last.ensures (c.fold_pair.ensures 1 0 m two.0 two.1)
