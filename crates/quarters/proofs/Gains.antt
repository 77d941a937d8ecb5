-- How large scores of folded values are, and the best score that four of them add up to. Assumes nothing.
use mathlib.Core.Path.{◌≡◌, sym, ap, ap₂, ◌∙◌}
use mathlib.Core.Bool.{Bool, true, false}
use mathlib.Core.List.{List, [], ◌∷◌}
use Prim.Native.Nat.{ℕ, zero, suc, ◌+◌, ◌*◌, ◌^◌, ◌≤◌, ◌<◌}
use native.Mathlib.Nat.{pow-succ', mul-add, mul_assoc}
use native.Mathlib.Omega.{arith}
use lib.Dec.{leb}
use lib.IntN.{ℤ, pos, nat_abs, neg_ℤ, ◌+ℤ◌, +ℤ_idl}
use lib.ListN.{length, take, drop}
use Rattle.base.specs.Bit.{bit, tabulate}
use Rattle.polar.proofs.Least.{channel-nil}
use Rattle.polar.proofs.Fold.{arikan_code, arikan-onto}
use Rattle.values.specs.Value.{free_value, known_value, gain, Small}
use Rattle.values.specs.Arikan.{arikan_word, arikan_score}
use Rattle.value_folds.proofs.Sizes.{add_small, free-small, known_small, gain-small}
use Rattle.phase_scores.specs.Quarter.{at, FreeHalf}
use Rattle.phase_scores.proofs.Block.{best, adds}
use Rattle.phase_scores.proofs.Quarters.{half-free}
use Rattle.quarters.specs.Part.{Follows}

-- A score over 2 ^ t values is at most 2 ^ t times as large as the largest of them,
pub score-small : (t n : ℕ) (z : ℕ → ℤ) → ((j : ℕ) → j < 2 ^ t → nat_abs (z j) ≤ n) → (p : List Bool) → nat_abs (arikan_score t z p) ≤ 2 ^ t * n
unfolding arikan_score
score-small zero n z h p = omega (arith, h 0 (omega arith))
score-small (suc t) n z h p = go (leb (2 ^ t) (length p)) (score-small t)
  where
    low : (j : ℕ) → j < 2 ^ t → nat_abs (z j) ≤ n
    low j l = h j (omega (arith, pow-succ' 2 t))

    high : (j : ℕ) → j < 2 ^ t → nat_abs (z (2 ^ t + j)) ≤ n
    high j l = h (2 ^ t + j) (omega (arith, pow-succ' 2 t))

    twofold : (x a : ℕ) → a ≤ x * (n + n) → a ≤ 2 * x * n
    twofold x a l = omega (arith, mul-add x n n, mul_assoc 2 x n)

    once : (x a : ℕ) → a ≤ x * n → a ≤ 2 * x * n
    once x a l = omega (arith, mul_assoc 2 x n)

    go : (c : Bool) → ((n : ℕ) (z : ℕ → ℤ) → ((j : ℕ) → j < 2 ^ t → nat_abs (z j) ≤ n) → (p : List Bool) → nat_abs (arikan_score t z p) ≤ 2 ^ t * n)
        → nat_abs (elim c [
          | true ↦ arikan_score t (λ j. known_value (arikan_word t (take (2 ^ t) p) j) (z j) (z (2 ^ t + j))) (drop (2 ^ t) p)
          | false ↦ arikan_score t (λ j. free_value (z j) (z (2 ^ t + j))) p
        ]) ≤ 2 ^ suc t * n
    go true ih = rw (pow-succ' 2 t) (twofold (2 ^ t) _ (ih (n + n) _ (λ j l. known_small (arikan_word t (take (2 ^ t) p) j) (z j) (z (2 ^ t + j)) n n (low j l) (high j l)) (drop (2 ^ t) p)))
    go false ih = rw (pow-succ' 2 t) (once (2 ^ t) _ (ih n _ (λ j l. free-small (z j) (z (2 ^ t + j)) n (low j l) (high j l)) p))

-- and so are the scores of four values.
pub scores-small : (n : ℕ) (t : List ℤ) (f g : ℕ → Bool) (xs : List ℤ) (us : List Bool) → Small n 4 t → Follows (arikan_score 2 (at t)) f g 4 xs us → Small (4 * n) 4 xs
scores-small n t f g xs us small h i l = rw (h.score-at i l) (score-small 2 n (at t) small (tabulate i (bit us)))

-- What the first four v add up to,
module _ (ys : List ℤ) where
  best_none : best ys [] ≡ pos 0
  best_none = ap (λ x. neg_ℤ (pos x)) (channel-nil (arikan_code 4) (arikan-onto 4) ys)

  pub best-four : (a b c d : Bool)
      → best ys (a ∷ b ∷ c ∷ d ∷ [])
      ≡ gain (arikan_score 4 (at ys) []) a +ℤ gain (arikan_score 4 (at ys) (a ∷ [])) b +ℤ gain (arikan_score 4 (at ys) (a ∷ b ∷ [])) c +ℤ gain (arikan_score 4 (at ys) (a ∷ b ∷ c ∷ [])) d
  best-four a b c d =
      let g : List Bool → Bool → ℤ = λ p. gain (arikan_score 4 (at ys) p) in
      let one : best ys (a ∷ []) ≡ g [] a = adds ys [] a (omega arith) ∙ ap (λ x. x +ℤ g [] a) best_none ∙ +ℤ_idl (g [] a) in
      let two : best ys (a ∷ b ∷ []) ≡ g [] a +ℤ g (a ∷ []) b = adds ys (a ∷ []) b (omega arith) ∙ ap (λ x. x +ℤ g (a ∷ []) b) one in
      let three : best ys (a ∷ b ∷ c ∷ []) ≡ g [] a +ℤ g (a ∷ []) b +ℤ g (a ∷ b ∷ []) c = adds ys (a ∷ b ∷ []) c (omega arith) ∙ ap (λ x. x +ℤ g (a ∷ b ∷ []) c) two in
      adds ys (a ∷ b ∷ c ∷ []) d (omega arith) ∙ ap (λ x. x +ℤ g (a ∷ b ∷ c ∷ []) d) three

  -- from their scores, whatever the fourth is.
  pub best-gained : (sc : List Bool → ℤ) → ((p : List Bool) → length p < 4 → arikan_score 4 (at ys) p ≡ sc p)
      → (f g : ℕ → Bool) (xs : List ℤ) (us : List Bool) → Follows sc f g 4 xs us → (d : Bool)
      → gain (at xs 0) (bit us 0) +ℤ gain (at xs 1) (bit us 1) +ℤ gain (at xs 2) (bit us 2) +ℤ gain (at xs 3) d
      ≡ best ys (bit us 0 ∷ bit us 1 ∷ bit us 2 ∷ d ∷ [])
  unfolding tabulate
  best-gained sc e f g xs us h d =
      let of : (i : ℕ) → i < 4 → length (tabulate i (bit us)) < 4 → at xs i ≡ arikan_score 4 (at ys) (tabulate i (bit us)) = λ i l m. h.score-at i l ∙ sym (e (tabulate i (bit us)) m) in
      ap₂ ◌+ℤ◌
      (ap₂ ◌+ℤ◌
      (ap₂ ◌+ℤ◌
      (ap (λ x. gain x (bit us 0)) (of 0 (omega arith) (omega arith)))
      (ap (λ x. gain x (bit us 1)) (of 1 (omega arith) (omega arith))))
      (ap (λ x. gain x (bit us 2)) (of 2 (omega arith) (omega arith))))
      (ap (λ x. gain x d) (of 3 (omega arith) (omega arith)))
      ∙ sym (best-four (bit us 0) (bit us 1) (bit us 2) d)

  -- With the fifth as well, over the eight values that v0 to v7 being free leaves.
  pub best-five : (e : List ℤ) → FreeHalf ys e → (sc : List Bool → ℤ) → ((p : List Bool) → length p < 4 → arikan_score 4 (at ys) p ≡ sc p)
      → (f g : ℕ → Bool) (xs : List ℤ) (us : List Bool) → Follows sc f g 4 xs us → (d b : Bool)
      → gain (at xs 0) (bit us 0) +ℤ gain (at xs 1) (bit us 1) +ℤ gain (at xs 2) (bit us 2) +ℤ gain (at xs 3) d +ℤ gain (arikan_score 3 (at e) (bit us 0 ∷ bit us 1 ∷ bit us 2 ∷ d ∷ [])) b
      ≡ best ys (bit us 0 ∷ bit us 1 ∷ bit us 2 ∷ d ∷ b ∷ [])
  best-five e he sc es f g xs us h d b =
      let p = bit us 0 ∷ bit us 1 ∷ bit us 2 ∷ d ∷ [] in
      ap₂ (λ x s. x +ℤ gain s b) (best-gained sc es f g xs us h d) (sym (half-free ys e he p (omega arith))) ∙ sym (adds ys p b (omega arith))

-- What four scores add is at most four times as large as the largest of them.
pub gained-small : (n : ℕ) (xs : List ℤ) → Small n 4 xs → (a b c d : Bool) → nat_abs (gain (at xs 0) a +ℤ gain (at xs 1) b +ℤ gain (at xs 2) c +ℤ gain (at xs 3) d) ≤ 4 * n
gained-small n xs h a b c d =
    let two = gain (at xs 0) a +ℤ gain (at xs 1) b in
    let three = two +ℤ gain (at xs 2) c in
    omega (
      arith,
      add_small three (gain (at xs 3) d),
      add_small two (gain (at xs 2) c),
      add_small (gain (at xs 0) a) (gain (at xs 1) b),
      gain-small (at xs 0) a,
      gain-small (at xs 1) b,
      gain-small (at xs 2) c,
      gain-small (at xs 3) d,
      h 0 (omega arith),
      h 1 (omega arith),
      h 2 (omega arith),
      h 3 (omega arith),
    )
