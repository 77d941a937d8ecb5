-- Where a whole half is known the best score is a sum over its places. Assumes nothing.
use mathlib.Core.Path.{◌≡◌, sym, ap, ap₂, ◌∙◌}
use mathlib.Core.Bool.{Bool}
use mathlib.Core.List.{List, [], ◌++◌, append-nil}
use Prim.Native.Nat.{ℕ, suc, ◌+◌, ◌-◌, ◌^◌, ◌≤◌, ◌<◌}
use native.Mathlib.Nat.{add-zero}
use native.Mathlib.Omega.{arith}
use borrow.Author.Tests.{lt-ltb, le-ltb}
use lib.IntN.{ℤ, pos, negsuc}
use lib.ListN.{length, length-append}
use Rattle.polar.specs.Code.{Code, Costs, pay, channel, sum, total, minimum, least}
use Rattle.polar.specs.Fold.{free_fold, known_fold}
use Rattle.polar.proofs.Minima.{sum-cong}
use Rattle.polar.proofs.Least.{least-nil, pay-free}
use Rattle.polar.proofs.Fold.{arikan_code, arikan-onto, least-free, least_known}
use Rattle.polar.proofs.Values.{value, values, common, least-values}
use Rattle.values.specs.Value.{free_value, known_value}
use Rattle.values.specs.Arikan.{arikan_word}
use Rattle.values.proofs.Folding.{value-known, value-free}
use Rattle.values.proofs.Arikan.{word-is}

-- The value of what a channel value pays is that value.
pub value-pay : (y : ℤ) → value (pay y) ≡ y
value-pay (pos y) = let l : 0 ≤ y = omega arith in rw (le-ltb y 0 l) (ap pos (omega arith))
value-pay (negsuc y) = let l : 0 < suc y = omega arith in rw (lt-ltb 0 (suc y) l) (ap negsuc (omega arith))

-- With all symbols given nothing is free.
least-whole : (C : Code) (m : Costs) (q : List Bool) → length q ≡ C.size → least C m q ≡ total C m q
unfolding least minimum
least-whole C m q e = let z : C.size - length q ≡ 0 = omega arith in ap (λ n. minimum n (λ t. total C m (q ++ t))) z ∙ ap (total C m) (append-nil q)

-- The least over all symbols of 2 ^ t places: what all words pay, and what the values pay for the word.
pub whole : (t : ℕ) (m : Costs) (q : List Bool) → length q ≡ 2 ^ t
    → least (arikan_code t) m q ≡ least (arikan_code t) m [] + sum (2 ^ t) (λ i. pay (value (m i)) (arikan_word t q i))
unfolding total
whole t m q e =
    let C = arikan_code t in
    let c : ℕ = sum (2 ^ t) (λ i. common (m i)) in
    let none : least C m [] ≡ c = least-values C m [] ∙ ap (λ n. c + n) (least-nil C (arikan-onto t) (values m) (λ i. pay-free (value (m i)))) ∙ add-zero c in
    least-values C m q
    ∙ ap₂ ◌+◌ (sym none) (least-whole C (values m) q e ∙ sum-cong (2 ^ t) (λ i l. ap (pay (value (m i))) (word-is t q e i l)))

module _ (m : Costs) where
  -- Eight known v of sixteen: over the eight free folds.
  pub eight-known : (q : List Bool) → length q ≡ 8
      → least (arikan_code 4) m q ≡ least (arikan_code 4) m [] + sum 8 (λ i. pay (free_value (value (m i)) (value (m (8 + i)))) (arikan_word 3 q i))
  eight-known q e =
      let n : Costs = free_fold 8 m in
      least-free 3 m q (omega arith)
      ∙ whole 3 n q e
      ∙ ap₂ ◌+◌ (sym (least-free 3 m [] (omega arith))) (sum-cong 8 (λ i _. ap (λ y. pay y (arikan_word 3 q i)) (value-free 8 m i)))

  -- Four known v more, after four: over the four values that these leave.
  pub four-known : (p q : List Bool) → length p ≡ 4 → length q ≡ 4
      → least (arikan_code 4) m (p ++ q)
      ≡ least (arikan_code 4) m p
      + sum 4 (λ i. pay (known_value (arikan_word 2 p i) (free_value (value (m i)) (value (m (8 + i)))) (free_value (value (m (4 + i))) (value (m (8 + (4 + i)))))) (arikan_word 2 q i))
  four-known p q ep eq =
      let n : Costs = free_fold 8 m in
      let k : Costs = known_fold 4 ((arikan_code 2).word p) n in
      let onto-four : (r : List Bool) → length r ≤ 4 → least (arikan_code 4) m (p ++ r) ≡ least (arikan_code 2) k r =
      λ r l. least-free 3 m (p ++ r) (simp (length-append) (omega arith)) ∙ least_known 2 n p r ep l in
      onto-four q (omega arith)
      ∙ whole 2 k q eq
      ∙ ap₂ ◌+◌ (sym (onto-four [] (omega arith)) ∙ ap (least (arikan_code 4) m) (append-nil p))
      (sum-cong 4 (λ i l. ap (λ y. pay y (arikan_word 2 q i))
      (value-known 4 ((arikan_code 2).word p) n i
      ∙ ap (λ c. known_value c (value (n i)) (value (n (4 + i)))) (word-is 2 p ep i l)
      ∙ ap₂ (known_value (arikan_word 2 p i)) (value-free 8 m i) (value-free 8 m (4 + i)))))
