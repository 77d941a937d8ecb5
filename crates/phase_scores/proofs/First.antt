-- The first row of a wide window: best scores of paths as sums over places. Assumes nothing.
use mathlib.Core.Path.{◌≡◌, refl, sym, ap, ap₂, ◌∙◌, fun_ext}
use mathlib.Core.Bool.{Bool, false}
use mathlib.Core.List.{List, [], ◌∷◌, ◌++◌}
use Prim.Native.Nat.{ℕ, ◌+◌, ◌<◌}
use native.Mathlib.Omega.{arith}
use lib.IntN.{ℤ, pos, neg_ℤ, ◌+ℤ◌, neg_ℤ-+ℤ, +ℤ_idl}
use lib.ListN.{length, get_or}
use Rattle.base.specs.Bit.{◌⊕◌, bit}
use Rattle.polar.specs.Code.{pay, channel, sum, least}
use Rattle.polar.proofs.Least.{channel-nil}
use Rattle.polar.proofs.Fold.{arikan_code, arikan-onto}
use Rattle.polar.proofs.Values.{value}
use Rattle.values.specs.Value.{free_value, known_value, gain}
use Rattle.values.specs.Arikan.{arikan_word}
use Rattle.values.specs.Path.{path_bit, path_bits, entry}
use Rattle.values.proofs.Whole.{value-pay, eight-known, four-known}
use Rattle.hadamard.specs.Transform.{int_sum}
use Rattle.hadamard.proofs.Sums.{int_sum-cong, int_sum-neg, int_sum-pos}
use Rattle.phase_scores.proofs.Tests.{path-word1, four-word2}
use Rattle.phase_scores.specs.Quarter.{at}
use Rattle.phase_scores.proofs.Block.{best}

-- Minus what is paid and a sum of more is what is gained less.
paid-more : (a n : ℕ) (f : ℕ → ℕ) → neg_ℤ (pos (a + sum n f)) ≡ neg_ℤ (pos a) +ℤ int_sum n (λ i. neg_ℤ (pos (f i)))
paid-more a n f =
    neg_ℤ-+ℤ (pos a) (pos (sum n f)) ∙ ap (λ x. neg_ℤ (pos a) +ℤ x) (ap neg_ℤ (sym (int_sum-pos n f)) ∙ sym (int_sum-neg n (λ i. pos (f i))))

module _ (ys : List ℤ) where
  -- Four known v more, after four,
  best-four : (p q : List Bool) → length p ≡ 4 → length q ≡ 4
      → best ys (p ++ q)
      ≡ best ys p +ℤ int_sum 4 (λ i. gain (known_value (arikan_word 2 p i) (free_value (at ys i) (at ys (8 + i))) (free_value (at ys (4 + i)) (at ys (8 + (4 + i))))) (arikan_word 2 q i))
  best-four p q ep eq =
      let v : ℕ → ℤ = λ i. value (channel ys i) in
      ap (λ x. neg_ℤ (pos x)) (four-known (channel ys) p q ep eq)
      ∙ paid-more (least (arikan_code 4) (channel ys) p) 4 (λ i. pay (known_value (arikan_word 2 p i) (free_value (v i) (v (8 + i))) (free_value (v (4 + i)) (v (8 + (4 + i))))) (arikan_word 2 q i))
      ∙ ap (λ z. best ys p +ℤ int_sum 4 (λ i. gain (known_value (arikan_word 2 p i) (free_value (z i) (z (8 + i))) (free_value (z (4 + i)) (z (8 + (4 + i))))) (arikan_word 2 q i)))
      {x = v} {y = at ys} (fun_ext (λ i. value-pay (at ys i)))

  -- and eight at once.
  best-eight : (q : List Bool) → length q ≡ 8 → best ys q ≡ int_sum 8 (λ i. gain (free_value (at ys i) (at ys (8 + i))) (arikan_word 3 q i))
  best-eight q e =
      let v : ℕ → ℤ = λ i. value (channel ys i) in
      ap (λ x. neg_ℤ (pos x)) (eight-known (channel ys) q e)
      ∙ paid-more (least (arikan_code 4) (channel ys) []) 8 (λ i. pay (free_value (v i) (v (8 + i))) (arikan_word 3 q i))
      ∙ ap₂ ◌+ℤ◌ (ap (λ x. neg_ℤ (pos x)) (channel-nil (arikan_code 4) (arikan-onto 4) ys))
      (ap (λ z. int_sum 8 (λ i. gain (free_value (z i) (z (8 + i))) (arikan_word 3 q i))) {x = v} {y = at ys} (fun_ext (λ i. value-pay (at ys i))))
      ∙ +ℤ_idl (int_sum 8 (λ i. gain (free_value (at ys i) (at ys (8 + i))) (arikan_word 3 q i)))

  -- A row over eight values e, the free folds, is that of kernel 1's paths with this v3.
  pub first-row1 : (v0 v1 v2 v3 v4 : Bool) (e : List ℤ) → ((i : ℕ) → i < 8 → get_or e i (pos 0) ≡ free_value (at ys i) (at ys (8 + i)))
      → (w : ℕ → Bool) → ((i : ℕ) → i < 8 → w i ≡ arikan_word 3 (v0 ∷ v1 ∷ v2 ∷ false ∷ v4 ∷ false ∷ false ∷ false ∷ []) i)
      → (row : List ℤ) → ((d g a : Bool) → entry row d g a ≡ int_sum 8 (λ i. gain (get_or e i (pos 0)) (w i ⊕ path_bits v3 d g a i)))
      → (d g a : Bool) → entry row d g a ≡ best ys (v0 ∷ v1 ∷ v2 ∷ v3 ∷ v4 ∷ g ∷ d ∷ (((a ⊕ d) ⊕ g) ⊕ v3) ∷ [])
  first-row1 v0 v1 v2 v3 v4 e he w hw row h d g a =
      h d g a
      ∙ int_sum-cong 8 (λ i l. ap₂ gain (he i l) (ap (λ b. b ⊕ path_bits v3 d g a i) (hw i l) ∙ sym (path-word1 v0 v1 v2 v3 v4 d g a i l)))
      ∙ sym (best-eight (v0 ∷ v1 ∷ v2 ∷ v3 ∷ v4 ∷ g ∷ d ∷ (((a ⊕ d) ⊕ g) ⊕ v3) ∷ []) refl)

  -- A row over four values t, after v0 to v3, is that of kernel 2's paths.
  pub first-row2 : (v0 v1 v2 v3 v4 : Bool) (e t : List ℤ) → ((i : ℕ) → i < 8 → get_or e i (pos 0) ≡ free_value (at ys i) (at ys (8 + i)))
      → (w : ℕ → Bool) → ((i : ℕ) → i < 4 → w i ≡ arikan_word 2 (v0 ∷ v1 ∷ v2 ∷ v3 ∷ []) i)
      → ((i : ℕ) → i < 4 → get_or t i (pos 0) ≡ known_value (w i) (get_or e i (pos 0)) (get_or e (4 + i) (pos 0)))
      → (base : ℤ) → base ≡ best ys (v0 ∷ v1 ∷ v2 ∷ v3 ∷ [])
      → (row : List ℤ) → ((d g a : Bool) → entry row d g a ≡ base +ℤ int_sum 4 (λ i. gain (get_or t i (pos 0)) (bit (v4 ∷ false ∷ false ∷ false ∷ []) i ⊕ path_bit d g a i)))
      → (d g a : Bool) → entry row d g a ≡ best ys (v0 ∷ v1 ∷ v2 ∷ v3 ∷ v4 ∷ g ∷ d ∷ (((a ⊕ d) ⊕ g) ⊕ false) ∷ [])
  first-row2 v0 v1 v2 v3 v4 e t he w hw ht base hb row h d g a =
      h d g a
      ∙ ap₂ ◌+ℤ◌ hb (int_sum-cong 4 (λ i l. ap₂ gain
      (ht i l ∙ ap (λ c. known_value c (get_or e i (pos 0)) (get_or e (4 + i) (pos 0))) (hw i l)
      ∙ ap₂ (λ (a b : ℤ). known_value (arikan_word 2 (v0 ∷ v1 ∷ v2 ∷ v3 ∷ []) i) a b) (he i (omega arith)) (he (4 + i) (omega arith)))
      (sym (four-word2 v4 d g a i l))))
      ∙ sym (best-four (v0 ∷ v1 ∷ v2 ∷ v3 ∷ []) (v4 ∷ g ∷ d ∷ (((a ⊕ d) ⊕ g) ⊕ false) ∷ []) refl refl)
