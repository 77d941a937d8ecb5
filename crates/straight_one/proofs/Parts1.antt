-- Kernel 1 after its windows: the phases that select from the kept row, and those of one path. Assumes nothing.
use mathlib.Core.Path.{◌≡◌, refl, sym, ap, ap₂, ◌∙◌, subst⁻¹}
use mathlib.Core.Bool.{Bool, true, false}
use mathlib.Core.List.{List, [], ◌∷◌, ◌++◌}
use Prim.Native.Nat.{ℕ, ◌+◌, ◌<◌}
use native.Mathlib.Omega.{arith}
use lib.IntN.{ℤ, pos, ◌-ℤ◌}
use lib.ListN.{length, get_or}
use mir.Val.{bool_byte}
use Rattle.base.specs.Bit.{◌⊕◌, bit}
use Rattle.polar.specs.Code.{channel, score}
use Rattle.kernel.specs.Kernels.{kernel_code}
use Rattle.values.specs.Value.{greater, known_value}
use Rattle.values.specs.Arikan.{arikan_word, arikan_score}
use Rattle.values.specs.Path.{entry, RowOf}
use Rattle.phase_scores.specs.Quarter.{at}
use Rattle.phase_scores.proofs.Kernel1.{best1-11, best1-12, score1-9, score1-10, score1-11, score1-12, score1-13, score1-14, score1-15}
use Rattle.phase_scores.proofs.Quarters.{half-known}
use Rattle.values.proofs.Numbers.{path-below}
use Rattle.quarters.specs.Part.{Follows, closing_score}
use Rattle.quarters.proofs.Following.{follows-as}

module _ (ys : List ℤ) (v0 v1 v2 v4 v8 u t v3 v12 : Bool) where
  -- The row of the greater of both v11.
  pub kept_row : (zero one kept : List ℤ) → RowOf v3 (best1-12 ys v0 v1 v2 v3 v4 v8 u t v12 false) zero → RowOf v3 (best1-12 ys v0 v1 v2 v3 v4 v8 u t v12 true) one
      → ((i : ℕ) → i < 8 → get_or kept i (pos 0) ≡ greater (get_or zero i (pos 0)) (get_or one i (pos 0)))
      → RowOf v3 (best1-11 ys v0 v1 v2 v3 v4 v8 u t v12) kept
  kept_row zero one kept rz ro hk d g a = hk _ (path-below d g a) ∙ ap₂ greater (rz d g a) (ro d g a)

  -- v6, v10 and v7 select from it.
  pub closing-part : (f g : ℕ → Bool) (kept closing : List ℤ) (found : List Bool) → RowOf v3 (best1-11 ys v0 v1 v2 v3 v4 v8 u t v12) kept
      → Follows (closing_score kept v3 t) (λ i. f (9 + i)) (λ i. g (9 + i)) 3 closing found
      → Follows (λ p. score (kernel_code 1) (channel ys) (v0 ∷ v1 ∷ v2 ∷ v4 ∷ v8 ∷ u ∷ t ∷ v3 ∷ v12 ∷ p)) (λ i. f (8 + (1 + i))) (λ i. g (8 + (1 + i))) 3 closing found
  closing-part f g kept closing found h =
      follows-as (closing_score kept v3 t) (λ p. score (kernel_code 1) (channel ys) (v0 ∷ v1 ∷ v2 ∷ v4 ∷ v8 ∷ u ∷ t ∷ v3 ∷ v12 ∷ p))
      (λ i. f (9 + i)) (λ i. f (8 + (1 + i))) (λ i. g (9 + i)) (λ i. g (8 + (1 + i))) 3 closing found by
      (λ i. ap f {x = 9 + i} {y = 8 + (1 + i)} (omega arith)) (λ i. ap g {x = 9 + i} {y = 8 + (1 + i)} (omega arith))
    where
      by : (p : List Bool) → length p < 3 → closing_score kept v3 t p ≡ score (kernel_code 1) (channel ys) (v0 ∷ v1 ∷ v2 ∷ v4 ∷ v8 ∷ u ∷ t ∷ v3 ∷ v12 ∷ p)
      by [] l = sym (score1-9 ys v0 v1 v2 v4 v8 u t v3 v12 kept h)
      by (v6 ∷ []) l = sym (score1-10 ys v0 v1 v2 v4 v8 u t v3 v12 kept h v6)
      by (v6 ∷ c ∷ []) l = sym (score1-11 ys v0 v1 v2 v4 v8 u t v3 v12 kept h v6 c)
      by (v6 ∷ c ∷ b ∷ p) l = absurd (omega arith)

  -- The last three phases, over the values that v0 to v7 leave.
  pub last-part : (v6 c v7 : Bool) (rest : List ℤ)
      → ((i : ℕ) → i < 8 → get_or rest i (pos 0) ≡ known_value (arikan_word 3 (v0 ∷ v1 ∷ v2 ∷ v3 ∷ v4 ∷ (t ⊕ (v6 ⊕ c)) ∷ v6 ∷ v7 ∷ []) i) (get_or ys i (pos 0)) (get_or ys (8 + i) (pos 0)))
      → (b : Bool) (p : List Bool) → length p < 3
      → score (kernel_code 1) (channel ys) (v0 ∷ v1 ∷ v2 ∷ v4 ∷ v8 ∷ u ∷ t ∷ v3 ∷ v12 ∷ v6 ∷ c ∷ v7 ∷ b ∷ p) ≡ arikan_score 3 (at rest) (v8 ∷ (u ⊕ v6) ∷ c ∷ b ∷ v12 ∷ p)
  last-part v6 c v7 rest h b p l = first p l ∙ half-known ys rest half refl (arikan_word 3 half) (λ i li. refl) h (v8 ∷ (u ⊕ v6) ∷ c ∷ b ∷ v12 ∷ p) (omega arith)
    where
      half : List Bool
      half = v0 ∷ v1 ∷ v2 ∷ v3 ∷ v4 ∷ (t ⊕ (v6 ⊕ c)) ∷ v6 ∷ v7 ∷ []

      first : (p : List Bool) → length p < 3 → score (kernel_code 1) (channel ys) (v0 ∷ v1 ∷ v2 ∷ v4 ∷ v8 ∷ u ∷ t ∷ v3 ∷ v12 ∷ v6 ∷ c ∷ v7 ∷ b ∷ p) ≡ arikan_score 4 (at ys) (half ++ (v8 ∷ (u ⊕ v6) ∷ c ∷ b ∷ v12 ∷ p))
      first [] k = score1-13 ys v0 v1 v2 v4 v8 u t v3 v12 v6 c v7 b
      first (x ∷ []) k = score1-14 ys v0 v1 v2 v4 v8 u t v3 v12 v6 c v7 b x
      first (x ∷ y ∷ []) k = score1-15 ys v0 v1 v2 v4 v8 u t v3 v12 v6 c v7 b x y
      first (x ∷ y ∷ z ∷ q) k = absurd (omega arith)

-- Of two rows that of a bit, whatever holds of either.
pub pick : (Q : Bool → List ℤ → Type 0) (rows : List (List ℤ)) → Q false (get_or rows 0 []) → Q true (get_or rows 1 []) → (b : Bool) → Q b (get_or rows (bool_byte b) [])
pick Q rows p q false = p
pick Q rows p q true = q

-- What the last four phases ask, where the four symbols before them are those of phases 8 to 11.
module _ (ys : List ℤ) (v0 v1 v2 v4 v8 u t v3 v12 v6 c v7 : Bool) (zero one rest : List ℤ)
    (rz : RowOf v3 (best1-12 ys v0 v1 v2 v3 v4 v8 u t v12 false) zero) (ro : RowOf v3 (best1-12 ys v0 v1 v2 v3 v4 v8 u t v12 true) one)
    (hr : (i : ℕ) → i < 8 → get_or rest i (pos 0) ≡ known_value (arikan_word 3 (v0 ∷ v1 ∷ v2 ∷ v3 ∷ v4 ∷ (t ⊕ (v6 ⊕ c)) ∷ v6 ∷ v7 ∷ []) i) (get_or ys i (pos 0)) (get_or ys (8 + i) (pos 0)))
    (n : List Bool) (is-n : n ≡ v12 ∷ v6 ∷ c ∷ v7 ∷ []) where
  pub left-score : score (kernel_code 1) (channel ys) (v0 ∷ v1 ∷ v2 ∷ v4 ∷ v8 ∷ u ∷ t ∷ v3 ∷ bit n 0 ∷ bit n 1 ∷ bit n 2 ∷ bit n 3 ∷ [])
      ≡ entry zero (bit n 1) (t ⊕ (bit n 1 ⊕ bit n 2)) ((((t ⊕ (bit n 1 ⊕ bit n 2)) ⊕ bit n 1) ⊕ bit n 3) ⊕ v3)
      -ℤ entry one (bit n 1) (t ⊕ (bit n 1 ⊕ bit n 2)) ((((t ⊕ (bit n 1 ⊕ bit n 2)) ⊕ bit n 1) ⊕ bit n 3) ⊕ v3)
  left-score =
      subst⁻¹
      (λ (n : List Bool). score (kernel_code 1) (channel ys) (v0 ∷ v1 ∷ v2 ∷ v4 ∷ v8 ∷ u ∷ t ∷ v3 ∷ bit n 0 ∷ bit n 1 ∷ bit n 2 ∷ bit n 3 ∷ [])
      ≡ entry zero (bit n 1) (t ⊕ (bit n 1 ⊕ bit n 2)) ((((t ⊕ (bit n 1 ⊕ bit n 2)) ⊕ bit n 1) ⊕ bit n 3) ⊕ v3)
      -ℤ entry one (bit n 1) (t ⊕ (bit n 1 ⊕ bit n 2)) ((((t ⊕ (bit n 1 ⊕ bit n 2)) ⊕ bit n 1) ⊕ bit n 3) ⊕ v3))
      is-n (score1-12 ys v0 v1 v2 v4 v8 u t v3 v12 zero one rz ro v6 c v7)

  pub left-rest : (b : Bool) (p : List Bool) → length p < 3
      → score (kernel_code 1) (channel ys) (v0 ∷ v1 ∷ v2 ∷ v4 ∷ v8 ∷ u ∷ t ∷ v3 ∷ bit n 0 ∷ bit n 1 ∷ bit n 2 ∷ bit n 3 ∷ b ∷ p) ≡ arikan_score 3 (at rest) (v8 ∷ (u ⊕ bit n 1) ∷ bit n 2 ∷ b ∷ bit n 0 ∷ p)
  left-rest b p l =
      subst⁻¹
      (λ (n : List Bool). score (kernel_code 1) (channel ys) (v0 ∷ v1 ∷ v2 ∷ v4 ∷ v8 ∷ u ∷ t ∷ v3 ∷ bit n 0 ∷ bit n 1 ∷ bit n 2 ∷ bit n 3 ∷ b ∷ p) ≡ arikan_score 3 (at rest) (v8 ∷ (u ⊕ bit n 1) ∷ bit n 2 ∷ b ∷ bit n 0 ∷ p))
      is-n (last-part ys v0 v1 v2 v4 v8 u t v3 v12 v6 c v7 rest hr b p l)
