-- Four values at a time: what the phases of a quarter see, after the quarters before it. Assumes nothing.
use mathlib.Core.Path.{◌≡◌, sym, ap, ◌∙◌}
use mathlib.Core.Bool.{Bool}
use mathlib.Core.List.{List, ◌++◌}
use Prim.Native.Nat.{ℕ, ◌+◌, ◌<◌}
use native.Mathlib.Omega.{arith}
use lib.IntN.{ℤ}
use lib.ListN.{length, length-append}
use Rattle.values.specs.Value.{known_value}
use Rattle.values.specs.Arikan.{arikan_word, arikan_score}
use Rattle.values.proofs.Arikan.{score-free, score-known, score-below}
use Rattle.phase_scores.specs.Quarter.{at, FreeHalf, KnownHalf, FreeQuarter, KnownQuarter}

module _ (ys e : List ℤ) where
  pub half-free : FreeHalf ys e → (p : List Bool) → length p < 8 → arikan_score 4 (at ys) p ≡ arikan_score 3 (at e) p
  half-free h p l = score-free 3 (at ys) p l ∙ sym (score-below 3 (at e) _ h p l)

  pub half-known : (v : List Bool) → length v ≡ 8 → (w : ℕ → Bool) → ((i : ℕ) → i < 8 → w i ≡ arikan_word 3 v i) → KnownHalf ys w e
      → (p : List Bool) → length p < 8 → arikan_score 4 (at ys) (v ++ p) ≡ arikan_score 3 (at e) p
  half-known v lv w hw h p l =
      score-known 3 (at ys) v p lv ∙ sym (score-below 3 (at e) _ (λ i li. h i li ∙ ap (λ c. known_value c (at ys i) (at ys (8 + i))) (hw i li)) p l)

module _ (e t : List ℤ) where
  pub quarter-free : FreeQuarter e t → (p : List Bool) → length p < 4 → arikan_score 3 (at e) p ≡ arikan_score 2 (at t) p
  quarter-free h p l = score-free 2 (at e) p l ∙ sym (score-below 2 (at t) _ h p l)

  pub quarter-known : (v : List Bool) → length v ≡ 4 → (w : ℕ → Bool) → ((i : ℕ) → i < 4 → w i ≡ arikan_word 2 v i) → KnownQuarter e w t
      → (p : List Bool) → length p < 4 → arikan_score 3 (at e) (v ++ p) ≡ arikan_score 2 (at t) p
  quarter-known v lv w hw h p l =
      score-known 2 (at e) v p lv ∙ sym (score-below 2 (at t) _ (λ i li. h i li ∙ ap (λ c. known_value c (at e i) (at e (4 + i))) (hw i li)) p l)

module _ (ys e t : List ℤ) where
  -- The first quarter,
  pub first-quarter : FreeHalf ys e → FreeQuarter e t → (p : List Bool) → length p < 4 → arikan_score 4 (at ys) p ≡ arikan_score 2 (at t) p
  first-quarter h q p l = half-free ys e h p (omega arith) ∙ quarter-free e t q p l

  -- the second,
  pub second-quarter : FreeHalf ys e → (v : List Bool) → length v ≡ 4 → (w : ℕ → Bool) → ((i : ℕ) → i < 4 → w i ≡ arikan_word 2 v i) → KnownQuarter e w t
      → (p : List Bool) → length p < 4 → arikan_score 4 (at ys) (v ++ p) ≡ arikan_score 2 (at t) p
  second-quarter h v lv w hw q p l =
      half-free ys e h (v ++ p) (omega (arith, length-append v p)) ∙ quarter-known e t v lv w hw q p l

  module _ (u : List Bool) (lu : length u ≡ 8) (w : ℕ → Bool) (hw : (i : ℕ) → i < 8 → w i ≡ arikan_word 3 u i) (h : KnownHalf ys w e) where
    -- the third,
    pub third-quarter : FreeQuarter e t → (p : List Bool) → length p < 4 → arikan_score 4 (at ys) (u ++ p) ≡ arikan_score 2 (at t) p
    third-quarter q p l = half-known ys e u lu w hw h p (omega arith) ∙ quarter-free e t q p l

    -- and the last.
    pub last-quarter : (v : List Bool) → length v ≡ 4 → (x : ℕ → Bool) → ((i : ℕ) → i < 4 → x i ≡ arikan_word 2 v i) → KnownQuarter e x t
        → (p : List Bool) → length p < 4 → arikan_score 4 (at ys) (u ++ (v ++ p)) ≡ arikan_score 2 (at t) p
    last-quarter v lv x hx q p l =
        half-known ys e u lu w hw h (v ++ p) (omega (arith, length-append v p)) ∙ quarter-known e t v lv x hx q p l
