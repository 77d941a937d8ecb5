-- The run of kernel 2 by parts of four phases, from what the code holds of each. Assumes nothing.
use mathlib.Core.Path.{◌≡◌, refl, sym, ap, ◌∙◌}
use mathlib.Core.Bool.{Bool, false}
use mathlib.Core.List.{List, [], ◌∷◌}
use Prim.Native.Nat.{ℕ, ◌+◌, ◌<◌}
use native.Mathlib.Nat.{zero-add}
use native.Mathlib.Omega.{arith}
use lib.IntN.{ℤ}
use lib.ListN.{length}
use Rattle.base.specs.Bit.{◌⊕◌, bit}
use Rattle.polar.specs.Code.{channel, score}
use Rattle.kernel.specs.Kernels.{kernel_code}
use Rattle.values.specs.Arikan.{arikan_word, arikan_score}
use Rattle.values.specs.Path.{RowOf}
use Rattle.phase_scores.specs.Quarter.{at, FreeHalf, KnownHalf, FreeQuarter}
use Rattle.phase_scores.proofs.Kernel2.{best2-10, score2-0, score2-1, score2-2, score2-3, score2-8, score2-9, score2-10, score2-11, score2-12, score2-13, score2-14, score2-15}
use Rattle.phase_scores.proofs.Quarters.{first-quarter, half-known}
use Rattle.quarters.specs.Part.{Follows, closing_score}
use Rattle.quarters.proofs.Few.{few-3, few-4}
use Rattle.quarters.proofs.Following.{follows-as}

-- ---- the scores

module _ (ys : List ℤ) (v0 v1 v2 v3 v4 v8 u t : Bool) where
  -- Phases 8 to 10 close the window.
  close-score : (kept : List ℤ) → RowOf false (best2-10 ys v0 v1 v2 v3 v4 v8 u t) kept → (p : List Bool) → length p < 3
      → closing_score kept false t p ≡ score (kernel_code 2) (channel ys) (v0 ∷ v1 ∷ v2 ∷ v3 ∷ v4 ∷ v8 ∷ u ∷ t ∷ p)
  close-score kept h =
      few-3 _ (sym (score2-8 ys v0 v1 v2 v3 v4 v8 u t kept h)) (λ v6. sym (score2-9 ys v0 v1 v2 v3 v4 v8 u t kept h v6)) (λ v6 c. sym (score2-10 ys v0 v1 v2 v3 v4 v8 u t kept h v6 c))

  module _ (v6 c v7 : Bool) (r : List ℤ) (h : KnownHalf ys (arikan_word 3 (v0 ∷ v1 ∷ v2 ∷ v3 ∷ v4 ∷ (t ⊕ (v6 ⊕ c)) ∷ v6 ∷ v7 ∷ [])) r) where
    left : (p : List Bool) → length p < 8 → arikan_score 4 (at ys) (v0 ∷ v1 ∷ v2 ∷ v3 ∷ v4 ∷ (t ⊕ (v6 ⊕ c)) ∷ v6 ∷ v7 ∷ p) ≡ arikan_score 3 (at r) p
    left = half-known ys r (v0 ∷ v1 ∷ v2 ∷ v3 ∷ v4 ∷ (t ⊕ (v6 ⊕ c)) ∷ v6 ∷ v7 ∷ []) refl (arikan_word 3 (v0 ∷ v1 ∷ v2 ∷ v3 ∷ v4 ∷ (t ⊕ (v6 ⊕ c)) ∷ v6 ∷ v7 ∷ [])) (λ i l. refl) h

    -- Phase 11 is over the eight values that v0 to v7 leave,
    score-11 : score (kernel_code 2) (channel ys) (v0 ∷ v1 ∷ v2 ∷ v3 ∷ v4 ∷ v8 ∷ u ∷ t ∷ v6 ∷ c ∷ v7 ∷ []) ≡ arikan_score 3 (at r) (v8 ∷ (u ⊕ v6) ∷ c ∷ [])
    score-11 = score2-11 ys v0 v1 v2 v3 v4 v8 u t v6 c v7 ∙ left (v8 ∷ (u ⊕ v6) ∷ c ∷ []) (omega arith)

    -- and so are phases 12 to 15.
    last-score : (v11 : Bool) (p : List Bool) → length p < 4
        → arikan_score 3 (at r) (v8 ∷ (u ⊕ v6) ∷ c ∷ v11 ∷ p) ≡ score (kernel_code 2) (channel ys) (v0 ∷ v1 ∷ v2 ∷ v3 ∷ v4 ∷ v8 ∷ u ∷ t ∷ v6 ∷ c ∷ v7 ∷ v11 ∷ p)
    last-score v11 p l = sym (alone p l ∙ left (v8 ∷ (u ⊕ v6) ∷ c ∷ v11 ∷ p) (omega arith))
      where
        alone : (p : List Bool) → length p < 4
            → score (kernel_code 2) (channel ys) (v0 ∷ v1 ∷ v2 ∷ v3 ∷ v4 ∷ v8 ∷ u ∷ t ∷ v6 ∷ c ∷ v7 ∷ v11 ∷ p)
            ≡ arikan_score 4 (at ys) (v0 ∷ v1 ∷ v2 ∷ v3 ∷ v4 ∷ (t ⊕ (v6 ⊕ c)) ∷ v6 ∷ v7 ∷ v8 ∷ (u ⊕ v6) ∷ c ∷ v11 ∷ p)
        alone =
            few-4 _ (score2-12 ys v0 v1 v2 v3 v4 v8 u t v6 c v7 v11) (score2-13 ys v0 v1 v2 v3 v4 v8 u t v6 c v7 v11)
            (score2-14 ys v0 v1 v2 v3 v4 v8 u t v6 c v7 v11) (score2-15 ys v0 v1 v2 v3 v4 v8 u t v6 c v7 v11)

-- ---- the parts

module _ (ys : List ℤ) (f g : ℕ → Bool) where
  -- Phases 0 to 3 are those of four values.
  pub part-one : (e t : List ℤ) → FreeHalf ys e → FreeQuarter e t → (xs : List ℤ) (us : List Bool)
      → Follows (arikan_score 2 (at t)) (λ i. f (0 + i)) (λ i. g (0 + i)) 4 xs us → Follows (score (kernel_code 2) (channel ys)) f g 4 xs us
  part-one e t he ht xs us =
      follows-as (arikan_score 2 (at t)) (score (kernel_code 2) (channel ys)) (λ i. f (0 + i)) f (λ i. g (0 + i)) g 4 xs us
      (λ p l. sym (alone p l ∙ first-quarter ys e t he ht p l)) (λ i. ap f (zero-add i)) (λ i. ap g (zero-add i))
    where
      alone : (p : List Bool) → length p < 4 → score (kernel_code 2) (channel ys) p ≡ arikan_score 4 (at ys) p
      alone = few-4 _ (score2-0 ys) (score2-1 ys) (score2-2 ys) (score2-3 ys)

  -- Symbols v of phases 0 to 3, v4, and o of phases 5 to 7.
  module _ (v : List Bool) (v4 : Bool) (o : List Bool) where
    half : List Bool → List Bool
    half p = bit v 0 ∷ bit v 1 ∷ bit v 2 ∷ bit v 3 ∷ v4 ∷ bit o 0 ∷ bit o 1 ∷ bit o 2 ∷ p

    -- Phases 5 to 7, as those after phase 4.
    pub part-two : (sc : List Bool → ℤ) (xs : List ℤ) → Follows sc (λ i. f (5 + i)) (λ i. g (5 + i)) 3 xs o → Follows sc (λ i. f (4 + (1 + i))) (λ i. g (4 + (1 + i))) 3 xs o
    part-two sc xs = follows-as sc sc (λ i. f (5 + i)) (λ i. f (4 + (1 + i))) (λ i. g (5 + i)) (λ i. g (4 + (1 + i))) 3 xs o (λ p l. refl) (λ i. ap f (five i)) (λ i. ap g (five i))
      where
        five : (i : ℕ) → 5 + i ≡ 4 + (1 + i)
        five i = omega arith

    -- Phases 8 to 10.
    pub part-close : (kept : List ℤ) → RowOf false (best2-10 ys (bit v 0) (bit v 1) (bit v 2) (bit v 3) v4 (bit o 0) (bit o 1) (bit o 2)) kept → (xs : List ℤ) (us : List Bool)
        → Follows (closing_score kept false (bit o 2)) (λ i. f (8 + i)) (λ i. g (8 + i)) 3 xs us
        → Follows (λ p. score (kernel_code 2) (channel ys) (bit v 0 ∷ bit v 1 ∷ bit v 2 ∷ bit v 3 ∷ v4 ∷ bit o 0 ∷ bit o 1 ∷ bit o 2 ∷ p)) (λ i. f (8 + i)) (λ i. g (8 + i)) 3 xs us
    part-close kept h xs us =
        follows-as (closing_score kept false (bit o 2)) _ _ _ _ _ 3 xs us (close-score ys (bit v 0) (bit v 1) (bit v 2) (bit v 3) v4 (bit o 0) (bit o 1) (bit o 2) kept h) (λ i. refl) (λ i. refl)

    -- The symbols b of phases 4 to 7.
    module _ (b : List Bool) (e : b ≡ v4 ∷ bit o 0 ∷ bit o 1 ∷ bit o 2 ∷ []) where
      as-four : (p : List Bool)
          → score (kernel_code 2) (channel ys) (bit v 0 ∷ bit v 1 ∷ bit v 2 ∷ bit v 3 ∷ v4 ∷ bit o 0 ∷ bit o 1 ∷ bit o 2 ∷ p)
          ≡ score (kernel_code 2) (channel ys) (bit v 0 ∷ bit v 1 ∷ bit v 2 ∷ bit v 3 ∷ bit b 0 ∷ bit b 1 ∷ bit b 2 ∷ bit b 3 ∷ p)
      as-four p = ap (λ q. score (kernel_code 2) (channel ys) (bit v 0 ∷ bit v 1 ∷ bit v 2 ∷ bit v 3 ∷ bit q 0 ∷ bit q 1 ∷ bit q 2 ∷ bit q 3 ∷ p)) (sym e)

      -- Phases 8 to 11, after these,
      pub part-three : (xs : List ℤ) (us : List Bool)
          → Follows (λ p. score (kernel_code 2) (channel ys) (bit v 0 ∷ bit v 1 ∷ bit v 2 ∷ bit v 3 ∷ v4 ∷ bit o 0 ∷ bit o 1 ∷ bit o 2 ∷ p)) (λ i. f (8 + i)) (λ i. g (8 + i)) 4 xs us
          → Follows (λ p. score (kernel_code 2) (channel ys) (bit v 0 ∷ bit v 1 ∷ bit v 2 ∷ bit v 3 ∷ bit b 0 ∷ bit b 1 ∷ bit b 2 ∷ bit b 3 ∷ p)) (λ i. f (8 + i)) (λ i. g (8 + i)) 4 xs us
      part-three xs us = follows-as _ _ _ _ _ _ 4 xs us (λ p l. as-four p) (λ i. refl) (λ i. refl)

    -- The symbols y of phases 8 to 10, and the eight values r that v0 to v7 leave.
    module _ (y : List Bool) (r : List ℤ)
        (h : KnownHalf ys (arikan_word 3 (bit v 0 ∷ bit v 1 ∷ bit v 2 ∷ bit v 3 ∷ v4 ∷ (bit o 2 ⊕ (bit y 0 ⊕ bit y 1)) ∷ bit y 0 ∷ bit y 2 ∷ [])) r) where
      pub phase-eleven : score (kernel_code 2) (channel ys) (bit v 0 ∷ bit v 1 ∷ bit v 2 ∷ bit v 3 ∷ v4 ∷ bit o 0 ∷ bit o 1 ∷ bit o 2 ∷ bit y 0 ∷ bit y 1 ∷ bit y 2 ∷ [])
          ≡ arikan_score 3 (at r) (bit o 0 ∷ (bit o 1 ⊕ bit y 0) ∷ bit y 1 ∷ [])
      phase-eleven = score-11 ys (bit v 0) (bit v 1) (bit v 2) (bit v 3) v4 (bit o 0) (bit o 1) (bit o 2) (bit y 0) (bit y 1) (bit y 2) r h

      -- and phases 12 to 15, after those.
      pub part-four : (b : List Bool) → b ≡ v4 ∷ bit o 0 ∷ bit o 1 ∷ bit o 2 ∷ [] → (x : List Bool) → bit x 0 ≡ bit y 0 → bit x 1 ≡ bit y 1 → bit x 2 ≡ bit y 2 → (xs : List ℤ) (us : List Bool)
          → Follows (λ p. arikan_score 3 (at r) (bit o 0 ∷ (bit o 1 ⊕ bit x 0) ∷ bit x 1 ∷ bit x 3 ∷ p)) (λ i. f (12 + i)) (λ i. g (12 + i)) 4 xs us
          → Follows (λ p. score (kernel_code 2) (channel ys) (bit v 0 ∷ bit v 1 ∷ bit v 2 ∷ bit v 3 ∷ bit b 0 ∷ bit b 1 ∷ bit b 2 ∷ bit b 3 ∷ bit x 0 ∷ bit x 1 ∷ bit x 2 ∷ bit x 3 ∷ p)) (λ i. f (12 + i)) (λ i. g (12 + i)) 4 xs us
      part-four b e x e0 e1 e2 xs us =
          follows-as _ _ _ _ _ _ 4 xs us
          (λ p l. last-score ys (bit v 0) (bit v 1) (bit v 2) (bit v 3) v4 (bit o 0) (bit o 1) (bit o 2) (bit x 0) (bit x 1) (bit x 2) r (rw (e0, e1, e2) h) (bit x 3) p l
          ∙ as-four b e (bit x 0 ∷ bit x 1 ∷ bit x 2 ∷ bit x 3 ∷ p))
          (λ i. refl) (λ i. refl)
