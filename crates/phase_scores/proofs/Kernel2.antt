-- The phases of kernel 2: its scores by rows of eight paths, and by values where there is one path. Assumes nothing.
use mathlib.Core.Path.{◌≡◌, refl, sym, ap, ap₂, ◌∙◌}
use mathlib.Core.Bool.{Bool, true, false}
use mathlib.Core.List.{List, [], ◌∷◌}
use native.Mathlib.Omega.{arith}
use lib.IntN.{ℤ, ◌-ℤ◌}
use Rattle.base.specs.Bit.{◌⊕◌, bit}
use Rattle.base.proofs.Bool.{⊕-comm}
use Rattle.polar.specs.Code.{channel, score}
use Rattle.kernel.specs.Kernels.{kernel_code}
use Rattle.windows.specs.Windows.{windows}
use Rattle.values.specs.Value.{greater, turned, best_of}
use Rattle.values.specs.Arikan.{arikan_score}
use Rattle.values.specs.Path.{entry, pair_best, four_best, row_best, RowOf}
use Rattle.phase_scores.proofs.Lists.{path2-1, path2-2, path2-3, path2-4, path2-5, path2-6, path2-7, path2-8, path2-9, path2-10, path2-11, path2-12, path2-13, path2-14, path2-15, path2-16}
use Rattle.phase_scores.specs.Quarter.{at}
use Rattle.phase_scores.proofs.Block.{best}
use Rattle.phase_scores.proofs.Paths.{pair_of, four-of, row_of, last_of, twice, none_of, one_of, two-of, three-of, phase-score, single-score}

-- The best score of a path after v8, after v9 and after v10.
abbrev pub best2-8 : List ℤ → Bool → Bool → Bool → Bool → Bool → Bool → Bool → Bool → Bool → ℤ
best2-8 ys v0 v1 v2 v3 v4 v8 x y z = best ys (v0 ∷ v1 ∷ v2 ∷ v3 ∷ v4 ∷ x ∷ y ∷ z ∷ v8 ∷ [])

abbrev pub best2-9 : List ℤ → Bool → Bool → Bool → Bool → Bool → Bool → Bool → Bool → Bool → Bool → ℤ
best2-9 ys v0 v1 v2 v3 v4 v8 u x y z = best ys (v0 ∷ v1 ∷ v2 ∷ v3 ∷ v4 ∷ x ∷ y ∷ z ∷ v8 ∷ (u ⊕ y) ∷ [])

abbrev pub best2-10 : List ℤ → Bool → Bool → Bool → Bool → Bool → Bool → Bool → Bool → Bool → Bool → Bool → ℤ
best2-10 ys v0 v1 v2 v3 v4 v8 u t x y z = best ys (v0 ∷ v1 ∷ v2 ∷ v3 ∷ v4 ∷ x ∷ y ∷ z ∷ v8 ∷ (u ⊕ y) ∷ (t ⊕ (x ⊕ y)) ∷ [])

module _ (ys : List ℤ) where
  pub score2-0 : score (kernel_code 2) (channel ys) ([]) ≡ arikan_score 4 (at ys) ([])
  unfolding windows
  score2-0 = single-score 2 (omega arith) ys 0 (omega arith) ([]) refl refl ([]) (omega arith) (λ b. path2-1 b)

  pub score2-1 : (v0 : Bool) → score (kernel_code 2) (channel ys) (v0 ∷ []) ≡ arikan_score 4 (at ys) (v0 ∷ [])
  unfolding windows
  score2-1 v0 = single-score 2 (omega arith) ys 1 (omega arith) (v0 ∷ []) refl refl (v0 ∷ []) (omega arith) (λ b. path2-2 v0 b)

  pub score2-2 : (v0 v1 : Bool) → score (kernel_code 2) (channel ys) (v0 ∷ v1 ∷ []) ≡ arikan_score 4 (at ys) (v0 ∷ v1 ∷ [])
  unfolding windows
  score2-2 v0 v1 = single-score 2 (omega arith) ys 2 (omega arith) (v0 ∷ v1 ∷ []) refl refl (v0 ∷ v1 ∷ []) (omega arith) (λ b. path2-3 v0 v1 b)

  pub score2-3 : (v0 v1 v2 : Bool) → score (kernel_code 2) (channel ys) (v0 ∷ v1 ∷ v2 ∷ []) ≡ arikan_score 4 (at ys) (v0 ∷ v1 ∷ v2 ∷ [])
  unfolding windows
  score2-3 v0 v1 v2 = single-score 2 (omega arith) ys 3 (omega arith) (v0 ∷ v1 ∷ v2 ∷ []) refl refl (v0 ∷ v1 ∷ v2 ∷ []) (omega arith) (λ b. path2-4 v0 v1 v2 b)

  pub score2-4 : (v0 v1 v2 v3 : Bool) → score (kernel_code 2) (channel ys) (v0 ∷ v1 ∷ v2 ∷ v3 ∷ []) ≡ arikan_score 4 (at ys) (v0 ∷ v1 ∷ v2 ∷ v3 ∷ [])
  unfolding windows
  score2-4 v0 v1 v2 v3 = single-score 2 (omega arith) ys 4 (omega arith) (v0 ∷ v1 ∷ v2 ∷ v3 ∷ []) refl refl (v0 ∷ v1 ∷ v2 ∷ v3 ∷ []) (omega arith) (λ b. path2-5 v0 v1 v2 v3 b)

  -- Phase 5.
  pub score2-5 : (v0 v1 v2 v3 v4 : Bool) (r0 r1 : List ℤ) → RowOf false (best2-8 ys v0 v1 v2 v3 v4 false) r0 → RowOf false (best2-8 ys v0 v1 v2 v3 v4 true) r1
      → score (kernel_code 2) (channel ys) (v0 ∷ v1 ∷ v2 ∷ v3 ∷ v4 ∷ []) ≡ row_best r0 -ℤ row_best r1
  unfolding windows
  score2-5 v0 v1 v2 v3 v4 r0 r1 h0 h1 =
      phase-score 2 (omega arith) ys 5 (omega arith) (v0 ∷ v1 ∷ v2 ∷ v3 ∷ v4 ∷ []) refl 3 refl
      (λ b t. v0 ∷ v1 ∷ v2 ∷ v3 ∷ v4 ∷ bit t 0 ∷ bit t 1 ∷ bit t 2 ∷ b ∷ [])
      (λ b. three-of _ (λ x y z. path2-6 v0 v1 v2 v3 v4 b x y z))
      ∙ sym (ap₂ ◌-ℤ◌ (row_of (best2-8 ys v0 v1 v2 v3 v4 false) r0 false h0) (row_of (best2-8 ys v0 v1 v2 v3 v4 true) r1 false h1))

  -- Phase 6.
  pub score2-6 : (v0 v1 v2 v3 v4 v8 : Bool) (r0 r1 : List ℤ) → RowOf false (best2-9 ys v0 v1 v2 v3 v4 v8 false) r0 → RowOf false (best2-9 ys v0 v1 v2 v3 v4 v8 true) r1
      → score (kernel_code 2) (channel ys) (v0 ∷ v1 ∷ v2 ∷ v3 ∷ v4 ∷ v8 ∷ []) ≡ row_best r0 -ℤ row_best r1
  unfolding windows
  score2-6 v0 v1 v2 v3 v4 v8 r0 r1 h0 h1 =
      phase-score 2 (omega arith) ys 6 (omega arith) (v0 ∷ v1 ∷ v2 ∷ v3 ∷ v4 ∷ v8 ∷ []) refl 3 refl
      (λ b t. v0 ∷ v1 ∷ v2 ∷ v3 ∷ v4 ∷ bit t 0 ∷ bit t 1 ∷ bit t 2 ∷ v8 ∷ (b ⊕ bit t 1) ∷ [])
      (λ b. three-of _ (λ x y z. path2-7 v0 v1 v2 v3 v4 v8 b x y z))
      ∙ sym (ap₂ ◌-ℤ◌ (row_of (best2-9 ys v0 v1 v2 v3 v4 v8 false) r0 false h0) (row_of (best2-9 ys v0 v1 v2 v3 v4 v8 true) r1 false h1))

  -- Phase 7.
  pub score2-7 : (v0 v1 v2 v3 v4 v8 u : Bool) (r0 r1 : List ℤ) → RowOf false (best2-10 ys v0 v1 v2 v3 v4 v8 u false) r0 → RowOf false (best2-10 ys v0 v1 v2 v3 v4 v8 u true) r1
      → score (kernel_code 2) (channel ys) (v0 ∷ v1 ∷ v2 ∷ v3 ∷ v4 ∷ v8 ∷ u ∷ []) ≡ row_best r0 -ℤ row_best r1
  unfolding windows
  score2-7 v0 v1 v2 v3 v4 v8 u r0 r1 h0 h1 =
      phase-score 2 (omega arith) ys 7 (omega arith) (v0 ∷ v1 ∷ v2 ∷ v3 ∷ v4 ∷ v8 ∷ u ∷ []) refl 3 refl
      (λ b t. v0 ∷ v1 ∷ v2 ∷ v3 ∷ v4 ∷ bit t 0 ∷ bit t 1 ∷ bit t 2 ∷ v8 ∷ (u ⊕ bit t 1) ∷ (b ⊕ (bit t 0 ⊕ bit t 1)) ∷ [])
      (λ b. three-of _ (λ x y z. path2-8 v0 v1 v2 v3 v4 v8 u b x y z))
      ∙ sym (ap₂ ◌-ℤ◌ (row_of (best2-10 ys v0 v1 v2 v3 v4 v8 u false) r0 false h0) (row_of (best2-10 ys v0 v1 v2 v3 v4 v8 u true) r1 false h1))

  module _ (v0 v1 v2 v3 v4 v8 u t : Bool) (kept : List ℤ) (h : RowOf false (best2-10 ys v0 v1 v2 v3 v4 v8 u t) kept) where
    -- Phase 8: v6.
    pub score2-8 : score (kernel_code 2) (channel ys) (v0 ∷ v1 ∷ v2 ∷ v3 ∷ v4 ∷ v8 ∷ u ∷ t ∷ []) ≡ four_best kept false -ℤ four_best kept true
    unfolding windows best_of
    score2-8 =
        phase-score 2 (omega arith) ys 8 (omega arith) (v0 ∷ v1 ∷ v2 ∷ v3 ∷ v4 ∷ v8 ∷ u ∷ t ∷ []) refl 2 refl
        (λ b r. v0 ∷ v1 ∷ v2 ∷ v3 ∷ v4 ∷ bit r 0 ∷ b ∷ bit r 1 ∷ v8 ∷ (u ⊕ b) ∷ (t ⊕ (bit r 0 ⊕ b)) ∷ [])
        (λ b. two-of _ (λ x z. path2-9 v0 v1 v2 v3 v4 v8 u t b x z ∙ ap (λ c. v0 ∷ v1 ∷ v2 ∷ v3 ∷ v4 ∷ x ∷ b ∷ z ∷ v8 ∷ (u ⊕ b) ∷ (t ⊕ c) ∷ []) (⊕-comm b x)))
        ∙ sym (ap₂ ◌-ℤ◌ (four-of (best2-10 ys v0 v1 v2 v3 v4 v8 u t) kept false h false) (four-of (best2-10 ys v0 v1 v2 v3 v4 v8 u t) kept false h true))

    -- Phase 9: v10, by v5.
    pub score2-9 : (v6 : Bool) → score (kernel_code 2) (channel ys) (v0 ∷ v1 ∷ v2 ∷ v3 ∷ v4 ∷ v8 ∷ u ∷ t ∷ v6 ∷ []) ≡ pair_best kept v6 (t ⊕ (v6 ⊕ false)) -ℤ pair_best kept v6 (t ⊕ (v6 ⊕ true))
    unfolding windows best_of
    score2-9 v6 =
        phase-score 2 (omega arith) ys 9 (omega arith) (v0 ∷ v1 ∷ v2 ∷ v3 ∷ v4 ∷ v8 ∷ u ∷ t ∷ v6 ∷ []) refl 1 refl
        (λ b r. v0 ∷ v1 ∷ v2 ∷ v3 ∷ v4 ∷ (t ⊕ (v6 ⊕ b)) ∷ v6 ∷ bit r 0 ∷ v8 ∷ (u ⊕ v6) ∷ b ∷ [])
        (λ b. one_of _ (λ z. path2-10 v0 v1 v2 v3 v4 v8 u t v6 b z))
        ∙ sym (ap₂ ◌-ℤ◌ (each false) (each true))
      where
        each : (b : Bool) → pair_best kept v6 (t ⊕ (v6 ⊕ b)) ≡ greater (best ys (v0 ∷ v1 ∷ v2 ∷ v3 ∷ v4 ∷ (t ⊕ (v6 ⊕ b)) ∷ v6 ∷ false ∷ v8 ∷ (u ⊕ v6) ∷ b ∷ [])) (best ys (v0 ∷ v1 ∷ v2 ∷ v3 ∷ v4 ∷ (t ⊕ (v6 ⊕ b)) ∷ v6 ∷ true ∷ v8 ∷ (u ⊕ v6) ∷ b ∷ []))
        each b =
            pair_of (best2-10 ys v0 v1 v2 v3 v4 v8 u t) kept false h v6 (t ⊕ (v6 ⊕ b))
            ∙ ap (λ c. greater (best ys (v0 ∷ v1 ∷ v2 ∷ v3 ∷ v4 ∷ (t ⊕ (v6 ⊕ b)) ∷ v6 ∷ false ∷ v8 ∷ (u ⊕ v6) ∷ c ∷ [])) (best ys (v0 ∷ v1 ∷ v2 ∷ v3 ∷ v4 ∷ (t ⊕ (v6 ⊕ b)) ∷ v6 ∷ true ∷ v8 ∷ (u ⊕ v6) ∷ c ∷ []))) (twice t v6 b)

    -- Phase 10: v7.
    pub score2-10 : (v6 c : Bool) → score (kernel_code 2) (channel ys) (v0 ∷ v1 ∷ v2 ∷ v3 ∷ v4 ∷ v8 ∷ u ∷ t ∷ v6 ∷ c ∷ [])
        ≡ turned (((t ⊕ (v6 ⊕ c)) ⊕ v6) ⊕ false) (entry kept v6 (t ⊕ (v6 ⊕ c)) false -ℤ entry kept v6 (t ⊕ (v6 ⊕ c)) true)
    unfolding windows best_of
    score2-10 v6 c =
        phase-score 2 (omega arith) ys 10 (omega arith) (v0 ∷ v1 ∷ v2 ∷ v3 ∷ v4 ∷ v8 ∷ u ∷ t ∷ v6 ∷ c ∷ []) refl 0 refl
        (λ b r. v0 ∷ v1 ∷ v2 ∷ v3 ∷ v4 ∷ (t ⊕ (v6 ⊕ c)) ∷ v6 ∷ b ∷ v8 ∷ (u ⊕ v6) ∷ c ∷ [])
        (λ b. none_of _ (path2-11 v0 v1 v2 v3 v4 v8 u t v6 c b))
        ∙ ap (λ e. best ys (v0 ∷ v1 ∷ v2 ∷ v3 ∷ v4 ∷ (t ⊕ (v6 ⊕ c)) ∷ v6 ∷ false ∷ v8 ∷ (u ⊕ v6) ∷ e ∷ []) -ℤ best ys (v0 ∷ v1 ∷ v2 ∷ v3 ∷ v4 ∷ (t ⊕ (v6 ⊕ c)) ∷ v6 ∷ true ∷ v8 ∷ (u ⊕ v6) ∷ e ∷ [])) (sym (twice t v6 c))
        ∙ sym (last_of (best2-10 ys v0 v1 v2 v3 v4 v8 u t) kept false h v6 (t ⊕ (v6 ⊕ c)))

  -- The last phases have one path.
  module _ (v0 v1 v2 v3 v4 v8 u t v6 c v7 : Bool) where
    pub score2-11 : score (kernel_code 2) (channel ys) (v0 ∷ v1 ∷ v2 ∷ v3 ∷ v4 ∷ v8 ∷ u ∷ t ∷ v6 ∷ c ∷ v7 ∷ []) ≡ arikan_score 4 (at ys) (v0 ∷ v1 ∷ v2 ∷ v3 ∷ v4 ∷ (t ⊕ (v6 ⊕ c)) ∷ v6 ∷ v7 ∷ v8 ∷ (u ⊕ v6) ∷ c ∷ [])
    unfolding windows
    score2-11 = single-score 2 (omega arith) ys 11 (omega arith) (v0 ∷ v1 ∷ v2 ∷ v3 ∷ v4 ∷ v8 ∷ u ∷ t ∷ v6 ∷ c ∷ v7 ∷ []) refl refl (v0 ∷ v1 ∷ v2 ∷ v3 ∷ v4 ∷ (t ⊕ (v6 ⊕ c)) ∷ v6 ∷ v7 ∷ v8 ∷ (u ⊕ v6) ∷ c ∷ []) (omega arith) (λ b. path2-12 v0 v1 v2 v3 v4 v8 u t v6 c v7 b)

    pub score2-12 : (v11 : Bool) → score (kernel_code 2) (channel ys) (v0 ∷ v1 ∷ v2 ∷ v3 ∷ v4 ∷ v8 ∷ u ∷ t ∷ v6 ∷ c ∷ v7 ∷ v11 ∷ []) ≡ arikan_score 4 (at ys) (v0 ∷ v1 ∷ v2 ∷ v3 ∷ v4 ∷ (t ⊕ (v6 ⊕ c)) ∷ v6 ∷ v7 ∷ v8 ∷ (u ⊕ v6) ∷ c ∷ v11 ∷ [])
    unfolding windows
    score2-12 v11 = single-score 2 (omega arith) ys 12 (omega arith) (v0 ∷ v1 ∷ v2 ∷ v3 ∷ v4 ∷ v8 ∷ u ∷ t ∷ v6 ∷ c ∷ v7 ∷ v11 ∷ []) refl refl (v0 ∷ v1 ∷ v2 ∷ v3 ∷ v4 ∷ (t ⊕ (v6 ⊕ c)) ∷ v6 ∷ v7 ∷ v8 ∷ (u ⊕ v6) ∷ c ∷ v11 ∷ []) (omega arith) (λ b. path2-13 v0 v1 v2 v3 v4 v8 u t v6 c v7 v11 b)

    pub score2-13 : (v11 v12 : Bool) → score (kernel_code 2) (channel ys) (v0 ∷ v1 ∷ v2 ∷ v3 ∷ v4 ∷ v8 ∷ u ∷ t ∷ v6 ∷ c ∷ v7 ∷ v11 ∷ v12 ∷ []) ≡ arikan_score 4 (at ys) (v0 ∷ v1 ∷ v2 ∷ v3 ∷ v4 ∷ (t ⊕ (v6 ⊕ c)) ∷ v6 ∷ v7 ∷ v8 ∷ (u ⊕ v6) ∷ c ∷ v11 ∷ v12 ∷ [])
    unfolding windows
    score2-13 v11 v12 = single-score 2 (omega arith) ys 13 (omega arith) (v0 ∷ v1 ∷ v2 ∷ v3 ∷ v4 ∷ v8 ∷ u ∷ t ∷ v6 ∷ c ∷ v7 ∷ v11 ∷ v12 ∷ []) refl refl (v0 ∷ v1 ∷ v2 ∷ v3 ∷ v4 ∷ (t ⊕ (v6 ⊕ c)) ∷ v6 ∷ v7 ∷ v8 ∷ (u ⊕ v6) ∷ c ∷ v11 ∷ v12 ∷ []) (omega arith) (λ b. path2-14 v0 v1 v2 v3 v4 v8 u t v6 c v7 v11 v12 b)

    pub score2-14 : (v11 v12 v13 : Bool) → score (kernel_code 2) (channel ys) (v0 ∷ v1 ∷ v2 ∷ v3 ∷ v4 ∷ v8 ∷ u ∷ t ∷ v6 ∷ c ∷ v7 ∷ v11 ∷ v12 ∷ v13 ∷ []) ≡ arikan_score 4 (at ys) (v0 ∷ v1 ∷ v2 ∷ v3 ∷ v4 ∷ (t ⊕ (v6 ⊕ c)) ∷ v6 ∷ v7 ∷ v8 ∷ (u ⊕ v6) ∷ c ∷ v11 ∷ v12 ∷ v13 ∷ [])
    unfolding windows
    score2-14 v11 v12 v13 = single-score 2 (omega arith) ys 14 (omega arith) (v0 ∷ v1 ∷ v2 ∷ v3 ∷ v4 ∷ v8 ∷ u ∷ t ∷ v6 ∷ c ∷ v7 ∷ v11 ∷ v12 ∷ v13 ∷ []) refl refl (v0 ∷ v1 ∷ v2 ∷ v3 ∷ v4 ∷ (t ⊕ (v6 ⊕ c)) ∷ v6 ∷ v7 ∷ v8 ∷ (u ⊕ v6) ∷ c ∷ v11 ∷ v12 ∷ v13 ∷ []) (omega arith) (λ b. path2-15 v0 v1 v2 v3 v4 v8 u t v6 c v7 v11 v12 v13 b)

    pub score2-15 : (v11 v12 v13 v14 : Bool) → score (kernel_code 2) (channel ys) (v0 ∷ v1 ∷ v2 ∷ v3 ∷ v4 ∷ v8 ∷ u ∷ t ∷ v6 ∷ c ∷ v7 ∷ v11 ∷ v12 ∷ v13 ∷ v14 ∷ []) ≡ arikan_score 4 (at ys) (v0 ∷ v1 ∷ v2 ∷ v3 ∷ v4 ∷ (t ⊕ (v6 ⊕ c)) ∷ v6 ∷ v7 ∷ v8 ∷ (u ⊕ v6) ∷ c ∷ v11 ∷ v12 ∷ v13 ∷ v14 ∷ [])
    unfolding windows
    score2-15 v11 v12 v13 v14 = single-score 2 (omega arith) ys 15 (omega arith) (v0 ∷ v1 ∷ v2 ∷ v3 ∷ v4 ∷ v8 ∷ u ∷ t ∷ v6 ∷ c ∷ v7 ∷ v11 ∷ v12 ∷ v13 ∷ v14 ∷ []) refl refl (v0 ∷ v1 ∷ v2 ∷ v3 ∷ v4 ∷ (t ⊕ (v6 ⊕ c)) ∷ v6 ∷ v7 ∷ v8 ∷ (u ⊕ v6) ∷ c ∷ v11 ∷ v12 ∷ v13 ∷ v14 ∷ []) (omega arith) (λ b. path2-16 v0 v1 v2 v3 v4 v8 u t v6 c v7 v11 v12 v13 v14 b)
