-- The phases of kernel 1: its scores by two blocks of eight paths, and by values where there is one path. Assumes nothing.
use mathlib.Core.Path.{◌≡◌, refl, sym, ap, ap₂, ◌∙◌}
use mathlib.Core.Bool.{Bool, true, false}
use mathlib.Core.List.{List, [], ◌∷◌}
use native.Mathlib.Omega.{arith}
use lib.IntN.{ℤ, ◌-ℤ◌}
use Rattle.base.specs.Bit.{◌⊕◌, bit}
use Rattle.base.proofs.Bool.{⊕-comm}
use Rattle.polar.specs.Code.{channel, score}
use Rattle.kernel.specs.Kernels.{kernel_code}
use Rattle.windows.specs.Windows.{windows}
use Rattle.values.specs.Value.{greater, turned, best_of}
use Rattle.values.specs.Arikan.{arikan_score}
use Rattle.values.specs.Path.{entry, pair_best, four_best, row_best, RowOf}
use Rattle.phase_scores.proofs.Lists.{path1-1, path1-2, path1-3, path1-4, path1-5, path1-6, path1-7, path1-8, path1-9, path1-10, path1-11, path1-12, path1-13, path1-14, path1-15, path1-16}
use Rattle.phase_scores.specs.Quarter.{at}
use Rattle.phase_scores.proofs.Block.{best}
use Rattle.phase_scores.proofs.Kernel2.{best2-8, best2-9, best2-10}
use Rattle.phase_scores.proofs.Paths.{pair_of, four-of, row_of, last_of, twice, path-back, none_of, one_of, two-of, three-of, four-bits-of, phase-score, single-score}

-- The best score of a path after v12, and the greater of both v11.
abbrev pub best1-12 : List ℤ → Bool → Bool → Bool → Bool → Bool → Bool → Bool → Bool → Bool → Bool → Bool → Bool → Bool → ℤ
best1-12 ys v0 v1 v2 v3 v4 v8 u t v12 v11 x y z = best ys (v0 ∷ v1 ∷ v2 ∷ v3 ∷ v4 ∷ x ∷ y ∷ z ∷ v8 ∷ (u ⊕ y) ∷ (t ⊕ (x ⊕ y)) ∷ v11 ∷ v12 ∷ [])

abbrev pub best1-11 : List ℤ → Bool → Bool → Bool → Bool → Bool → Bool → Bool → Bool → Bool → Bool → Bool → Bool → ℤ
best1-11 ys v0 v1 v2 v3 v4 v8 u t v12 x y z = greater (best1-12 ys v0 v1 v2 v3 v4 v8 u t v12 false x y z) (best1-12 ys v0 v1 v2 v3 v4 v8 u t v12 true x y z)

module _ (ys : List ℤ) where
  pub score1-0 : score (kernel_code 1) (channel ys) ([]) ≡ arikan_score 4 (at ys) ([])
  unfolding windows
  score1-0 = single-score 1 (omega arith) ys 0 (omega arith) ([]) refl refl ([]) (omega arith) (λ b. path1-1 b)

  pub score1-1 : (v0 : Bool) → score (kernel_code 1) (channel ys) (v0 ∷ []) ≡ arikan_score 4 (at ys) (v0 ∷ [])
  unfolding windows
  score1-1 v0 = single-score 1 (omega arith) ys 1 (omega arith) (v0 ∷ []) refl refl (v0 ∷ []) (omega arith) (λ b. path1-2 v0 b)

  pub score1-2 : (v0 v1 : Bool) → score (kernel_code 1) (channel ys) (v0 ∷ v1 ∷ []) ≡ arikan_score 4 (at ys) (v0 ∷ v1 ∷ [])
  unfolding windows
  score1-2 v0 v1 = single-score 1 (omega arith) ys 2 (omega arith) (v0 ∷ v1 ∷ []) refl refl (v0 ∷ v1 ∷ []) (omega arith) (λ b. path1-3 v0 v1 b)

  -- Phase 3: v4, over v3.
  pub score1-3 : (v0 v1 v2 : Bool) → score (kernel_code 1) (channel ys) (v0 ∷ v1 ∷ v2 ∷ [])
      ≡ greater (best ys (v0 ∷ v1 ∷ v2 ∷ false ∷ false ∷ [])) (best ys (v0 ∷ v1 ∷ v2 ∷ true ∷ false ∷ []))
      -ℤ greater (best ys (v0 ∷ v1 ∷ v2 ∷ false ∷ true ∷ [])) (best ys (v0 ∷ v1 ∷ v2 ∷ true ∷ true ∷ []))
  unfolding windows best_of
  score1-3 v0 v1 v2 =
      phase-score 1 (omega arith) ys 3 (omega arith) (v0 ∷ v1 ∷ v2 ∷ []) refl 1 refl
      (λ b t. v0 ∷ v1 ∷ v2 ∷ bit t 0 ∷ b ∷ []) (λ b. one_of _ (λ x. path1-4 v0 v1 v2 b x))

  -- Phase 4: two blocks.
  pub score1-4 : (v0 v1 v2 v4 : Bool) (a0 a1 b0 b1 : List ℤ) → RowOf false (best2-8 ys v0 v1 v2 false v4 false) a0 → RowOf false (best2-8 ys v0 v1 v2 false v4 true) a1
      → RowOf true (best2-8 ys v0 v1 v2 true v4 false) b0 → RowOf true (best2-8 ys v0 v1 v2 true v4 true) b1
      → score (kernel_code 1) (channel ys) (v0 ∷ v1 ∷ v2 ∷ v4 ∷ []) ≡ greater (row_best a0) (row_best b0) -ℤ greater (row_best a1) (row_best b1)
  unfolding windows best_of
  score1-4 v0 v1 v2 v4 a0 a1 b0 b1 ha0 ha1 hb0 hb1 =
      phase-score 1 (omega arith) ys 4 (omega arith) (v0 ∷ v1 ∷ v2 ∷ v4 ∷ []) refl 4 refl
      (λ b t. v0 ∷ v1 ∷ v2 ∷ bit t 0 ∷ v4 ∷ bit t 1 ∷ bit t 2 ∷ bit t 3 ∷ b ∷ [])
      (λ b. four-bits-of _ (λ w x y z. path1-5 v0 v1 v2 v4 b w x y z))
      ∙ sym (ap₂ ◌-ℤ◌
      (ap₂ greater (row_of (best2-8 ys v0 v1 v2 false v4 false) a0 false ha0) (row_of (best2-8 ys v0 v1 v2 true v4 false) b0 true hb0))
      (ap₂ greater (row_of (best2-8 ys v0 v1 v2 false v4 true) a1 false ha1) (row_of (best2-8 ys v0 v1 v2 true v4 true) b1 true hb1)))

  -- Phase 5: two blocks.
  pub score1-5 : (v0 v1 v2 v4 v8 : Bool) (a0 a1 b0 b1 : List ℤ) → RowOf false (best2-9 ys v0 v1 v2 false v4 v8 false) a0 → RowOf false (best2-9 ys v0 v1 v2 false v4 v8 true) a1
      → RowOf true (best2-9 ys v0 v1 v2 true v4 v8 false) b0 → RowOf true (best2-9 ys v0 v1 v2 true v4 v8 true) b1
      → score (kernel_code 1) (channel ys) (v0 ∷ v1 ∷ v2 ∷ v4 ∷ v8 ∷ []) ≡ greater (row_best a0) (row_best b0) -ℤ greater (row_best a1) (row_best b1)
  unfolding windows best_of
  score1-5 v0 v1 v2 v4 v8 a0 a1 b0 b1 ha0 ha1 hb0 hb1 =
      phase-score 1 (omega arith) ys 5 (omega arith) (v0 ∷ v1 ∷ v2 ∷ v4 ∷ v8 ∷ []) refl 4 refl
      (λ b t. v0 ∷ v1 ∷ v2 ∷ bit t 0 ∷ v4 ∷ bit t 1 ∷ bit t 2 ∷ bit t 3 ∷ v8 ∷ (b ⊕ bit t 2) ∷ [])
      (λ b. four-bits-of _ (λ w x y z. path1-6 v0 v1 v2 v4 v8 b w x y z))
      ∙ sym (ap₂ ◌-ℤ◌
      (ap₂ greater (row_of (best2-9 ys v0 v1 v2 false v4 v8 false) a0 false ha0) (row_of (best2-9 ys v0 v1 v2 true v4 v8 false) b0 true hb0))
      (ap₂ greater (row_of (best2-9 ys v0 v1 v2 false v4 v8 true) a1 false ha1) (row_of (best2-9 ys v0 v1 v2 true v4 v8 true) b1 true hb1)))

  -- Phase 6: two blocks.
  pub score1-6 : (v0 v1 v2 v4 v8 u : Bool) (a0 a1 b0 b1 : List ℤ) → RowOf false (best2-10 ys v0 v1 v2 false v4 v8 u false) a0 → RowOf false (best2-10 ys v0 v1 v2 false v4 v8 u true) a1
      → RowOf true (best2-10 ys v0 v1 v2 true v4 v8 u false) b0 → RowOf true (best2-10 ys v0 v1 v2 true v4 v8 u true) b1
      → score (kernel_code 1) (channel ys) (v0 ∷ v1 ∷ v2 ∷ v4 ∷ v8 ∷ u ∷ []) ≡ greater (row_best a0) (row_best b0) -ℤ greater (row_best a1) (row_best b1)
  unfolding windows best_of
  score1-6 v0 v1 v2 v4 v8 u a0 a1 b0 b1 ha0 ha1 hb0 hb1 =
      phase-score 1 (omega arith) ys 6 (omega arith) (v0 ∷ v1 ∷ v2 ∷ v4 ∷ v8 ∷ u ∷ []) refl 4 refl
      (λ b t. v0 ∷ v1 ∷ v2 ∷ bit t 0 ∷ v4 ∷ bit t 1 ∷ bit t 2 ∷ bit t 3 ∷ v8 ∷ (u ⊕ bit t 2) ∷ (b ⊕ (bit t 1 ⊕ bit t 2)) ∷ [])
      (λ b. four-bits-of _ (λ w x y z. path1-7 v0 v1 v2 v4 v8 u b w x y z))
      ∙ sym (ap₂ ◌-ℤ◌
      (ap₂ greater (row_of (best2-10 ys v0 v1 v2 false v4 v8 u false) a0 false ha0) (row_of (best2-10 ys v0 v1 v2 true v4 v8 u false) b0 true hb0))
      (ap₂ greater (row_of (best2-10 ys v0 v1 v2 false v4 v8 u true) a1 false ha1) (row_of (best2-10 ys v0 v1 v2 true v4 v8 u true) b1 true hb1)))

  module _ (v0 v1 v2 v4 v8 u t : Bool) where
    -- Phase 7: v3, the better block.
    pub score1-7 : (a b : List ℤ) → RowOf false (best2-10 ys v0 v1 v2 false v4 v8 u t) a → RowOf true (best2-10 ys v0 v1 v2 true v4 v8 u t) b
        → score (kernel_code 1) (channel ys) (v0 ∷ v1 ∷ v2 ∷ v4 ∷ v8 ∷ u ∷ t ∷ []) ≡ row_best a -ℤ row_best b
    unfolding windows
    score1-7 a b ha hb =
        phase-score 1 (omega arith) ys 7 (omega arith) (v0 ∷ v1 ∷ v2 ∷ v4 ∷ v8 ∷ u ∷ t ∷ []) refl 3 refl
        (λ c r. v0 ∷ v1 ∷ v2 ∷ c ∷ v4 ∷ bit r 0 ∷ bit r 1 ∷ bit r 2 ∷ v8 ∷ (u ⊕ bit r 1) ∷ (t ⊕ (bit r 0 ⊕ bit r 1)) ∷ [])
        (λ c. three-of _ (λ x y z. path1-8 v0 v1 v2 v4 v8 u t c x y z))
        ∙ sym (ap₂ ◌-ℤ◌ (row_of (best2-10 ys v0 v1 v2 false v4 v8 u t) a false ha) (row_of (best2-10 ys v0 v1 v2 true v4 v8 u t) b true hb))

    module _ (v3 : Bool) where
      -- Phase 8: v12, over v11.
      pub score1-8 : (m0 m1 : List ℤ) → RowOf v3 (best1-11 ys v0 v1 v2 v3 v4 v8 u t false) m0 → RowOf v3 (best1-11 ys v0 v1 v2 v3 v4 v8 u t true) m1
          → score (kernel_code 1) (channel ys) (v0 ∷ v1 ∷ v2 ∷ v4 ∷ v8 ∷ u ∷ t ∷ v3 ∷ []) ≡ row_best m0 -ℤ row_best m1
      unfolding windows best_of
      score1-8 m0 m1 h0 h1 =
          phase-score 1 (omega arith) ys 8 (omega arith) (v0 ∷ v1 ∷ v2 ∷ v4 ∷ v8 ∷ u ∷ t ∷ v3 ∷ []) refl 4 refl
          (λ b r. v0 ∷ v1 ∷ v2 ∷ v3 ∷ v4 ∷ bit r 0 ∷ bit r 1 ∷ bit r 2 ∷ v8 ∷ (u ⊕ bit r 1) ∷ (t ⊕ (bit r 0 ⊕ bit r 1)) ∷ bit r 3 ∷ b ∷ [])
          (λ b. four-bits-of _ (λ x y z w. path1-9 v0 v1 v2 v4 v8 u t v3 b x y z w))
          ∙ sym (ap₂ ◌-ℤ◌ (row_of (best1-11 ys v0 v1 v2 v3 v4 v8 u t false) m0 v3 h0) (row_of (best1-11 ys v0 v1 v2 v3 v4 v8 u t true) m1 v3 h1))

      module _ (v12 : Bool) (kept : List ℤ) (h : RowOf v3 (best1-11 ys v0 v1 v2 v3 v4 v8 u t v12) kept) where
        -- Phase 9: v6.
        pub score1-9 : score (kernel_code 1) (channel ys) (v0 ∷ v1 ∷ v2 ∷ v4 ∷ v8 ∷ u ∷ t ∷ v3 ∷ v12 ∷ []) ≡ four_best kept false -ℤ four_best kept true
        unfolding windows best_of
        score1-9 =
            phase-score 1 (omega arith) ys 9 (omega arith) (v0 ∷ v1 ∷ v2 ∷ v4 ∷ v8 ∷ u ∷ t ∷ v3 ∷ v12 ∷ []) refl 3 refl
            (λ b r. v0 ∷ v1 ∷ v2 ∷ v3 ∷ v4 ∷ bit r 0 ∷ b ∷ bit r 1 ∷ v8 ∷ (u ⊕ b) ∷ (t ⊕ (bit r 0 ⊕ b)) ∷ bit r 2 ∷ v12 ∷ [])
            (λ b. three-of _ (λ x z w. path1-10 v0 v1 v2 v4 v8 u t v3 v12 b x z w ∙ ap (λ c. v0 ∷ v1 ∷ v2 ∷ v3 ∷ v4 ∷ x ∷ b ∷ z ∷ v8 ∷ (u ⊕ b) ∷ (t ⊕ c) ∷ w ∷ v12 ∷ []) (⊕-comm b x)))
            ∙ sym (ap₂ ◌-ℤ◌ (four-of (best1-11 ys v0 v1 v2 v3 v4 v8 u t v12) kept v3 h false) (four-of (best1-11 ys v0 v1 v2 v3 v4 v8 u t v12) kept v3 h true))

        -- Phase 10: v10, by v5.
        pub score1-10 : (v6 : Bool) → score (kernel_code 1) (channel ys) (v0 ∷ v1 ∷ v2 ∷ v4 ∷ v8 ∷ u ∷ t ∷ v3 ∷ v12 ∷ v6 ∷ []) ≡ pair_best kept v6 (t ⊕ (v6 ⊕ false)) -ℤ pair_best kept v6 (t ⊕ (v6 ⊕ true))
        unfolding windows best_of
        score1-10 v6 =
            phase-score 1 (omega arith) ys 10 (omega arith) (v0 ∷ v1 ∷ v2 ∷ v4 ∷ v8 ∷ u ∷ t ∷ v3 ∷ v12 ∷ v6 ∷ []) refl 2 refl
            (λ b r. v0 ∷ v1 ∷ v2 ∷ v3 ∷ v4 ∷ (t ⊕ (v6 ⊕ b)) ∷ v6 ∷ bit r 0 ∷ v8 ∷ (u ⊕ v6) ∷ b ∷ bit r 1 ∷ v12 ∷ [])
            (λ b. two-of _ (λ z w. path1-11 v0 v1 v2 v4 v8 u t v3 v12 v6 b z w))
            ∙ sym (ap₂ ◌-ℤ◌ (each false) (each true))
          where
            by : Bool → Bool → Bool → ℤ
            by b c z = greater (best ys (v0 ∷ v1 ∷ v2 ∷ v3 ∷ v4 ∷ (t ⊕ (v6 ⊕ b)) ∷ v6 ∷ z ∷ v8 ∷ (u ⊕ v6) ∷ c ∷ false ∷ v12 ∷ [])) (best ys (v0 ∷ v1 ∷ v2 ∷ v3 ∷ v4 ∷ (t ⊕ (v6 ⊕ b)) ∷ v6 ∷ z ∷ v8 ∷ (u ⊕ v6) ∷ c ∷ true ∷ v12 ∷ []))

            each : (b : Bool) → pair_best kept v6 (t ⊕ (v6 ⊕ b)) ≡ greater (by b b false) (by b b true)
            each b = pair_of (best1-11 ys v0 v1 v2 v3 v4 v8 u t v12) kept v3 h v6 (t ⊕ (v6 ⊕ b)) ∙ ap (λ c. greater (by b c false) (by b c true)) (twice t v6 b)

        -- Phase 11: v7.
        pub score1-11 : (v6 c : Bool) → score (kernel_code 1) (channel ys) (v0 ∷ v1 ∷ v2 ∷ v4 ∷ v8 ∷ u ∷ t ∷ v3 ∷ v12 ∷ v6 ∷ c ∷ [])
            ≡ turned (((t ⊕ (v6 ⊕ c)) ⊕ v6) ⊕ v3) (entry kept v6 (t ⊕ (v6 ⊕ c)) false -ℤ entry kept v6 (t ⊕ (v6 ⊕ c)) true)
        unfolding windows best_of
        score1-11 v6 c =
            phase-score 1 (omega arith) ys 11 (omega arith) (v0 ∷ v1 ∷ v2 ∷ v4 ∷ v8 ∷ u ∷ t ∷ v3 ∷ v12 ∷ v6 ∷ c ∷ []) refl 1 refl
            (λ b r. v0 ∷ v1 ∷ v2 ∷ v3 ∷ v4 ∷ (t ⊕ (v6 ⊕ c)) ∷ v6 ∷ b ∷ v8 ∷ (u ⊕ v6) ∷ c ∷ bit r 0 ∷ v12 ∷ [])
            (λ b. one_of _ (λ w. path1-12 v0 v1 v2 v4 v8 u t v3 v12 v6 c b w))
            ∙ ap (λ e. by e false -ℤ by e true) (sym (twice t v6 c))
            ∙ sym (last_of (best1-11 ys v0 v1 v2 v3 v4 v8 u t v12) kept v3 h v6 (t ⊕ (v6 ⊕ c)))
          where
            by : Bool → Bool → ℤ
            by e z = greater (best ys (v0 ∷ v1 ∷ v2 ∷ v3 ∷ v4 ∷ (t ⊕ (v6 ⊕ c)) ∷ v6 ∷ z ∷ v8 ∷ (u ⊕ v6) ∷ e ∷ false ∷ v12 ∷ [])) (best ys (v0 ∷ v1 ∷ v2 ∷ v3 ∷ v4 ∷ (t ⊕ (v6 ⊕ c)) ∷ v6 ∷ z ∷ v8 ∷ (u ⊕ v6) ∷ e ∷ true ∷ v12 ∷ []))

      -- Phase 12: v11, of the path that is left.
      pub score1-12 : (v12 : Bool) (zero one : List ℤ) → RowOf v3 (best1-12 ys v0 v1 v2 v3 v4 v8 u t v12 false) zero → RowOf v3 (best1-12 ys v0 v1 v2 v3 v4 v8 u t v12 true) one
          → (v6 c v7 : Bool) → score (kernel_code 1) (channel ys) (v0 ∷ v1 ∷ v2 ∷ v4 ∷ v8 ∷ u ∷ t ∷ v3 ∷ v12 ∷ v6 ∷ c ∷ v7 ∷ [])
          ≡ entry zero v6 (t ⊕ (v6 ⊕ c)) ((((t ⊕ (v6 ⊕ c)) ⊕ v6) ⊕ v7) ⊕ v3) -ℤ entry one v6 (t ⊕ (v6 ⊕ c)) ((((t ⊕ (v6 ⊕ c)) ⊕ v6) ⊕ v7) ⊕ v3)
      unfolding windows best_of
      score1-12 v12 zero one h0 h1 v6 c v7 =
          phase-score 1 (omega arith) ys 12 (omega arith) (v0 ∷ v1 ∷ v2 ∷ v4 ∷ v8 ∷ u ∷ t ∷ v3 ∷ v12 ∷ v6 ∷ c ∷ v7 ∷ []) refl 0 refl
          (λ b r. v0 ∷ v1 ∷ v2 ∷ v3 ∷ v4 ∷ (t ⊕ (v6 ⊕ c)) ∷ v6 ∷ v7 ∷ v8 ∷ (u ⊕ v6) ∷ c ∷ b ∷ v12 ∷ [])
          (λ b. none_of _ (path1-13 v0 v1 v2 v4 v8 u t v3 v12 v6 c v7 b))
          ∙ sym (ap₂ ◌-ℤ◌ (h0 v6 g a ∙ same false) (h1 v6 g a ∙ same true))
        where
          g : Bool
          g = t ⊕ (v6 ⊕ c)

          a : Bool
          a = (((t ⊕ (v6 ⊕ c)) ⊕ v6) ⊕ v7) ⊕ v3

          same : (b : Bool) → best1-12 ys v0 v1 v2 v3 v4 v8 u t v12 b g v6 (((a ⊕ v6) ⊕ g) ⊕ v3) ≡ best ys (v0 ∷ v1 ∷ v2 ∷ v3 ∷ v4 ∷ (t ⊕ (v6 ⊕ c)) ∷ v6 ∷ v7 ∷ v8 ∷ (u ⊕ v6) ∷ c ∷ b ∷ v12 ∷ [])
          same b =
              ap₂ (λ z e. best ys (v0 ∷ v1 ∷ v2 ∷ v3 ∷ v4 ∷ (t ⊕ (v6 ⊕ c)) ∷ v6 ∷ z ∷ v8 ∷ (u ⊕ v6) ∷ e ∷ b ∷ v12 ∷ [])) (path-back (t ⊕ (v6 ⊕ c)) v6 v7 v3) (twice t v6 c)

      -- The last phases have one path.
      module _ (v12 v6 c v7 v11 : Bool) where
        pub score1-13 : score (kernel_code 1) (channel ys) (v0 ∷ v1 ∷ v2 ∷ v4 ∷ v8 ∷ u ∷ t ∷ v3 ∷ v12 ∷ v6 ∷ c ∷ v7 ∷ v11 ∷ []) ≡ arikan_score 4 (at ys) (v0 ∷ v1 ∷ v2 ∷ v3 ∷ v4 ∷ (t ⊕ (v6 ⊕ c)) ∷ v6 ∷ v7 ∷ v8 ∷ (u ⊕ v6) ∷ c ∷ v11 ∷ v12 ∷ [])
        unfolding windows
        score1-13 = single-score 1 (omega arith) ys 13 (omega arith) (v0 ∷ v1 ∷ v2 ∷ v4 ∷ v8 ∷ u ∷ t ∷ v3 ∷ v12 ∷ v6 ∷ c ∷ v7 ∷ v11 ∷ []) refl refl (v0 ∷ v1 ∷ v2 ∷ v3 ∷ v4 ∷ (t ⊕ (v6 ⊕ c)) ∷ v6 ∷ v7 ∷ v8 ∷ (u ⊕ v6) ∷ c ∷ v11 ∷ v12 ∷ []) (omega arith) (λ b. path1-14 v0 v1 v2 v4 v8 u t v3 v12 v6 c v7 v11 b)

        pub score1-14 : (v13 : Bool) → score (kernel_code 1) (channel ys) (v0 ∷ v1 ∷ v2 ∷ v4 ∷ v8 ∷ u ∷ t ∷ v3 ∷ v12 ∷ v6 ∷ c ∷ v7 ∷ v11 ∷ v13 ∷ []) ≡ arikan_score 4 (at ys) (v0 ∷ v1 ∷ v2 ∷ v3 ∷ v4 ∷ (t ⊕ (v6 ⊕ c)) ∷ v6 ∷ v7 ∷ v8 ∷ (u ⊕ v6) ∷ c ∷ v11 ∷ v12 ∷ v13 ∷ [])
        unfolding windows
        score1-14 v13 = single-score 1 (omega arith) ys 14 (omega arith) (v0 ∷ v1 ∷ v2 ∷ v4 ∷ v8 ∷ u ∷ t ∷ v3 ∷ v12 ∷ v6 ∷ c ∷ v7 ∷ v11 ∷ v13 ∷ []) refl refl (v0 ∷ v1 ∷ v2 ∷ v3 ∷ v4 ∷ (t ⊕ (v6 ⊕ c)) ∷ v6 ∷ v7 ∷ v8 ∷ (u ⊕ v6) ∷ c ∷ v11 ∷ v12 ∷ v13 ∷ []) (omega arith) (λ b. path1-15 v0 v1 v2 v4 v8 u t v3 v12 v6 c v7 v11 v13 b)

        pub score1-15 : (v13 v14 : Bool) → score (kernel_code 1) (channel ys) (v0 ∷ v1 ∷ v2 ∷ v4 ∷ v8 ∷ u ∷ t ∷ v3 ∷ v12 ∷ v6 ∷ c ∷ v7 ∷ v11 ∷ v13 ∷ v14 ∷ []) ≡ arikan_score 4 (at ys) (v0 ∷ v1 ∷ v2 ∷ v3 ∷ v4 ∷ (t ⊕ (v6 ⊕ c)) ∷ v6 ∷ v7 ∷ v8 ∷ (u ⊕ v6) ∷ c ∷ v11 ∷ v12 ∷ v13 ∷ v14 ∷ [])
        unfolding windows
        score1-15 v13 v14 = single-score 1 (omega arith) ys 15 (omega arith) (v0 ∷ v1 ∷ v2 ∷ v4 ∷ v8 ∷ u ∷ t ∷ v3 ∷ v12 ∷ v6 ∷ c ∷ v7 ∷ v11 ∷ v13 ∷ v14 ∷ []) refl refl (v0 ∷ v1 ∷ v2 ∷ v3 ∷ v4 ∷ (t ⊕ (v6 ⊕ c)) ∷ v6 ∷ v7 ∷ v8 ∷ (u ⊕ v6) ∷ c ∷ v11 ∷ v12 ∷ v13 ∷ v14 ∷ []) (omega arith) (λ b. path1-16 v0 v1 v2 v4 v8 u t v3 v12 v6 c v7 v11 v13 v14 b)
