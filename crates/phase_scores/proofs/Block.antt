-- What each further v adds to the best score of a path of a wide window. Assumes nothing.
use mathlib.Core.Path.{◌≡◌, refl, sym, ap, ap₂, ◌∙◌, fun_ext}
use mathlib.Core.Bool.{Bool, true, false}
use mathlib.Core.List.{List, [], ◌∷◌, ◌++◌}
use Prim.Native.Nat.{ℕ, zero, suc, ◌+◌, ◌<◌}
use native.Mathlib.Omega.{arith}
use lib.IntN.{ℤ, pos, negsuc, ◌+ℤ◌}
use lib.ListN.{length}
use Rattle.base.specs.Bit.{◌⊕◌, bit}
use Rattle.base.proofs.Bool.{⊕-assoc}
use Rattle.polar.specs.Code.{channel, best_score, score}
use Rattle.polar.proofs.Fold.{arikan_code}
use Rattle.values.specs.Value.{turned, free_value, known_value, gain}
use Rattle.values.specs.Arikan.{arikan_word, arikan_score}
use Rattle.values.specs.Path.{path_bits, place_at, value8, value9, value10, value11, after_at, value12}
use Rattle.values.proofs.Arikan.{score-is, best-next}
use Rattle.values.proofs.Whole.{value-pay}
use Rattle.phase_scores.specs.Quarter.{at, PlacesOf}
use Rattle.phase_scores.proofs.Tests.{next_bit, next-word1}

-- The best score of the words whose v begin with p.
abbrev pub best : List ℤ → List Bool → ℤ
best ys p = best_score (arikan_code 4) (channel ys) p

-- The value of the next v,
pub value-is : (ys : List ℤ) (p : List Bool) → length p < 16 → score (arikan_code 4) (channel ys) p ≡ arikan_score 4 (at ys) p
value-is ys p l = score-is 4 (channel ys) p l ∙ ap (λ z. arikan_score 4 z p) (fun_ext (λ i. value-pay (at ys i)))

-- and what it adds.
pub adds : (ys : List ℤ) (p : List Bool) (b : Bool) → length p < 16 → best ys (p ++ (b ∷ [])) ≡ best ys p +ℤ gain (arikan_score 4 (at ys) p) b
adds ys p b l = best-next (arikan_code 4) (channel ys) p b l ∙ ap (λ s. best ys p +ℤ gain s b) (value-is ys p l)

-- A turned value gains for a bit what the value gains for the other.
pub gain-turned : (d u : Bool) (s : ℤ) → gain s (u ⊕ d) ≡ gain (turned d s) u
gain-turned false false s = refl
gain-turned false true s = refl
gain-turned true false (pos zero) = refl
gain-turned true false (pos (suc n)) = refl
gain-turned true false (negsuc n) = refl
gain-turned true true (pos zero) = refl
gain-turned true true (pos (suc n)) = refl
gain-turned true true (negsuc n) = refl

-- t has them under both bits of the next word as well, which is n but for the path's bits and q.
abbrev pub AfterOf : List ℤ → (ℕ → Bool) → Bool → (ℕ → Bool) → Bool → List ℤ → Type 0
AfterOf ys w o n q t =
    (c b : Bool) (i : ℕ) → i < 4
    → after_at t i c b
    ≡ known_value (n i ⊕ (c ⊕ q)) (known_value (w i ⊕ b) (at ys i) (at ys (8 + i))) (known_value (w (4 + i) ⊕ (b ⊕ o)) (at ys (4 + i)) (at ys (12 + i)))

-- A path: v5 is g, v6 is d, and its word is w and the path's bits.
module _ (ys : List ℤ) (v0 v1 v2 v3 v4 d g a z : Bool) (w : ℕ → Bool) (o : Bool)
    (word : (j : ℕ) → j < 8 → arikan_word 3 (v0 ∷ v1 ∷ v2 ∷ v3 ∷ v4 ∷ g ∷ d ∷ z ∷ []) j ≡ w j ⊕ path_bits o d g a j) where
  p8 : List Bool
  p8 = v0 ∷ v1 ∷ v2 ∷ v3 ∷ v4 ∷ g ∷ d ∷ z ∷ []

  c : ℕ → Bool
  c j = arikan_word 3 (v0 ∷ v1 ∷ v2 ∷ v3 ∷ v4 ∷ g ∷ d ∷ z ∷ []) j

  low : (i : ℕ) → ℤ
  low i = known_value (c i) (at ys i) (at ys (8 + i))

  module _ (x : List ℤ) (h : PlacesOf ys w o x) where
    place : (i : ℕ) → i < 4 → (b : Bool) → path_bits o d g a i ≡ b → path_bits o d g a (4 + i) ≡ b ⊕ o
        → free_value (known_value (c i) (at ys i) (at ys (8 + i))) (known_value (c (4 + i)) (at ys (4 + i)) (at ys (12 + i))) ≡ place_at x i b
    unfolding c
    place i l b e f =
        ap₂ (λ p q. free_value (known_value p (at ys i) (at ys (8 + i))) (known_value q (at ys (4 + i)) (at ys (12 + i))))
        (word i (omega arith) ∙ ap (λ b. w i ⊕ b) e) (word (4 + i) (omega arith) ∙ ap (λ b. w (4 + i) ⊕ b) f)
        ∙ sym (h b i l)

    -- The four places of the path.
    p0 : free_value (known_value (c 0) (at ys 0) (at ys 8)) (known_value (c 4) (at ys 4) (at ys 12)) ≡ place_at x 0 a
    p0 = place 0 (omega arith) a refl refl

    p1 : free_value (known_value (c 1) (at ys 1) (at ys 9)) (known_value (c 5) (at ys 5) (at ys 13)) ≡ place_at x 1 (a ⊕ d)
    p1 = place 1 (omega arith) (a ⊕ d) refl refl

    p2 : free_value (known_value (c 2) (at ys 2) (at ys 10)) (known_value (c 6) (at ys 6) (at ys 14)) ≡ place_at x 2 (a ⊕ g)
    p2 = place 2 (omega arith) (a ⊕ g) refl refl

    p3 : free_value (known_value (c 3) (at ys 3) (at ys 11)) (known_value (c 7) (at ys 7) (at ys 15)) ≡ place_at x 3 ((a ⊕ d) ⊕ g)
    p3 = place 3 (omega arith) ((a ⊕ d) ⊕ g) refl refl

    even : free_value (free_value (known_value (c 0) (at ys 0) (at ys 8)) (known_value (c 4) (at ys 4) (at ys 12))) (free_value (known_value (c 2) (at ys 2) (at ys 10)) (known_value (c 6) (at ys 6) (at ys 14)))
        ≡ free_value (place_at x 0 a) (place_at x 2 (a ⊕ g))
    even = ap₂ free_value p0 p2

    odd : free_value (free_value (known_value (c 1) (at ys 1) (at ys 9)) (known_value (c 5) (at ys 5) (at ys 13))) (free_value (known_value (c 3) (at ys 3) (at ys 11)) (known_value (c 7) (at ys 7) (at ys 15)))
        ≡ free_value (place_at x 1 (a ⊕ d)) (place_at x 3 ((a ⊕ d) ⊕ g))
    odd = ap₂ free_value p1 p3

    value-eight : arikan_score 4 (at ys) (v0 ∷ v1 ∷ v2 ∷ v3 ∷ v4 ∷ g ∷ d ∷ z ∷ []) ≡ value8 x d g a
    unfolding arikan_score c
    value-eight = ap₂ free_value even odd

    value-nine : (v8 : Bool) → arikan_score 4 (at ys) (v0 ∷ v1 ∷ v2 ∷ v3 ∷ v4 ∷ g ∷ d ∷ z ∷ v8 ∷ [])
        ≡ known_value v8 (free_value (place_at x 0 a) (place_at x 2 (a ⊕ g))) (free_value (place_at x 1 (a ⊕ d)) (place_at x 3 ((a ⊕ d) ⊕ g)))
    unfolding arikan_score arikan_word c
    value-nine v8 = ap₂ (known_value v8) even odd

    -- Both pairs of places with v8 and v9 known.
    even_known9 : (v8 v9 : Bool) → ℤ
    even_known9 v8 v9 = known_value (v8 ⊕ v9) (place_at x 0 a) (place_at x 2 (a ⊕ g))

    odd_known9 : Bool → ℤ
    odd_known9 v9 = known_value v9 (place_at x 1 (a ⊕ d)) (place_at x 3 ((a ⊕ d) ⊕ g))

    value-ten : (v8 v9 : Bool) → arikan_score 4 (at ys) (v0 ∷ v1 ∷ v2 ∷ v3 ∷ v4 ∷ g ∷ d ∷ z ∷ v8 ∷ v9 ∷ []) ≡ free_value (even_known9 v8 v9) (odd_known9 v9)
    unfolding arikan_score arikan_word c even_known9 odd_known9
    value-ten v8 v9 = ap₂ free_value (ap₂ (known_value (v8 ⊕ v9)) p0 p2) (ap₂ (known_value v9) p1 p3)

    value-eleven : (v8 v9 v10 : Bool) → arikan_score 4 (at ys) (v0 ∷ v1 ∷ v2 ∷ v3 ∷ v4 ∷ g ∷ d ∷ z ∷ v8 ∷ v9 ∷ v10 ∷ []) ≡ known_value v10 (even_known9 v8 v9) (odd_known9 v9)
    unfolding arikan_score arikan_word c even_known9 odd_known9
    value-eleven v8 v9 v10 = ap₂ (known_value v10) (ap₂ (known_value (v8 ⊕ v9)) p0 p2) (ap₂ (known_value v9) p1 p3)

    -- v8 adds what its value gains,
    pub eighth : (b : Bool) → best ys (v0 ∷ v1 ∷ v2 ∷ v3 ∷ v4 ∷ g ∷ d ∷ z ∷ b ∷ []) ≡ best ys (v0 ∷ v1 ∷ v2 ∷ v3 ∷ v4 ∷ g ∷ d ∷ z ∷ []) +ℤ gain (value8 x d g a) b
    eighth b = adds ys _ b (omega arith) ∙ ap (λ s. best ys (v0 ∷ v1 ∷ v2 ∷ v3 ∷ v4 ∷ g ∷ d ∷ z ∷ []) +ℤ gain s b) value-eight

    -- v9 = u + v6,
    pub ninth : (v8 u : Bool) → best ys (v0 ∷ v1 ∷ v2 ∷ v3 ∷ v4 ∷ g ∷ d ∷ z ∷ v8 ∷ (u ⊕ d) ∷ []) ≡ best ys (v0 ∷ v1 ∷ v2 ∷ v3 ∷ v4 ∷ g ∷ d ∷ z ∷ v8 ∷ []) +ℤ gain (value9 x v8 d g a) u
    ninth v8 u =
        adds ys _ (u ⊕ d) (omega arith)
        ∙ ap (λ s. best ys (v0 ∷ v1 ∷ v2 ∷ v3 ∷ v4 ∷ g ∷ d ∷ z ∷ v8 ∷ []) +ℤ s) (ap (λ s. gain s (u ⊕ d)) (value-nine v8) ∙ gain-turned d u _)

    -- v10 = t + v5 + v6,
    pub tenth : (v8 u t : Bool) → best ys (v0 ∷ v1 ∷ v2 ∷ v3 ∷ v4 ∷ g ∷ d ∷ z ∷ v8 ∷ (u ⊕ d) ∷ (t ⊕ (g ⊕ d)) ∷ []) ≡ best ys (v0 ∷ v1 ∷ v2 ∷ v3 ∷ v4 ∷ g ∷ d ∷ z ∷ v8 ∷ (u ⊕ d) ∷ []) +ℤ gain (value10 x v8 u d g a) t
    unfolding even_known9 odd_known9
    tenth v8 u t =
        adds ys _ (t ⊕ (g ⊕ d)) (omega arith)
        ∙ ap (λ s. best ys (v0 ∷ v1 ∷ v2 ∷ v3 ∷ v4 ∷ g ∷ d ∷ z ∷ v8 ∷ (u ⊕ d) ∷ []) +ℤ s)
        (ap (λ s. gain s (t ⊕ (g ⊕ d))) (value-ten v8 (u ⊕ d) ∙ ap (λ e. free_value (known_value e (place_at x 0 a) (place_at x 2 (a ⊕ g))) (odd_known9 (u ⊕ d))) (sym (⊕-assoc v8 u d))) ∙ gain-turned (g ⊕ d) t _)

    -- and v11.
    pub eleventh : (v8 u t b : Bool) → best ys (v0 ∷ v1 ∷ v2 ∷ v3 ∷ v4 ∷ g ∷ d ∷ z ∷ v8 ∷ (u ⊕ d) ∷ (t ⊕ (g ⊕ d)) ∷ b ∷ []) ≡ best ys (v0 ∷ v1 ∷ v2 ∷ v3 ∷ v4 ∷ g ∷ d ∷ z ∷ v8 ∷ (u ⊕ d) ∷ (t ⊕ (g ⊕ d)) ∷ []) +ℤ gain (value11 x v8 u t d g a) b
    unfolding even_known9 odd_known9
    eleventh v8 u t b =
        adds ys _ b (omega arith)
        ∙ ap (λ s. best ys (v0 ∷ v1 ∷ v2 ∷ v3 ∷ v4 ∷ g ∷ d ∷ z ∷ v8 ∷ (u ⊕ d) ∷ (t ⊕ (g ⊕ d)) ∷ []) +ℤ gain s b)
        (value-eleven v8 (u ⊕ d) (t ⊕ (g ⊕ d)) ∙ ap (λ e. known_value (t ⊕ (g ⊕ d)) (known_value e (place_at x 0 a) (place_at x 2 (a ⊕ g))) (odd_known9 (u ⊕ d))) (sym (⊕-assoc v8 u d)))

  -- v12, after all of v8 to v11.
  module _ (v8 u t q : Bool) (x : List ℤ) (h : AfterOf ys w o (bit (((v8 ⊕ u) ⊕ t) ∷ u ∷ t ∷ false ∷ [])) q x) where
    n : ℕ → Bool
    n j = arikan_word 2 (v8 ∷ (u ⊕ d) ∷ (t ⊕ (g ⊕ d)) ∷ q ∷ []) j

    after : (i : ℕ) → i < 4 → (b e : Bool) → path_bits o d g a i ≡ b → path_bits o d g a (4 + i) ≡ b ⊕ o → next_bit d g i ≡ e
        → known_value (n i) (known_value (c i) (at ys i) (at ys (8 + i))) (known_value (c (4 + i)) (at ys (4 + i)) (at ys (12 + i))) ≡ after_at x i e b
    unfolding c n
    after i l b e f r s =
        ap (λ k. known_value k (known_value (c i) (at ys i) (at ys (8 + i))) (known_value (c (4 + i)) (at ys (4 + i)) (at ys (12 + i))))
        (next-word1 v8 u t q d g i l ∙ ap (λ e. bit (((v8 ⊕ u) ⊕ t) ∷ u ∷ t ∷ false ∷ []) i ⊕ (e ⊕ q)) s)
        ∙ ap₂ (λ p r. known_value (bit (((v8 ⊕ u) ⊕ t) ∷ u ∷ t ∷ false ∷ []) i ⊕ (e ⊕ q)) (known_value p (at ys i) (at ys (8 + i))) (known_value r (at ys (4 + i)) (at ys (12 + i))))
        (word i (omega arith) ∙ ap (λ b. w i ⊕ b) f) (word (4 + i) (omega arith) ∙ ap (λ b. w (4 + i) ⊕ b) r)
        ∙ sym (h e b i l)

    value-twelve : arikan_score 4 (at ys) (v0 ∷ v1 ∷ v2 ∷ v3 ∷ v4 ∷ g ∷ d ∷ z ∷ v8 ∷ (u ⊕ d) ∷ (t ⊕ (g ⊕ d)) ∷ q ∷ []) ≡ value12 x d g a
    unfolding arikan_score c n
    value-twelve =
        ap₂ free_value
        (ap₂ free_value (after 0 (omega arith) a g refl refl refl) (after 2 (omega arith) (a ⊕ g) (g ⊕ d) refl refl refl))
        (ap₂ free_value (after 1 (omega arith) (a ⊕ d) d refl refl refl) (after 3 (omega arith) ((a ⊕ d) ⊕ g) false refl refl refl))

    pub twelfth : (b : Bool) → best ys (v0 ∷ v1 ∷ v2 ∷ v3 ∷ v4 ∷ g ∷ d ∷ z ∷ v8 ∷ (u ⊕ d) ∷ (t ⊕ (g ⊕ d)) ∷ q ∷ b ∷ [])
        ≡ best ys (v0 ∷ v1 ∷ v2 ∷ v3 ∷ v4 ∷ g ∷ d ∷ z ∷ v8 ∷ (u ⊕ d) ∷ (t ⊕ (g ⊕ d)) ∷ q ∷ []) +ℤ gain (value12 x d g a) b
    twelfth b =
        adds ys _ b (omega arith)
        ∙ ap (λ s. best ys (v0 ∷ v1 ∷ v2 ∷ v3 ∷ v4 ∷ g ∷ d ∷ z ∷ v8 ∷ (u ⊕ d) ∷ (t ⊕ (g ⊕ d)) ∷ q ∷ []) +ℤ gain s b) value-twelve
