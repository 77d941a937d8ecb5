-- Arikan's words half by half, and scores of the next symbol by folds of values. Assumes nothing.
use mathlib.Core.Path.{◌≡◌, refl, sym, ap, ap₂, ◌∙◌, fun_ext}
use mathlib.Core.Bool.{Bool, true, false, and-true}
use mathlib.Core.List.{List, [], ◌∷◌, ◌++◌, append_assoc}
use Prim.Native.Nat.{ℕ, zero, suc, ◌+◌, ◌-◌, ◌^◌, ◌≤◌, ◌<◌}
use native.Mathlib.Nat.{pow-succ', add-zero}
use native.Mathlib.Omega.{arith}
use borrow.Author.Tests.{leb-true, leb-false, le-leb, lt-leb}
use lib.Dec.{leb}
use lib.IntN.{ℤ, pos, neg_ℤ, sub_ℕ, ◌+ℤ◌, neg_ℤ-+ℤ}
use lib.ListN.{length, take, drop, length-append, length-drop, take-append-drop}
use lib.Seq.{length-take-le, take_at, drop_at}
use Rattle.base.specs.Bit.{◌⊕◌, bit, parity, every}
use Rattle.base.proofs.Bool.{⊕-false}
use Rattle.polar.specs.Code.{Code, Costs, pay, sum, total, minimum, least, best_score, score}
use Rattle.polar.specs.Kernel.{arikan}
use Rattle.polar.specs.Fold.{free_fold, known_fold}
use Rattle.polar.proofs.Least.{score-least}
use Rattle.polar.proofs.Fold.{arikan_code, word_low, word-high, least-free, least_known}
use Rattle.polar.proofs.Values.{value, penalty-next}
use Rattle.values.specs.Value.{free_value, known_value, gain}
use Rattle.values.specs.Arikan.{arikan_word, arikan_score}
use Rattle.values.proofs.Folding.{value-known, value-free}

one_word : (v : List Bool) (j : ℕ) → j ≡ 0 → (arikan_code 0).word v j ≡ bit v 0
unfolding arikan every parity
one_word v zero z = ⊕-false _ ∙ and-true (bit v 0)
one_word v (suc j) z = absurd (omega arith)

-- A word half by half.
pub word-is : (t : ℕ) (v : List Bool) → length v ≡ 2 ^ t → (j : ℕ) → j < 2 ^ t → (arikan_code t).word v j ≡ arikan_word t v j
unfolding arikan_word
word-is zero v e j l = one_word v j (omega arith)
word-is (suc t) v e j l = ap (λ u. (arikan_code (suc t)).word u j) (sym (take-append-drop (2 ^ t) v)) ∙ go (leb (2 ^ t) j) refl (word-is t)
  where
    a : List Bool
    a = take (2 ^ t) v

    b : List Bool
    b = drop (2 ^ t) v

    la : length a ≡ 2 ^ t
    la = length-take-le (2 ^ t) v (omega (arith, pow-succ' 2 t))

    lb : length b ≡ 2 ^ t
    lb = length-drop (2 ^ t) v ∙ omega (arith, pow-succ' 2 t)

    go : (c : Bool) → leb (2 ^ t) j ≡ c → ((v : List Bool) → length v ≡ 2 ^ t → (j : ℕ) → j < 2 ^ t → (arikan_code t).word v j ≡ arikan_word t v j)
        → (arikan_code (suc t)).word (a ++ b) j ≡ elim c [ true ↦ arikan_word t b (j - 2 ^ t) | false ↦ arikan_word t a j ⊕ arikan_word t b j ]
    go true f ih =
        let h : 2 ^ t ≤ j = leb-true (2 ^ t) j f in
        let s : 2 ^ t + (j - 2 ^ t) ≡ j = omega arith in
        let r : j - 2 ^ t < 2 ^ t = omega (arith, pow-succ' 2 t) in
        ap ((arikan_code (suc t)).word (a ++ b)) (sym s) ∙ word-high t a b la (j - 2 ^ t) r ∙ ih b lb (j - 2 ^ t) r
    go false f ih =
        let h : j < 2 ^ t = leb-false (2 ^ t) j f in
        word_low t a b la j h ∙ ap₂ ◌⊕◌ (ih a la j h) (ih b lb j h)

-- One place pays for the symbol itself.
one-pays : (m : Costs) (b : Bool) → least (arikan_code 0) m (b ∷ []) ≡ m 0 b
unfolding least minimum total sum arikan every parity
one-pays m false = add-zero (m 0 false)
one-pays m true = add-zero (m 0 true)

-- A half at a time, with one more symbol.
known_next : (t : ℕ) (m : Costs) (a q : List Bool) (b : Bool) → length a ≡ 2 ^ t → length q < 2 ^ t
    → least (arikan_code (suc t)) m (a ++ q ++ (b ∷ [])) ≡ least (arikan_code t) (known_fold (2 ^ t) ((arikan_code t).word a) m) (q ++ (b ∷ []))
known_next t m a q b la lq =
    ap (least (arikan_code (suc t)) m) (append_assoc a q (b ∷ [])) ∙ least_known t m a (q ++ (b ∷ [])) la (simp (length-append) (omega arith))

free-next : (t : ℕ) (m : Costs) (p : List Bool) (b : Bool) → length p < 2 ^ t
    → least (arikan_code (suc t)) m (p ++ (b ∷ [])) ≡ least (arikan_code t) (free_fold (2 ^ t) m) (p ++ (b ∷ []))
free-next t m p b l = least-free t m (p ++ (b ∷ [])) (simp (length-append) (omega arith))

-- Only the values of the places count.
pub score-below : (t : ℕ) (y z : ℕ → ℤ) → ((j : ℕ) → j < 2 ^ t → y j ≡ z j) → (p : List Bool) → length p < 2 ^ t → arikan_score t y p ≡ arikan_score t z p
unfolding arikan_score
score-below zero y z h p l = h 0 (omega arith)
score-below (suc t) y z h p l = go (leb (2 ^ t) (length p)) refl (score-below t)
  where
    low : (j : ℕ) → j < 2 ^ t → y j ≡ z j
    low j lj = h j (omega (arith, pow-succ' 2 t))

    high : (j : ℕ) → j < 2 ^ t → y (2 ^ t + j) ≡ z (2 ^ t + j)
    high j lj = h (2 ^ t + j) (omega (arith, pow-succ' 2 t))

    by : (ℕ → ℤ) → Bool → ℤ
    by x c = elim c [
      | true ↦ arikan_score t (λ j. known_value (arikan_word t (take (2 ^ t) p) j) (x j) (x (2 ^ t + j))) (drop (2 ^ t) p)
      | false ↦ arikan_score t (λ j. free_value (x j) (x (2 ^ t + j))) p
    ]

    go : (c : Bool) → leb (2 ^ t) (length p) ≡ c
        → ((y z : ℕ → ℤ) → ((j : ℕ) → j < 2 ^ t → y j ≡ z j) → (p : List Bool) → length p < 2 ^ t → arikan_score t y p ≡ arikan_score t z p) → by y c ≡ by z c
    go true f ih =
        ih _ _ (λ j lj. ap₂ (known_value (arikan_word t (take (2 ^ t) p) j)) (low j lj) (high j lj)) (drop (2 ^ t) p)
        (omega (arith, length-drop (2 ^ t) p, pow-succ' 2 t, leb-true (2 ^ t) (length p) f))
    go false f ih = ih _ _ (λ j lj. ap₂ free_value (low j lj) (high j lj)) p (leb-false (2 ^ t) (length p) f)

-- The score of the next symbol, by folds of the values of the places.
pub score-is : (t : ℕ) (m : Costs) (p : List Bool) → length p < 2 ^ t → score (arikan_code t) m p ≡ arikan_score t (λ i. value (m i)) p
unfolding arikan_score
score-is zero m p l = last p (omega arith)
  where
    last : (p : List Bool) → length p ≡ 0 → score (arikan_code 0) m p ≡ value (m 0)
    last [] e = score-least (arikan_code 0) m [] ∙ ap₂ sub_ℕ (one-pays m true) (one-pays m false)
    last (b ∷ p) e = absurd (omega arith)
score-is (suc t) m p l = go (leb (2 ^ t) (length p)) refl (score-is t)
  where
    h : ℕ
    h = 2 ^ t

    go : (c : Bool) → leb (2 ^ t) (length p) ≡ c → ((m : Costs) (p : List Bool) → length p < 2 ^ t → score (arikan_code t) m p ≡ arikan_score t (λ i. value (m i)) p)
        → score (arikan_code (suc t)) m p
        ≡ elim c [
          | true ↦ arikan_score t (λ j. known_value (arikan_word t (take (2 ^ t) p) j) (value (m j)) (value (m (2 ^ t + j)))) (drop (2 ^ t) p)
          | false ↦ arikan_score t (λ j. free_value (value (m j)) (value (m (2 ^ t + j)))) p
        ]
    go true f ih =
        let e : 2 ^ t ≤ length p = leb-true (2 ^ t) (length p) f in
        let a = take (2 ^ t) p in
        let q = drop (2 ^ t) p in
        let la : length a ≡ 2 ^ t = length-take-le (2 ^ t) p e in
        let lq : length q < 2 ^ t = omega (arith, length-drop (2 ^ t) p, pow-succ' 2 t) in
        let n : Costs = known_fold (2 ^ t) ((arikan_code t).word a) m in
        ap (score (arikan_code (suc t)) m) (sym (take-append-drop (2 ^ t) p))
        ∙ score-least (arikan_code (suc t)) m (a ++ q)
        ∙ ap₂ sub_ℕ (known_next t m a q true la lq) (known_next t m a q false la lq)
        ∙ sym (score-least (arikan_code t) n q)
        ∙ ih n q lq
        ∙ score-below t _ _ (λ j lj. value-known (2 ^ t) ((arikan_code t).word a) m j ∙ ap (λ c. known_value c (value (m j)) (value (m (2 ^ t + j)))) (word-is t a la j lj)) q lq
    go false f ih =
        let e : length p < 2 ^ t = leb-false (2 ^ t) (length p) f in
        score-least (arikan_code (suc t)) m p
        ∙ ap₂ sub_ℕ (free-next t m p true e) (free-next t m p false e)
        ∙ sym (score-least (arikan_code t) (free_fold (2 ^ t) m) p)
        ∙ ih (free_fold (2 ^ t) m) p e
        ∙ ap (λ z. arikan_score t z p) (fun_ext (value-free (2 ^ t) m))

-- The first round of folds: free,
pub score-free : (t : ℕ) (z : ℕ → ℤ) (p : List Bool) → length p < 2 ^ t → arikan_score (suc t) z p ≡ arikan_score t (λ j. free_value (z j) (z (2 ^ t + j))) p
unfolding arikan_score
score-free t z p l = ap
    (λ c. elim c [
      | true ↦ arikan_score t (λ j. known_value (arikan_word t (take (2 ^ t) p) j) (z j) (z (2 ^ t + j))) (drop (2 ^ t) p)
      | false ↦ arikan_score t (λ j. free_value (z j) (z (2 ^ t + j))) p
    ]) (lt-leb (2 ^ t) (length p) l)

-- or by the word of the first half.
pub score-known : (t : ℕ) (z : ℕ → ℤ) (a p : List Bool) → length a ≡ 2 ^ t
    → arikan_score (suc t) z (a ++ p) ≡ arikan_score t (λ j. known_value (arikan_word t a j) (z j) (z (2 ^ t + j))) p
unfolding arikan_score
score-known t z a p e =
    ap
    (λ c. elim c [
      | true ↦ arikan_score t (λ j. known_value (arikan_word t (take (2 ^ t) (a ++ p)) j) (z j) (z (2 ^ t + j))) (drop (2 ^ t) (a ++ p))
      | false ↦ arikan_score t (λ j. free_value (z j) (z (2 ^ t + j))) (a ++ p)
    ]) (le-leb (2 ^ t) (length (a ++ p)) (omega (arith, length-append a p)))
    ∙ ap₂ (λ (b q : List Bool). arikan_score t (λ j. known_value (arikan_word t b j) (z j) (z (2 ^ t + j))) q) (take_at a p (2 ^ t) e) (drop_at a p (2 ^ t) e)

-- One more symbol adds to the best score what its value gains.
pub best-next : (C : Code) (m : Costs) (p : List Bool) (b : Bool) → length p < C.size
    → best_score C m (p ++ (b ∷ [])) ≡ best_score C m p +ℤ gain (score C m p) b
best-next C m p b l = ap (λ x. neg_ℤ (pos x)) (penalty-next C m p b l) ∙ neg_ℤ-+ℤ (pos (least C m p)) (pos (pay (score C m p) b))
