-- Laws of the scores, the penalties and the decoder's symbols of a whole list. Assumes nothing.
use mathlib.Core.Path.{◌≡◌, refl, sym, ap, ap₂, ◌∙◌}
use mathlib.Core.Bool.{Bool, true, false}
use mathlib.Core.List.{List, [], ◌∷◌, ◌++◌}
use Prim.Native.Nat.{ℕ, zero, suc, ◌+◌, ◌≤◌, ◌<◌}
use native.Mathlib.Nat.{add-zero, zero-add}
use native.Mathlib.Numerals.{add-one}
use native.Mathlib.Decide.{dec_lt}
use native.Mathlib.Omega.{arith}
use lib.ListN.{length, get_or, take, length-append}
use lib.Seq.{take-suc, take-take, take_all, take-append-le, take-append_seam, get_or-append_seam, get_or-take, length-take-le}
use lib.Dec.{ltb→lt}
use lib.IntN.{ℤ, pos, negsuc, sub_ℕ}
use lib.Signed.{◌≤ℤ◌, ◌<ℤ◌}
use Rattle.base.specs.Bit.{bit, tabulate}
use Rattle.base.proofs.List.{length-tabulate, tabulate-at, tabulate-cong, tabulate-next}
use Rattle.polar.specs.Code.{Code, Costs, pay, sum, least, score}
use Rattle.polar.specs.Follow.{scores, penalties, choose, decode_from, decode}
use Rattle.polar.proofs.Minima.{sum-next}
use Rattle.polar.proofs.Least.{least-cong, score-least}
use Rattle.polar.proofs.Values.{penalty-next}

snoc-length : (q : List Bool) (b : Bool) → length (q ++ (b ∷ [])) ≡ suc (length q)
snoc-length q b = length-append q (b ∷ []) ∙ add-one (length q)

-- One more symbol: one more score.
pub scores-next : (C : Code) (m : Costs) (q : List Bool) (b : Bool) → scores C m (q ++ (b ∷ [])) ≡ scores C m q ++ (score C m q ∷ [])
unfolding scores
scores-next C m q b =
    ap (λ n. tabulate n (λ i. score C m (take i (q ++ (b ∷ []))))) (snoc-length q b)
    ∙ tabulate-next (length q) (λ i. score C m (take i (q ++ (b ∷ [])))) (λ i. score C m (take i q))
    (λ i l. ap (score C m) (take-append-le i q (b ∷ []) (omega arith)))
    ∙ ap (λ s. tabulate (length q) (λ i. score C m (take i q)) ++ (score C m s ∷ [])) (take-append_seam q (b ∷ []))

pub scores-at : (C : Code) (m : Costs) (u : List Bool) (i : ℕ) (d : ℤ) → i < length u → get_or (scores C m u) i d ≡ score C m (take i u)
unfolding scores
scores-at C m u i d l = tabulate-at (length u) (λ i. score C m (take i u)) i d l

pub penalties-at : (C : Code) (m : Costs) (u : List Bool) (i d : ℕ) → i < length u → get_or (penalties C m u) i d ≡ least C m (take (suc i) u)
unfolding penalties
penalties-at C m u i d l = tabulate-at (length u) (λ i. least C m (take (suc i) u)) i d l

pub length-scores : (C : Code) (m : Costs) (u : List Bool) → length (scores C m u) ≡ length u
unfolding scores
length-scores C m u = length-tabulate (length u) _

pub length-penalties : (C : Code) (m : Costs) (u : List Bool) → length (penalties C m u) ≡ length u
unfolding penalties
length-penalties C m u = length-tabulate (length u) _

-- Costs that agree at the code's places give the same scores.
pub scores-cong : (C : Code) {m m' : Costs} → ((i : ℕ) → i < C.places → (b : Bool) → m i b ≡ m' i b) → (u : List Bool) → scores C m u ≡ scores C m' u
unfolding scores
scores-cong C {m} {m'} h u =
    tabulate-cong (length u) (λ i _.
    let p = take i u in
    score-least C m p
    ∙ ap₂ sub_ℕ (least-cong C h (p ++ (true ∷ []))) (least-cong C h (p ++ (false ∷ [])))
    ∙ sym (score-least C m' p))

-- The running penalty: each phase adds what its score pays for its symbol.
pub penalty-runs : (C : Code) (m : Costs) (u : List Bool) (i : ℕ) → i < length u → length u ≤ C.size
    → least C m (take (suc i) u) ≡ least C m (take i u) + pay (score C m (take i u)) (bit u i)
penalty-runs C m u i l lu =
    ap (least C m) (take-suc u i false l)
    ∙ penalty-next C m (take i u) (bit u i) (omega (arith, length-take-le i u (omega arith)))

-- So the penalty of the first n symbols is the sum of what their phases pay, where nothing is paid before the first.
pub penalty-sum : (C : Code) (m : Costs) → least C m [] ≡ 0 → (u : List Bool) → length u ≤ C.size → (n : ℕ) → n ≤ length u
    → least C m (take n u) ≡ sum n (λ i. pay (score C m (take i u)) (bit u i))
unfolding sum
penalty-sum C m none u lu zero l = none
penalty-sum C m none u lu (suc n) l =
    let f : ℕ → ℕ = λ i. pay (score C m (take i u)) (bit u i) in
    penalty-runs C m u n l lu ∙ ap (λ x. x + f n) (penalty-sum C m none u lu n (omega arith)) ∙ sym (sum-next n f) ∙ ap (λ k. sum k f) (add-one n)

-- ---- the decoder

-- The decoder's rule in the paper's words: at a marked phase 0 where the score is 0 or more,
pub choose-zero : (s : ℤ) → pos 0 ≤ℤ s → choose true s ≡ false
choose-zero (pos y) h = refl
choose-zero (negsuc y) h = absurd h.le

-- else 1;
pub choose_one : (s : ℤ) → s <ℤ pos 0 → choose true s ≡ true
choose_one (pos y) h = absurd (omega (arith, ltb→lt y 0 h.lt))
choose_one (negsuc y) h = refl

-- at any other phase 0.
pub choose-frozen : (s : ℤ) → choose false s ≡ false
choose-frozen s = refl

pub length-decode_from : (C : Code) (m : Costs) (mask : ℕ → Bool) (k : ℕ) (q : List Bool) → length (decode_from C m mask k q) ≡ length q + k
unfolding decode_from
length-decode_from C m mask zero q = sym (add-zero (length q))
length-decode_from C m mask (suc k) q = length-decode_from C m mask k _ ∙ rw length-append (omega arith)

pub length-decode : (C : Code) (m : Costs) (mask : ℕ → Bool) → length (decode C m mask) ≡ C.size
unfolding decode
length-decode C m mask = length-decode_from C m mask C.size [] ∙ zero-add C.size

-- What was chosen stays.
decode-keeps : (C : Code) (m : Costs) (mask : ℕ → Bool) (k : ℕ) (q : List Bool) → take (length q) (decode_from C m mask k q) ≡ q
unfolding decode_from
decode-keeps C m mask zero q = take_all (length q) q (omega arith)
decode-keeps C m mask (suc k) q =
    let b = choose (mask (length q)) (score C m q) in
    let ih = decode-keeps C m mask k (q ++ (b ∷ [])) in
    sym (take-take (length q) (length (q ++ (b ∷ []))) _ (omega (arith, snoc-length q b)))
    ∙ ap (take (length q)) ih ∙ take-append_seam q (b ∷ [])

decode-from-at : (C : Code) (m : Costs) (mask : ℕ → Bool) (k : ℕ) (q : List Bool) (i : ℕ) → length q ≤ i → i < length q + k
    → bit (decode_from C m mask k q) i ≡ choose (mask i) (score C m (take i (decode_from C m mask k q)))
unfolding decode_from
decode-from-at C m mask zero q i lo hi = absurd (omega arith)
decode-from-at C m mask (suc k) q i lo hi = go (dec_lt (length q) i) (λ h. decode-from-at C m mask k (q ++ (b ∷ [])) i (omega (arith, snoc-length q b)) (omega (arith, snoc-length q b)))
  where
    b : Bool
    b = choose (mask (length q)) (score C m q)

    D : List Bool
    D = decode_from C m mask k (q ++ (b ∷ []))

    go : Dec (length q < i) → (length q < i → bit D i ≡ choose (mask i) (score C m (take i D))) → bit D i ≡ choose (mask i) (score C m (take i D))
    go (yes h) ih = ih h
    go (no h) ih =
        let e : i ≡ length q = omega arith in
        let n : suc (length q) ≡ length (q ++ (b ∷ [])) = sym (snoc-length q b) in
        let w : take (suc (length q)) D ≡ q ++ (b ∷ []) = ap (λ n. take n D) n ∙ decode-keeps C m mask k (q ++ (b ∷ [])) in
        let z : take (length q) D ≡ q =
        sym (take-take (length q) (suc (length q)) D (omega arith)) ∙ ap (take (length q)) w ∙ take-append_seam q (b ∷ []) in
        rw e
        (sym (get_or-take (suc (length q)) D (length q) false (omega arith))
        ∙ ap (λ l. bit l (length q)) w ∙ get_or-append_seam q b [] false
        ∙ ap (λ s. choose (mask (length q)) (score C m s)) (sym z))

-- At each phase the decoder's symbol is chosen by the score that belongs to the symbols before it.
pub decode-at : (C : Code) (m : Costs) (mask : ℕ → Bool) (i : ℕ) → i < C.size
    → bit (decode C m mask) i ≡ choose (mask i) (score C m (take i (decode C m mask)))
unfolding decode
decode-at C m mask i l = decode-from-at C m mask C.size [] i (omega arith) (omega arith)

decode-from-only : (C : Code) (m : Costs) (mask : ℕ → Bool) (u : List Bool)
    → ((i : ℕ) → i < length u → bit u i ≡ choose (mask i) (score C m (take i u)))
    → (n k : ℕ) → k + n ≡ length u → decode_from C m mask n (take k u) ≡ u
unfolding decode_from
decode-from-only C m mask u h zero k e = take_all k u (omega arith)
decode-from-only C m mask u h (suc n) k e =
    let lk : length (take k u) ≡ k = length-take-le k u (omega arith) in
    ap (λ b. decode_from C m mask n (take k u ++ (b ∷ [])))
    (ap (λ i. choose (mask i) (score C m (take k u))) lk ∙ sym (h k (omega arith)))
    ∙ ap (decode_from C m mask n) (sym (take-suc u k false (omega arith)))
    ∙ decode-from-only C m mask u h n (suc k) (omega arith)

-- And that rule fixes the decoder's symbols.
pub decode-only : (C : Code) (m : Costs) (mask : ℕ → Bool) (u : List Bool) → length u ≡ C.size
    → ((i : ℕ) → i < C.size → bit u i ≡ choose (mask i) (score C m (take i u))) → u ≡ decode C m mask
unfolding decode
decode-only C m mask u e h =
    sym (ap (λ n. decode_from C m mask n []) (sym e) ∙ decode-from-only C m mask u (λ i l. h i (rw (← e) l)) (length u) zero (zero-add (length u)))
