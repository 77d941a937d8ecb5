-- Folding Arikan's matrix: the least over words of 2 ^ (t + 1) places, by costs of half as many. Assumes nothing.
use mathlib.Core.Path.{◌≡◌, refl, sym, ap, ap₂, ◌∙◌}
use mathlib.Core.Bool.{Bool, true, false, not, ◌&&◌, ◌||◌, and_assoc, and-true, and-false}
use mathlib.Core.List.{List, [], ◌∷◌, ◌++◌}
use Prim.Native.Nat.{ℕ, zero, suc, ◌+◌, ◌-◌, ◌*◌, ◌/◌, ◌%◌, ◌^◌, ◌≤◌, ◌<◌, min}
use native.Mathlib.Nat.{pow-succ', zero-mul, one-mul, mul-one, zero-add, mul-zero, div-one}
use native.Mathlib.Numerals.{add-one}
use native.Mathlib.Decide.{dec_lt}
use native.Mathlib.Omega.{arith}
use lib.Dec.{eqb}
use lib.ListN.{length, take, length-append, get_or-append}
use lib.Seq.{get_or-append-add, take_all}
use lib.Pow.{field, mod-mod-pow}
use Rattle.base.specs.Bit.{◌⊕◌, odd, bit, parity, every}
use Rattle.base.proofs.Bool.{⊕-false, parity-cong, parity-blocks, parity-and}
use Rattle.polar.specs.Code.{Code, Costs, sum, total, minimum, least, Onto}
use Rattle.polar.specs.Kernel.{arikan, matrix}
use Rattle.polar.specs.Stages.{rows, staged, block, pairs}
use Rattle.polar.specs.Fold.{free_fold, known_fold}
use Rattle.polar.proofs.Minima.{minimum-cong, sum-cong, sum-blocks, sum-add, quot, rest}
use Rattle.polar.proofs.Least.{least-cong}
use Rattle.polar.proofs.Layer.{layer}
use Rattle.polar.proofs.Frame.{stages}

-- Words of 2 ^ t bits: v times Arikan's matrix.
abbrev pub arikan_code : ℕ → Code
arikan_code t = matrix (2 ^ t) (2 ^ t) (arikan t)

every-last : (n : ℕ) (f : ℕ → Bool) → every (suc n) f ≡ every n f && f n
unfolding every
every-last zero f = and-true (f zero)
every-last (suc n) f = ap (λ b. f zero && b) (every-last n (λ i. f (suc i))) ∙ sym (and_assoc (f zero) _ _)

every-cong : (n : ℕ) {f g : ℕ → Bool} → ((i : ℕ) → i < n → f i ≡ g i) → every n f ≡ every n g
unfolding every
every-cong zero h = refl
every-cong (suc n) h = ap₂ ◌&&◌ (h zero (omega arith)) (every-cong n (λ i l. h (suc i) (omega arith)))

-- A low bit of a number does not depend on what stands above.
odd_low : (t b r s : ℕ) → b < t → s < 2 ^ t → odd ((2 ^ t * r + s) / 2 ^ b) ≡ odd (s / 2 ^ b)
odd_low t b r s l ls = go (t - suc b) (omega arith)
  where
    x : ℕ
    x = 2 ^ t * r + s

    go : (n : ℕ) → t ≡ suc n + b → odd (x / 2 ^ b) ≡ odd (s / 2 ^ b)
    go n e =
        sym
        (ap (λ y. odd (y / 2 ^ b)) (sym (rest (2 ^ t) r s ls) ∙ ap (λ k. x % 2 ^ k) e)
        ∙ ap odd (field x (suc n) b ∙ ap (λ k. x / 2 ^ b % 2 ^ k) (sym (add-one n)))
        ∙ ap (λ y. eqb y 1) (mod-mod-pow (x / 2 ^ b) n 1))

odd-high : (t r s : ℕ) → s < 2 ^ t → odd ((2 ^ t * r + s) / 2 ^ t) ≡ odd r
odd-high t r s ls = ap odd (quot (2 ^ t) r s ls)

every_one : (f : ℕ → Bool) → every 1 f ≡ f 0
unfolding every
every_one f = and-true (f 0)

-- The highest digits of row and column, apart.
arikan-digit : (t r s c j : ℕ) → s < 2 ^ t → j < 2 ^ t → arikan (suc t) (2 ^ t * r + s) (2 ^ t * c + j) ≡ arikan t s j && arikan 1 r c
unfolding arikan
arikan-digit t r s c j ls lj =
    every-last t (λ b. not (odd ((2 ^ t * c + j) / 2 ^ b)) || odd ((2 ^ t * r + s) / 2 ^ b))
    ∙ ap₂ ◌&&◌
    (every-cong t (λ b l. ap₂ (λ x y. not x || y) (odd_low t b c j l lj) (odd_low t b r s l ls)))
    (ap₂ (λ x y. not x || y) (odd-high t c j lj) (odd-high t r s ls)
    ∙ sym (every_one (λ b. not (odd (c / 2 ^ b)) || odd (r / 2 ^ b)) ∙ ap₂ (λ x y. not (odd x) || odd y) (div-one c) (div-one r)))

-- The places of a word of two halves in the order of the stages: c and j of place 2 ^ t * c + j exchanged.
abbrev shuffle : ℕ → Costs → Costs
shuffle h m p = m (h * (p % 2) + p / 2)

-- The outer code of a fold: (x, y) to (x + y, y).
abbrev both : Code
both = matrix 2 2 (arikan 1)

-- Bit c of half j by the stages.
word-half : (t : ℕ) (u : List Bool) (c j : ℕ) → c < 2 → j < 2 ^ t
    → (arikan_code (suc t)).word u (2 ^ t * c + j) ≡ (staged (arikan_code t) both).word u (2 * j + c)
word-half t u c j lc lj =
    let h : ℕ = 2 ^ t in
    ap (λ n. parity n (λ i. bit u i && arikan (suc t) i (h * c + j))) (pow-succ' 2 t)
    ∙ parity-blocks 2 h (λ i. bit u i && arikan (suc t) i (h * c + j))
    ∙ parity-cong 2 (λ r _. parity-cong h (λ s ls.
    ap (λ b. bit u (h * r + s) && b) (arikan-digit t r s c j ls lj) ∙ sym (and_assoc (bit u (h * r + s)) (arikan t s j) (arikan 1 r c))))
    ∙ ap₂ (λ q d. parity 2 (λ r. parity h (λ s. bit u (h * r + s) && arikan t s q && arikan 1 r d))) (sym (quot 2 j c lc)) (sym (rest 2 j c lc))
    ∙ sym (stages h h 2 2 (arikan t) (arikan 1) u (2 * j + c))

sum-two : (f : ℕ → ℕ) → sum 2 f ≡ f 0 + f 1
unfolding sum
sum-two f = omega arith

-- The total of a word in the order of the stages.
total-shuffle : (t : ℕ) (m : Costs) (u : List Bool) → total (arikan_code (suc t)) m u ≡ total (staged (arikan_code t) both) (shuffle (2 ^ t) m) u
unfolding total
total-shuffle t m u =
    let h : ℕ = 2 ^ t in
    let w = (arikan_code (suc t)).word u in
    ap (λ n. sum n (λ i. m i (w i))) (pow-succ' 2 t)
    ∙ sum-blocks 2 h (λ i. m i (w i))
    ∙ sum-two (λ c. sum h (λ j. m (h * c + j) (w (h * c + j))))
    ∙ sym (sum-add h (λ j. m (h * 0 + j) (w (h * 0 + j))) (λ j. m (h * 1 + j) (w (h * 1 + j))))
    ∙ sum-cong h (λ j lj. sym (sum-two (λ c. m (h * c + j) (w (h * c + j))))
    ∙ sum-cong 2 (λ c lc. ap₂ m (ap₂ (λ d q. h * d + q) (sym (rest 2 j c lc)) (sym (quot 2 j c lc))) (word-half t u c j lc lj)))
    ∙ sym (sum-blocks h 2 (λ p. shuffle h m p ((staged (arikan_code t) both).word u p)))

least-shuffle : (t : ℕ) (m : Costs) (p : List Bool) → least (arikan_code (suc t)) m p ≡ least (staged (arikan_code t) both) (shuffle (2 ^ t) m) p
unfolding least
least-shuffle t m p =
    ap (λ n. minimum (n - length p) (λ s. total (arikan_code (suc t)) m (p ++ s))) (pow-succ' 2 t)
    ∙ minimum-cong _ (λ s _. total-shuffle t m (p ++ s))

-- ---- words of two halves

-- Bits and symbols of two halves.
bit-low : (a b : List Bool) (h s : ℕ) → length a ≡ h → s < h → bit (a ++ b) (h * 0 + s) ≡ bit a s
bit-low a b h s e l = ap (bit (a ++ b)) (ap (λ n. n + s) (mul-zero h) ∙ zero-add s) ∙ get_or-append a b false s (rw e l)

bit_high : (a b : List Bool) (h s : ℕ) → length a ≡ h → bit (a ++ b) (h * 1 + s) ≡ bit b s
bit_high a b h s e = ap (λ n. bit (a ++ b) (n + s)) (mul-one h ∙ sym e) ∙ get_or-append-add a b s false

parity-two : (f : ℕ → Bool) → parity 2 f ≡ f 0 ⊕ f 1
unfolding parity
parity-two f = ap (λ b. f 0 ⊕ b) (⊕-false (f 1))

word-halves : (t : ℕ) (a b : List Bool) → length a ≡ 2 ^ t → (c j : ℕ) → c < 2 → j < 2 ^ t
    → (arikan_code (suc t)).word (a ++ b) (2 ^ t * c + j)
    ≡ ((arikan_code t).word a j && arikan 1 0 c) ⊕ ((arikan_code t).word b j && arikan 1 1 c)
word-halves t a b e c j lc lj =
    let h : ℕ = 2 ^ t in
    word-half t (a ++ b) c j lc lj
    ∙ stages h h 2 2 (arikan t) (arikan 1) (a ++ b) (2 * j + c)
    ∙ ap₂ (λ q d. parity 2 (λ r. parity h (λ s. bit (a ++ b) (h * r + s) && arikan t s q && arikan 1 r d))) (quot 2 j c lc) (rest 2 j c lc)
    ∙ parity-two (λ r. parity h (λ s. bit (a ++ b) (h * r + s) && arikan t s j && arikan 1 r c))
    ∙ ap₂ ◌⊕◌
    (parity-cong h (λ s ls. ap (λ x. x && arikan t s j && arikan 1 0 c) (bit-low a b h s e ls)) ∙ sym (parity-and h (λ s. bit a s && arikan t s j) (arikan 1 0 c)))
    (parity-cong h (λ s ls. ap (λ x. x && arikan t s j && arikan 1 1 c) (bit_high a b h s e)) ∙ sym (parity-and h (λ s. bit b s && arikan t s j) (arikan 1 1 c)))

-- The first half of a word is the sum of the halves' words,
pub word_low : (t : ℕ) (a b : List Bool) → length a ≡ 2 ^ t → (j : ℕ) → j < 2 ^ t
    → (arikan_code (suc t)).word (a ++ b) j ≡ (arikan_code t).word a j ⊕ (arikan_code t).word b j
unfolding arikan every
word_low t a b e j lj =
    ap ((arikan_code (suc t)).word (a ++ b)) (sym (ap (λ n. n + j) (mul-zero (2 ^ t)) ∙ zero-add j))
    ∙ word-halves t a b e 0 j (omega arith) lj
    ∙ ap₂ ◌⊕◌ (and-true ((arikan_code t).word a j)) (and-true ((arikan_code t).word b j))

-- and the second half that of the second.
pub word-high : (t : ℕ) (a b : List Bool) → length a ≡ 2 ^ t → (j : ℕ) → j < 2 ^ t
    → (arikan_code (suc t)).word (a ++ b) (2 ^ t + j) ≡ (arikan_code t).word b j
unfolding arikan every
word-high t a b e j lj =
    ap (λ n. (arikan_code (suc t)).word (a ++ b) (n + j)) (sym (mul-one (2 ^ t)))
    ∙ word-halves t a b e 1 j (omega arith) lj
    ∙ ap₂ ◌⊕◌ (and-false ((arikan_code t).word a j)) (and-true ((arikan_code t).word b j))

first_word : (x : ℕ → Bool) → (arikan_code 0).word (x 0 ∷ []) 0 ≡ x 0
unfolding arikan every parity
first_word x = ⊕-false (x 0 && true) ∙ and-true (x 0)

⊕-undo : (a b : Bool) → a ⊕ b ⊕ b ≡ a
⊕-undo false b = ⊕-cancel b
  where
    ⊕-cancel : (b : Bool) → b ⊕ b ≡ false
    ⊕-cancel false = refl
    ⊕-cancel true = refl
⊕-undo true false = refl
⊕-undo true true = refl

-- A word whose halves are made of the sums of x.
half-by : (t : ℕ) (x : ℕ → Bool) (a b : List Bool) → length a ≡ 2 ^ t
    → ((j : ℕ) → j < 2 ^ t → (arikan_code t).word a j ≡ x j ⊕ x (2 ^ t + j)) → ((j : ℕ) → j < 2 ^ t → (arikan_code t).word b j ≡ x (2 ^ t + j))
    → (i : ℕ) → i < 2 ^ suc t → Dec (i < 2 ^ t) → (arikan_code (suc t)).word (a ++ b) i ≡ x i
half-by t x a b e p q i l (yes h) = word_low t a b e i h ∙ ap₂ ◌⊕◌ (p i h) (q i h) ∙ ⊕-undo (x i) (x (2 ^ t + i))
half-by t x a b e p q i l (no h) =
    let f : 2 ^ t + (i - 2 ^ t) ≡ i = omega arith in
    let lj : i - 2 ^ t < 2 ^ t = omega (arith, pow-succ' 2 t) in
    ap ((arikan_code (suc t)).word (a ++ b)) (sym f) ∙ word-high t a b e (i - 2 ^ t) lj ∙ q (i - 2 ^ t) lj ∙ ap x f

-- Every word of 2 ^ t bits is v times Arikan's matrix for some v.
pub arikan-onto : (t : ℕ) → Onto (arikan_code t)
arikan-onto zero x = (x 0 ∷ [], refl, λ i l. one i (omega arith))
  where
    one : (i : ℕ) → i ≡ 0 → (arikan_code 0).word (x 0 ∷ []) i ≡ x i
    one i e = rw e (first_word x)
arikan-onto (suc t) x = go (arikan-onto t (λ j. x j ⊕ x (2 ^ t + j))) (arikan-onto t (λ j. x (2 ^ t + j)))
  where
    go : (a : List Bool) × (length a ≡ 2 ^ t) × ((j : ℕ) → j < 2 ^ t → (arikan_code t).word a j ≡ x j ⊕ x (2 ^ t + j))
        → (b : List Bool) × (length b ≡ 2 ^ t) × ((j : ℕ) → j < 2 ^ t → (arikan_code t).word b j ≡ x (2 ^ t + j))
        → (u : List Bool) × (length u ≡ 2 ^ suc t) × ((i : ℕ) → i < 2 ^ suc t → (arikan_code (suc t)).word u i ≡ x i)
    go a b = (
      a.0 ++ b.0,
      length-append a.0 b.0 ∙ omega (arith, a.1, b.1, pow-succ' 2 t),
      λ i l. half-by t x a.0 b.0 a.1 a.2 b.2 i l (dec_lt i (2 ^ t)),
    )

-- ---- the two folds

both_word : (x y : Bool) → (both.word (x ∷ y ∷ []) 0 ≡ x ⊕ y) × (both.word (x ∷ y ∷ []) 1 ≡ y)
unfolding arikan every parity
both_word false false = (refl, refl)
both_word false true = (refl, refl)
both_word true false = (refl, refl)
both_word true true = (refl, refl)

total-both : (m : Costs) (x y : Bool) → total both m (x ∷ y ∷ []) ≡ m 0 (x ⊕ y) + m 1 y
unfolding total
total-both m x y =
    sum-two (λ i. m i (both.word (x ∷ y ∷ []) i)) ∙ ap₂ (λ a b. m 0 a + m 1 b) (both_word x y).0 (both_word x y).1

least-one : (m : Costs) (x : Bool) → least both m (x ∷ []) ≡ min (m 0 x + m 1 false) (m 0 (not x) + m 1 true)
unfolding least minimum
least-one m x = ap₂ min (total-both m x false ∙ ap (λ b. m 0 b + m 1 false) (⊕-false x)) (total-both m x true ∙ ap (λ b. m 0 b + m 1 true) (⊕-true x))
  where
    ⊕-true : (x : Bool) → x ⊕ true ≡ not x
    ⊕-true false = refl
    ⊕-true true = refl

least-two : (m : Costs) (x y : Bool) → least both m (x ∷ y ∷ []) ≡ m 0 (x ⊕ y) + m 1 y
unfolding least minimum
least-two m x y = total-both m x y

-- The costs of block j in the order of the stages.
shuffle-at : (h : ℕ) (m : Costs) (j c : ℕ) → c < 2 → shuffle h m (2 * j + c) ≡ m (h * c + j)
shuffle-at h m j c l = ap₂ (λ d q. m (h * d + q)) (rest 2 j c l) (quot 2 j c l)

block-low : (h : ℕ) (m : Costs) (j : ℕ) → block 2 (shuffle h m) j 0 ≡ m j
block-low h m j = shuffle-at h m j 0 (omega arith) ∙ ap m (ap (λ n. n + j) (mul-zero h) ∙ zero-add j)

block-high : (h : ℕ) (m : Costs) (j : ℕ) → block 2 (shuffle h m) j 1 ≡ m (h + j)
block-high h m j = shuffle-at h m j 1 (omega arith) ∙ ap (λ n. m (n + j)) (mul-one h)

-- Symbols within the first half: the second half is free.
pub least-free : (t : ℕ) (m : Costs) (p : List Bool) → length p ≤ 2 ^ t
    → least (arikan_code (suc t)) m p ≡ least (arikan_code t) (free_fold (2 ^ t) m) p
unfolding pairs rows
least-free t m p l =
    least-shuffle t m p
    ∙ layer (arikan_code t) (arikan-onto t) both (shuffle (2 ^ t) m) 0 [] p (sym (zero-mul (2 ^ t))) (omega arith) l
    ∙ least-cong (arikan_code t) (λ j _ b.
    least-one (block 2 (shuffle (2 ^ t) m) j) b
    ∙ ap₂ (λ (f g : Bool → ℕ). min (f b + g false) (f (not b) + g true)) (block-low (2 ^ t) m j) (block-high (2 ^ t) m j)) p

-- The first half known: only the second is left.
pub least_known : (t : ℕ) (m : Costs) (v q : List Bool) → length v ≡ 2 ^ t → length q ≤ 2 ^ t
    → least (arikan_code (suc t)) m (v ++ q) ≡ least (arikan_code t) (known_fold (2 ^ t) ((arikan_code t).word v) m) q
unfolding pairs rows
least_known t m v q e l =
    least-shuffle t m (v ++ q)
    ∙ layer (arikan_code t) (arikan-onto t) both (shuffle (2 ^ t) m) 1 v q (e ∙ sym (one-mul (2 ^ t))) (omega arith) l
    ∙ least-cong (arikan_code t) (λ j _ b.
    least-two (block 2 (shuffle (2 ^ t) m) j) ((arikan_code t).word (take (2 ^ t) v) j) b
    ∙ ap₂ (λ (f g : Bool → ℕ). f ((arikan_code t).word (take (2 ^ t) v) j ⊕ b) + g b) (block-low (2 ^ t) m j) (block-high (2 ^ t) m j)
    ∙ ap (λ w. m j ((arikan_code t).word w j ⊕ b) + m (2 ^ t + j) b) (take_all (2 ^ t) v (omega arith))) q
