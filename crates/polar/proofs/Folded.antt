-- The least over words of Arikan's matrix that begin with some v, by folds. Assumes nothing.
use mathlib.Core.Path.{◌≡◌, refl, sym, ap, ap₂, ◌∙◌, fun_ext}
use mathlib.Core.Bool.{Bool, true, false, not, ◌&&◌, and-false}
use mathlib.Core.List.{List, [], ◌∷◌}
use Prim.Native.Nat.{ℕ, zero, suc, ◌+◌, ◌-◌, ◌*◌, ◌/◌, ◌%◌, ◌^◌, ◌≤◌, ◌<◌, min}
use native.Mathlib.Nat.{div-add-mod', add-zero, zero-add, pow-succ', mul-one, one-mul, zero-mul, div-eq_of_lt, mod-eq_of_lt}
use native.Mathlib.Omega.{arith}
use borrow.Author.Tests.{leb-true, leb-false, le-leb, lt-leb}
use lib.Dec.{leb}
use lib.ListN.{length, take, drop, length-drop, take-append-drop}
use lib.Seq.{get_or-take, get_or-drop, length-take-le}
use Rattle.base.specs.Bit.{◌⊕◌, bit, parity, every}
use Rattle.base.proofs.Bool.{⊕-false, parity-cong, parity-append, parity-false}
use Rattle.polar.specs.Code.{Costs, sum, total, minimum, least}
use Rattle.polar.specs.Kernel.{arikan}
use Rattle.polar.specs.Fold.{free_fold, known_fold, level, folded, blocks}
use Rattle.polar.proofs.Minima.{quot, rest}
use Rattle.polar.proofs.Least.{least-cong}
use Rattle.polar.proofs.Fold.{arikan_code, least-free, least_known}

-- y has the words of q: of its known halves, and last its last bit.
abbrev pub Words : ℕ → ℕ → List Bool → (ℕ → Bool) → Type 0
Words t n q y = (j : ℕ) → j ≤ n → y j ≡ parity (suc n) (λ k. bit q k && blocks t n k j)

-- A matrix row by row, with the first h rows apart.
split-parity : (h n : ℕ) (f : ℕ → Bool) → h ≤ n → parity (suc n) f ≡ parity h f ⊕ parity (suc (n - h)) (λ k. f (h + k))
split-parity h n f l =
    let e : suc n ≡ h + suc (n - h) = omega arith in
    ap (λ m. parity m f) e ∙ parity-append h (suc (n - h)) f

none : (n : ℕ) (f : ℕ → Bool) → ((i : ℕ) → i < n → f i ≡ false) → parity n f ≡ false
none n f h = parity-cong n h ∙ parity-false n

-- The two choices in the matrix of blocks.
abbrev below : ℕ → ℕ → ℕ → ℕ → Bool → Bool
below t n k j c = elim c [ true ↦ leb (2 ^ t) j && blocks t (n - 2 ^ t) (k - 2 ^ t) (j - 2 ^ t) | false ↦ not (leb (2 ^ t) j) && arikan t k j ]

abbrev above : ℕ → ℕ → ℕ → ℕ → Bool → Bool
above t n k j c = elim c [ true ↦ below t n k j (leb (2 ^ t) k) | false ↦ blocks t n k j ]

blocks_at : (t n k j : ℕ) → blocks (suc t) n k j ≡ above t n k j (leb (2 ^ t) n)
unfolding blocks
blocks_at t n k j = refl

module _ (t n : ℕ) (l : 2 ^ t ≤ n) where
  known_at : (k j : ℕ) (c : Bool) → leb (2 ^ t) k ≡ c → blocks (suc t) n k j ≡ below t n k j c
  known_at k j c e = blocks_at t n k j ∙ ap (above t n k j) (le-leb (2 ^ t) n l) ∙ ap (below t n k j) e

  low-low : (k j : ℕ) → k < 2 ^ t → j < 2 ^ t → blocks (suc t) n k j ≡ arikan t k j
  low-low k j lk lj = known_at k j false (lt-leb (2 ^ t) k lk) ∙ ap (λ c. not c && arikan t k j) (lt-leb (2 ^ t) j lj)

  low-high : (k j : ℕ) → k < 2 ^ t → blocks (suc t) n k (2 ^ t + j) ≡ false
  low-high k j lk =
      known_at k (2 ^ t + j) false (lt-leb (2 ^ t) k lk) ∙ ap (λ c. not c && arikan t k (2 ^ t + j)) (le-leb (2 ^ t) (2 ^ t + j) (omega arith))

  high-low : (k j : ℕ) → j < 2 ^ t → blocks (suc t) n (2 ^ t + k) j ≡ false
  high-low k j lj =
      known_at (2 ^ t + k) j true (le-leb (2 ^ t) (2 ^ t + k) (omega arith))
      ∙ ap (λ c. c && blocks t (n - 2 ^ t) (2 ^ t + k - 2 ^ t) (j - 2 ^ t)) (lt-leb (2 ^ t) j lj)

  high-high : (k j : ℕ) → blocks (suc t) n (2 ^ t + k) (2 ^ t + j) ≡ blocks t (n - 2 ^ t) k j
  high-high k j =
      let a : 2 ^ t + k - 2 ^ t ≡ k = omega arith in
      let b : 2 ^ t + j - 2 ^ t ≡ j = omega arith in
      known_at (2 ^ t + k) (2 ^ t + j) true (le-leb (2 ^ t) (2 ^ t + k) (omega arith))
      ∙ ap (λ c. c && blocks t (n - 2 ^ t) (2 ^ t + k - 2 ^ t) (2 ^ t + j - 2 ^ t)) (le-leb (2 ^ t) (2 ^ t + j) (omega arith))
      ∙ ap₂ (blocks t (n - 2 ^ t)) a b

  -- The word of the first half,
  words-first : (q : List Bool) (y : ℕ → Bool) → Words (suc t) n q y → (j : ℕ) → j < 2 ^ t → y j ≡ (arikan_code t).word (take (2 ^ t) q) j
  words-first q y h j lj =
      h j (omega arith)
      ∙ split-parity (2 ^ t) n (λ k. bit q k && blocks (suc t) n k j) l
      ∙ ap₂ ◌⊕◌
      (parity-cong (2 ^ t) (λ k lk. ap₂ ◌&&◌ (sym (get_or-take (2 ^ t) q k false lk)) (low-low k j lk lj)))
      (none (suc (n - 2 ^ t)) _ (λ k _. ap (λ b. bit q (2 ^ t + k) && b) (high-low k j lj) ∙ and-false (bit q (2 ^ t + k))))
      ∙ ⊕-false ((arikan_code t).word (take (2 ^ t) q) j)

  -- and the words after it.
  words-rest : (q : List Bool) (y : ℕ → Bool) → Words (suc t) n q y → Words t (n - 2 ^ t) (drop (2 ^ t) q) (λ j. y (2 ^ t + j))
  words-rest q y h j lj =
      h (2 ^ t + j) (omega arith)
      ∙ split-parity (2 ^ t) n (λ k. bit q k && blocks (suc t) n k (2 ^ t + j)) l
      ∙ ap₂ ◌⊕◌
      (none (2 ^ t) _ (λ k lk. ap (λ b. bit q k && b) (low-high k j lk) ∙ and-false (bit q k)))
      (parity-cong (suc (n - 2 ^ t)) (λ k _. ap₂ ◌&&◌ (sym (get_or-drop (2 ^ t) q k false)) (high-high k j)))

blocks-free : (t n k j : ℕ) → n < 2 ^ t → blocks (suc t) n k j ≡ blocks t n k j
blocks-free t n k j l = blocks_at t n k j ∙ ap (above t n k j) (lt-leb (2 ^ t) n l)

-- One place: the last bit pays.
folded-last : (m : Costs) (q : List Bool) (y : ℕ → Bool) → length q ≡ 1 → Words 0 0 q y → least (arikan_code 0) m q ≡ m 0 (y 0)
unfolding least minimum total sum arikan every parity blocks
folded-last m [] y e h = absurd (omega arith)
folded-last m (b ∷ []) y e h = add-zero _ ∙ ap (m 0) (sym (h 0 (omega arith)))
folded-last m (b ∷ c ∷ q) y e h = absurd (omega arith)

-- The least over the words that begin with q, of n known v and the next, is what the words of q give by t folds.
pub least-folded : (t n : ℕ) (m : Costs) (q : List Bool) (y : ℕ → Bool) → length q ≡ suc n → n < 2 ^ t → Words t n q y
    → least (arikan_code t) m q ≡ folded t n y m 0 (y n)
unfolding folded
least-folded zero n m q y e l h = let z : n ≡ 0 = omega arith in
    folded-last m q y (rw z at e) (rw z at h) ∙ ap (λ n. m 0 (y n)) (sym z)
least-folded (suc t) n m q y e l h = go (leb (2 ^ t) n) refl (least-folded t)
  where
    rest_of : ℕ → ℕ → Costs → ℕ
    rest_of k at c = folded t k (λ j. y (at + j)) c 0 (y n)

    go : (c : Bool) → leb (2 ^ t) n ≡ c
        → ((n : ℕ) (m : Costs) (q : List Bool) (y : ℕ → Bool) → length q ≡ suc n → n < 2 ^ t → Words t n q y → least (arikan_code t) m q ≡ folded t n y m 0 (y n))
        → least (arikan_code (suc t)) m q ≡ rest_of (n % 2 ^ t) (n / 2 ^ t * 2 ^ t) (elim c [ true ↦ known_fold (2 ^ t) y m | false ↦ free_fold (2 ^ t) m ])
    go true f ih =
        let lh : 2 ^ t ≤ n = leb-true (2 ^ t) n f in
        let ln : n - 2 ^ t < 2 ^ t = omega (arith, pow-succ' 2 t) in
        let w : 2 ^ t + (n - 2 ^ t) ≡ n = omega arith in
        let one : n ≡ 2 ^ t * 1 + (n - 2 ^ t) = omega (arith, mul-one (2 ^ t)) in
        let lr : length (drop (2 ^ t) q) ≡ suc (n - 2 ^ t) = length-drop (2 ^ t) q ∙ omega arith in
        let er : n - 2 ^ t ≡ n % 2 ^ t = sym (ap (λ x. x % 2 ^ t) one ∙ rest (2 ^ t) 1 (n - 2 ^ t) ln) in
        let eq : 2 ^ t ≡ n / 2 ^ t * 2 ^ t = sym (ap (λ x. x * 2 ^ t) (ap (λ x. x / 2 ^ t) one ∙ quot (2 ^ t) 1 (n - 2 ^ t) ln) ∙ one-mul (2 ^ t)) in
        ap (least (arikan_code (suc t)) m) (sym (take-append-drop (2 ^ t) q))
        ∙ least_known t m (take (2 ^ t) q) (drop (2 ^ t) q) (length-take-le (2 ^ t) q (omega arith)) (omega arith)
        ∙ least-cong (arikan_code t) (λ j lj b. ap (λ c. m j (c ⊕ b) + m (2 ^ t + j) b) (sym (words-first t n lh q y h j lj))) (drop (2 ^ t) q)
        ∙ ih (n - 2 ^ t) (known_fold (2 ^ t) y m) (drop (2 ^ t) q) (λ j. y (2 ^ t + j)) lr ln (words-rest t n lh q y h)
        ∙ ap (λ k. folded t (n - 2 ^ t) (λ j. y (2 ^ t + j)) (known_fold (2 ^ t) y m) 0 (y k)) w
        ∙ ap₂ (λ k at. rest_of k at (known_fold (2 ^ t) y m)) er eq
    go false f ih =
        let ln : n < 2 ^ t = leb-false (2 ^ t) n f in
        let eq : 0 ≡ n / 2 ^ t * 2 ^ t = sym (ap (λ x. x * 2 ^ t) (div-eq_of_lt ln) ∙ zero-mul (2 ^ t)) in
        least-free t m q (omega arith)
        ∙ ih n (free_fold (2 ^ t) m) q y e ln
        (λ j lj. h j lj ∙ parity-cong (suc n) (λ k _. ap (λ b. bit q k && b) (blocks-free t n k j ln)))
        ∙ ap (λ (z : ℕ → Bool). folded t n z (free_fold (2 ^ t) m) 0 (y n)) (fun_ext (λ j. ap y (sym (zero-add j))))
        ∙ ap₂ (λ k at. rest_of k at (free_fold (2 ^ t) m)) (sym (mod-eq_of_lt ln)) eq

-- Only the costs of the places count,
pub folded-costs : (t n : ℕ) (y : ℕ → Bool) {m m' : Costs} → ((j : ℕ) → j < 2 ^ t → (b : Bool) → m j b ≡ m' j b) → (b : Bool) → folded t n y m 0 b ≡ folded t n y m' 0 b
unfolding folded
folded-costs zero n y h b = h 0 (omega arith) b
folded-costs (suc t) n y {m} {m'} h b = folded-costs t (n % 2 ^ t) (λ j. y (n / 2 ^ t * 2 ^ t + j)) (λ j l c. same (leb (2 ^ t) n) j l c) b
  where
    both : (j : ℕ) → j < 2 ^ t → (c : Bool) → (m j c ≡ m' j c) × (m (2 ^ t + j) c ≡ m' (2 ^ t + j) c)
    both j l c = (h j (omega (arith, pow-succ' 2 t)) c, h (2 ^ t + j) (omega (arith, pow-succ' 2 t)) c)

    same : (k : Bool) (j : ℕ) → j < 2 ^ t → (c : Bool)
        → (elim k as (λ _. Costs) [ true ↦ known_fold (2 ^ t) y m | false ↦ free_fold (2 ^ t) m ]) j c
        ≡ (elim k as (λ _. Costs) [ true ↦ known_fold (2 ^ t) y m' | false ↦ free_fold (2 ^ t) m' ]) j c
    same true j l c = ap₂ ◌+◌ (both j l (y j ⊕ c)).0 (both j l c).1
    same false j l c =
        ap₂ min (ap₂ ◌+◌ (both j l c).0 (both j l false).1) (ap₂ ◌+◌ (both j l (not c)).0 (both j l true).1)

-- and only the words of known v.
pub folded-words : (t n : ℕ) {y z : ℕ → Bool} → ((j : ℕ) → j < n → y j ≡ z j) → (m : Costs) (b : Bool) → folded t n y m 0 b ≡ folded t n z m 0 b
unfolding folded
folded-words zero n h m b = refl
folded-words (suc t) n {y} {z} h m b =
    folded-costs t (n % 2 ^ t) (λ j. y (n / 2 ^ t * 2 ^ t + j)) (λ j l c. same (leb (2 ^ t) n) refl j l c) b
    ∙ folded-words t (n % 2 ^ t) (λ j l. h (n / 2 ^ t * 2 ^ t + j) (omega (arith, div-add-mod' n (2 ^ t)))) (level (2 ^ t) n z m) b
  where
    same : (k : Bool) → leb (2 ^ t) n ≡ k → (j : ℕ) → j < 2 ^ t → (c : Bool)
        → (elim k as (λ _. Costs) [ true ↦ known_fold (2 ^ t) y m | false ↦ free_fold (2 ^ t) m ]) j c
        ≡ (elim k as (λ _. Costs) [ true ↦ known_fold (2 ^ t) z m | false ↦ free_fold (2 ^ t) m ]) j c
    same true e j l c = ap (λ x. m j (x ⊕ c) + m (2 ^ t + j) c) (h j (omega (arith, leb-true (2 ^ t) n e)))
    same false e j l c = refl
