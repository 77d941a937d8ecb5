-- Laws of counting marks, spreading a payload over the marked phases and gathering it again. Assumes nothing.
use mathlib.Core.Path.{◌≡◌, refl, sym, ap, ap₂, ◌∙◌}
use mathlib.Core.Bool.{Bool, true, false, false≢true}
use mathlib.Core.List.{List, [], ◌∷◌, ◌++◌}
use mathlib.Core.Logic.{◌⊎◌, inl, inr}
use Prim.Native.Nat.{ℕ, zero, suc, ◌+◌, ◌*◌, ◌/◌, ◌%◌, ◌^◌, ◌≤◌, ◌<◌}
use native.Mathlib.Nat.{mod-lt, le_antisymm, lt_of_not-le, le_of_suc-le-suc}
use native.Mathlib.Numerals.{one-add}
use native.Mathlib.Omega.{arith}
use mir.Syntax.{w8}
use mir.Val.{Fits}
use Rattle.std.specs.List.{sum_by}
use Rattle.std.proofs.lemmas.List.Sums.{sum_by-cons}
use lib.Count
use lib.Count.{ones_cat}
use lib.ListN.{length, get_or, drop}
use lib.Pow.{pow_pos, split, shr_lt}
use lib.Seq.{drop-nil}
use Rattle.base.specs.Bit.{bit, odd, digit}
use Rattle.bits.specs.Packed.{bits, unpack, pad, pack}
use Rattle.payload.specs.Payload.{ones, spread, gather, frozen_one}
use Rattle.bits.proofs.Packed.{bits-mod, length-unpack, unpack-next, unpack-pack, packed}

-- ---- counting

-- A bit more counts as its number.
pub ones-cons : (b : Bool) (l : List Bool) → ones (b ∷ l) ≡ digit b + ones l
unfolding ones
ones-cons true l = omega arith
ones-cons false l = omega arith

-- The counts of two parts add up.
pub ones-append : (l m : List Bool) → ones (l ++ m) ≡ ones l + ones m
unfolding ones
ones-append [] m = omega arith
ones-append (true ∷ l) m = omega (arith, ones-append l m)
ones-append (false ∷ l) m = ones-append l m

-- No more bits are set than there are.
pub ones-le : (l : List Bool) → ones l ≤ length l
unfolding ones
ones-le [] = omega arith
ones-le (true ∷ l) = omega (arith, ones-le l)
ones-le (false ∷ l) = omega (arith, ones-le l)

-- The machine's count of one digit.
count-digit : (a : ℕ) → a < 2 → lib.Count.ones a ≡ digit (odd a)
unfolding lib.Count.ones
count-digit zero h = refl
count-digit (suc zero) h = refl
count-digit (suc (suc a)) h = absurd (omega arith)

-- The machine's count is the count of the bits, for every width.
pub count_bits : (n x : ℕ) → x < 2 ^ n → lib.Count.ones x ≡ ones (bits n x)
unfolding bits ones lib.Count.ones
count_bits zero x h = let e : x ≡ 0 = omega arith in ap lib.Count.ones e
count_bits (suc n) x h =
    ap lib.Count.ones (sym (split x n))
    ∙ ones_cat n (x / 2 ^ n) (x % 2 ^ n) (mod-lt x (pow_pos n))
    ∙ ap₂ ◌+◌
    (count-digit (x / 2 ^ n) (shr_lt 1 n (rw one-add h)))
    (count_bits n (x % 2 ^ n) (mod-lt x (pow_pos n)) ∙ ap ones (bits-mod n x))
    ∙ sym (ones-cons (odd (x / 2 ^ n)) (bits n x))

-- The machine's counts of bytes add up to the count of their bits.
pub count_bytes : (s : List ℕ) → ((i : ℕ) → Fits w8 (get_or s i 0)) → sum_by lib.Count.ones s ≡ ones (unpack s)
unfolding ones unpack
count_bytes [] h = refl
count_bytes (x ∷ s) h =
    sum_by-cons lib.Count.ones x s
    ∙ ap₂ ◌+◌ (count_bits 8 x (h 0).fits) (count_bytes s (λ i. h (suc i)))
    ∙ sym (ones-append (bits 8 x) (unpack s))

-- The bytes that are left to count are one byte and those after it.
pub ones-next : (s : List ℕ) (i : ℕ) → i < length s → ones (unpack (drop i s)) ≡ ones (bits 8 (get_or s i 0)) + ones (unpack (drop (i + 1) s))
ones-next s i h = ap ones (unpack-next s i h) ∙ ones-append (bits 8 (get_or s i 0)) (unpack (drop (i + 1) s))

-- ---- spreading and gathering

-- There is a symbol for each phase.
pub length-spread : (m p : List Bool) → length (spread m p) ≡ length m
unfolding spread
length-spread [] p = refl
length-spread (false ∷ m) p = ap suc (length-spread m p)
length-spread (true ∷ m) [] = ap suc (length-spread m [])
length-spread (true ∷ m) (b ∷ p) = ap suc (length-spread m p)

-- There is a payload bit for each mark.
pub length-gather : (m u : List Bool) → length (gather m u) ≡ ones m
unfolding gather ones
length-gather [] u = refl
length-gather (false ∷ m) [] = length-gather m []
length-gather (false ∷ m) (b ∷ u) = length-gather m u
length-gather (true ∷ m) [] = ap suc (length-gather m [])
length-gather (true ∷ m) (b ∷ u) = ap suc (length-gather m u)

-- The phases of two parts: the second part's payload begins after the first's.
pub spread-append : (l m p : List Bool) → spread (l ++ m) p ≡ spread l p ++ spread m (drop (ones l) p)
unfolding spread ones
spread-append [] m p = refl
spread-append (false ∷ l) m p = ap (λ t. false ∷ t) (spread-append l m p)
spread-append (true ∷ l) m [] = ap (λ t. false ∷ t) (spread-append l m [] ∙ ap (λ q. spread l [] ++ spread m q) (drop-nil (ones l)))
spread-append (true ∷ l) m (b ∷ p) = ap (λ t. b ∷ t) (spread-append l m p)

-- Only as many payload bits count as there are phases.
pub spread-some : (m p : List Bool) (n : ℕ) → length m ≤ n → spread m (pad n p) ≡ spread m p
unfolding spread pad
spread-some [] p n h = refl
spread-some (false ∷ m) p n h = ap (λ t. false ∷ t) (spread-some m p n (omega arith))
spread-some (true ∷ m) p zero h = absurd (omega arith)
spread-some (true ∷ m) [] (suc n) h = ap (λ t. false ∷ t) (spread-some m [] n (omega arith))
spread-some (true ∷ m) (b ∷ p) (suc n) h = ap (λ t. b ∷ t) (spread-some m p n (omega arith))

-- The marked symbols of two parts.
pub gather_append : (l m u v : List Bool) → length u ≡ length l → gather (l ++ m) (u ++ v) ≡ gather l u ++ gather m v
unfolding gather
gather_append [] m [] v e = refl
gather_append [] m (b ∷ u) v e = absurd (omega arith)
gather_append (false ∷ l) m [] v e = absurd (omega arith)
gather_append (false ∷ l) m (b ∷ u) v e = gather_append l m u v (omega arith)
gather_append (true ∷ l) m [] v e = absurd (omega arith)
gather_append (true ∷ l) m (b ∷ u) v e = ap (λ t. b ∷ t) (gather_append l m u v (omega arith))

-- What was spread is gathered again.
pub gather-spread : (m p : List Bool) → ones m ≡ length p → gather m (spread m p) ≡ p
unfolding spread gather ones
gather-spread [] [] e = refl
gather-spread [] (b ∷ p) e = absurd (omega arith)
gather-spread (false ∷ m) p e = gather-spread m p e
gather-spread (true ∷ m) [] e = absurd (omega arith)
gather-spread (true ∷ m) (b ∷ p) e = ap (λ l. b ∷ l) (gather-spread m p (omega arith))

-- Symbols with no 1 at an unmarked phase are those of the payload gathered from them.
pub spread-gather : (m u : List Bool) → length u ≡ length m → frozen_one m u ≡ length m → spread m (gather m u) ≡ u
unfolding spread gather frozen_one
spread-gather [] [] e f = refl
spread-gather [] (b ∷ u) e f = absurd (omega arith)
spread-gather (false ∷ m) [] e f = absurd (omega arith)
spread-gather (false ∷ m) (true ∷ u) e f = absurd (omega arith)
spread-gather (false ∷ m) (false ∷ u) e f = ap (λ l. false ∷ l) (spread-gather m u (omega arith) (omega arith))
spread-gather (true ∷ m) [] e f = absurd (omega arith)
spread-gather (true ∷ m) (b ∷ u) e f = ap (λ l. b ∷ l) (spread-gather m u (omega arith) (omega arith))

-- Spreading leaves no 1 at an unmarked phase.
pub frozen-spread : (m p : List Bool) → frozen_one m (spread m p) ≡ length m
unfolding spread frozen_one
frozen-spread [] p = refl
frozen-spread (false ∷ m) p = ap suc (frozen-spread m p)
frozen-spread (true ∷ m) [] = ap suc (frozen-spread m [])
frozen-spread (true ∷ m) (b ∷ p) = ap suc (frozen-spread m p)

-- ---- the lowest unmarked phase with symbol 1

-- It is no more than the number of phases.
pub frozen-le : (m u : List Bool) → frozen_one m u ≤ length m
unfolding frozen_one
frozen-le [] u = omega arith
frozen-le (true ∷ m) [] = omega (arith, frozen-le m [])
frozen-le (true ∷ m) (b ∷ u) = omega (arith, frozen-le m u)
frozen-le (false ∷ m) [] = omega (arith, frozen-le m [])
frozen-le (false ∷ m) (true ∷ u) = omega arith
frozen-le (false ∷ m) (false ∷ u) = omega (arith, frozen-le m u)

-- Each phase below it is marked or has symbol 0.
pub frozen-lowest : (m u : List Bool) (i : ℕ) → i < frozen_one m u → (bit m i ≡ true) ⊎ (bit u i ≡ false)
unfolding frozen_one
frozen-lowest [] u i h = absurd (omega arith)
frozen-lowest (true ∷ m) u zero h = inl refl
frozen-lowest (false ∷ m) [] zero h = inr refl
frozen-lowest (false ∷ m) (true ∷ u) i h = absurd (omega arith)
frozen-lowest (false ∷ m) (false ∷ u) zero h = inr refl
frozen-lowest (true ∷ m) [] (suc i) h = frozen-lowest m [] i (omega arith)
frozen-lowest (true ∷ m) (b ∷ u) (suc i) h = frozen-lowest m u i (omega arith)
frozen-lowest (false ∷ m) [] (suc i) h = frozen-lowest m [] i (omega arith)
frozen-lowest (false ∷ m) (false ∷ u) (suc i) h = frozen-lowest m u i (omega arith)

-- Where it is a phase, that phase is unmarked and its symbol is 1.
pub frozen-found : (m u : List Bool) → frozen_one m u < length m → (bit m (frozen_one m u) ≡ false) × (bit u (frozen_one m u) ≡ true)
unfolding frozen_one
frozen-found [] u h = absurd (omega arith)
frozen-found (true ∷ m) [] h = frozen-found m [] (omega arith)
frozen-found (true ∷ m) (b ∷ u) h = frozen-found m u (omega arith)
frozen-found (false ∷ m) [] h = frozen-found m [] (omega arith)
frozen-found (false ∷ m) (true ∷ u) h = (refl, refl)
frozen-found (false ∷ m) (false ∷ u) h = frozen-found m u (omega arith)

-- The two do not hold of one phase.
clash : (a b : Bool) → (a ≡ false) × (b ≡ true) → (a ≡ true) ⊎ (b ≡ false) → ⊥
clash a b f (inl e) = false≢true (sym f.0 ∙ e)
clash a b f (inr e) = false≢true (sym e ∙ f.1)

-- No other number has both properties.
pub frozen-is : (m u : List Bool) (i : ℕ) → i ≤ length m
    → ((k : ℕ) → k < i → (bit m k ≡ true) ⊎ (bit u k ≡ false))
    → (i < length m → (bit m i ≡ false) × (bit u i ≡ true))
    → frozen_one m u ≡ i
frozen-is m u i h below here =
    let l = frozen-le m u in
    le_antisymm
    (le_of_suc-le-suc (lt_of_not-le (λ g. clash (bit m i) (bit u i) (here (omega arith)) (frozen-lowest m u i g))))
    (le_of_suc-le-suc (lt_of_not-le (λ g. clash (bit m (frozen_one m u)) (bit u (frozen_one m u)) (frozen-found m u (omega arith)) (below (frozen_one m u) g))))

-- Where the first of two parts has none, it is looked for in the second.
pub frozen-second : (l m u v : List Bool) → length u ≡ length l → frozen_one l u ≡ length l → frozen_one (l ++ m) (u ++ v) ≡ length l + frozen_one m v
unfolding frozen_one
frozen-second [] m [] v e f = omega arith
frozen-second [] m (b ∷ u) v e f = absurd (omega arith)
frozen-second (c ∷ l) m [] v e f = absurd (omega arith)
frozen-second (true ∷ l) m (b ∷ u) v e f = omega (arith, frozen-second l m u v (omega arith) (omega arith))
frozen-second (false ∷ l) m (true ∷ u) v e f = absurd (omega arith)
frozen-second (false ∷ l) m (false ∷ u) v e f = omega (arith, frozen-second l m u v (omega arith) (omega arith))

-- Where it has one, that is it.
pub frozen-first : (l m u v : List Bool) → length u ≡ length l → frozen_one l u < length l → frozen_one (l ++ m) (u ++ v) ≡ frozen_one l u
unfolding frozen_one
frozen-first [] m u v e f = absurd (omega arith)
frozen-first (c ∷ l) m [] v e f = absurd (omega arith)
frozen-first (true ∷ l) m (b ∷ u) v e f = ap suc (frozen-first l m u v (omega arith) (omega arith))
frozen-first (false ∷ l) m (true ∷ u) v e f = refl
frozen-first (false ∷ l) m (false ∷ u) v e f = ap suc (frozen-first l m u v (omega arith) (omega arith))

-- ---- packed

-- A payload comes back from its packed symbols.
pub payload-back : (mask payload : List ℕ) → ones (unpack mask) ≡ 8 * length payload → ((i : ℕ) → i < length payload → get_or payload i 0 < 256)
    → pack (length payload) (gather (unpack mask) (unpack (pack (length mask) (spread (unpack mask) (unpack payload))))) ≡ payload
payload-back mask payload e h =
    let m = unpack mask in
    let p = unpack payload in
    packed payload (length payload) _ refl h
    (sym
    (ap (gather m) (unpack-pack (length mask) (spread m p) (length-spread m p ∙ length-unpack mask))
    ∙ gather-spread m p (e ∙ sym (length-unpack payload))))

-- Symbols come back from the payload gathered from them.
pub symbols-back : (mask symbols : List ℕ) → length symbols ≡ length mask → ((i : ℕ) → i < length symbols → get_or symbols i 0 < 256)
    → frozen_one (unpack mask) (unpack symbols) ≡ 8 * length mask
    → pack (length mask) (spread (unpack mask) (gather (unpack mask) (unpack symbols))) ≡ symbols
symbols-back mask symbols e h f =
    let m = unpack mask in
    let u = unpack symbols in
    packed symbols (length mask) _ e h
    (sym (spread-gather m u (length-unpack symbols ∙ ap (λ n. 8 * n) e ∙ sym (length-unpack mask)) (f ∙ sym (length-unpack mask))))
