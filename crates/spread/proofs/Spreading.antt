-- A payload spread in three passes: counts of marks, the next bits for each byte, and these deposited. Assumes nothing.
use Rattle.std.proofs.Common.{◌≡◌, ℕ, suc, ◌+◌, ◌-◌, ◌*◌, ◌/◌, ◌%◌, ◌^◌, ◌<◌, ◌≤◌, Bool, true, false, eqb, List, [], ◌∷◌, ◌++◌, length, get_or, take, drop, set, sym, refl, ap, ◌∙◌, ap₂, append_assoc, append-nil, add-one, arith, length-append, length-drop, length-take-le, drop-cons, take-suc, drop-drop}
use lib.Seq.{drop-length}
use Rattle.base.specs.Bit.{bit, odd, tabulate}
use Rattle.base.proofs.List.{length-tabulate, tabulate-at, tabulate-cong, fill-next, fill-rest, fill-all}
use Rattle.bits.specs.Packed.{bits, number, unpack, pad}
use Rattle.bits.proofs.Packed.{length-bits, bits-mod, bits-low, bits-split, bits-number, number-bits-fit, length-unpack, length-pad, unpack-append}
use Rattle.payload.specs.Payload.{ones, spread}
use Rattle.spread.specs.Spreading.{marks_before, mark_counts, byte_for, next_part, next_bytes, deposited}
use Rattle.payload.proofs.Payload.{ones-append, ones-le, length-spread, spread-append, spread-some}

-- ---- one byte

-- A cleared bit behind a payload changes nothing.
spread-false : (m p : List Bool) → spread m (p ++ (false ∷ [])) ≡ spread m p
unfolding spread
spread-false [] p = refl
spread-false (false ∷ m) p = ap (λ t. false ∷ t) (spread-false m p)
spread-false (true ∷ m) [] = refl
spread-false (true ∷ m) (b ∷ p) = ap (λ t. b ∷ t) (spread-false m p)

-- A bit behind others.
behind : (n x t : ℕ) → t < 2 → bits (suc n) (2 * x + t) ≡ bits n x ++ (odd t ∷ [])
unfolding bits
behind n x t h =
    let y : ℕ = 2 * x + t in
    let a : y / 2 ^ 1 ≡ x = omega arith in
    let b : y / 2 ^ 0 % 2 ≡ t % 2 = omega arith in
    ap (λ k. bits k y) (sym (add-one n)) ∙ bits-split n 1 y ∙ ap₂ ◌++◌ (ap (bits n) a) (ap (λ z. eqb z 1 ∷ []) b)

-- Doubled, a number of eight bits loses the first, and a cleared one follows.
doubled : (x : ℕ) → bits 8 ((x + x) % 2 ^ 8) ≡ bits 7 x ++ (false ∷ [])
doubled x =
    let e : x + x ≡ 2 * x + 0 = omega arith in
    bits-mod 8 (x + x) ∙ ap (bits 8) e ∙ behind 7 x 0 (omega arith)

-- The symbol of one phase more.
symbol-next : (i u t : ℕ) → i ≤ 7 → t < 2 → bits (suc i) (u * 2 % 256 + t) ≡ bits i u ++ (odd t ∷ [])
symbol-next i u t l h =
    let e : u * 2 % 256 + t ≡ 2 * (u % 2 ^ 7) + t = omega arith in
    let w : 7 ≡ (7 - i) + i = omega arith in
    ap (bits (suc i)) e
    ∙ behind i (u % 2 ^ 7) t h
    ∙ ap (λ s. s ++ (odd t ∷ [])) (ap (λ k. bits i (u % 2 ^ k)) w ∙ bits-low i (7 - i) u)

-- After i phases of a byte m: their symbols u, and the payload bits that are left.
abbrev pub Partly : ℕ → ℕ → ℕ → ℕ → ℕ → Type 0
Partly m p u rest i = bits i u ++ spread (drop i (bits 8 m)) (bits 8 rest) ≡ spread (bits 8 m) (bits 8 p)

pub partly_none : (m p u : ℕ) → Partly m p u p 0
unfolding bits
partly_none m p u = refl

module _ (m p u rest i : ℕ) (l : i ≤ 7) (h : Partly m p u rest i) where
  phase : drop i (bits 8 m) ≡ bit (bits 8 m) i ∷ drop (i + 1) (bits 8 m)
  phase = drop-cons (bits 8 m) i false (omega (arith, length-bits 8 m)) ∙ ap (λ k. bit (bits 8 m) i ∷ drop k (bits 8 m)) (sym (add-one i))

  -- A marked phase takes a bit,
  pub partly-marked : bit (bits 8 m) i ≡ true → rest < 256 → (v r : ℕ) → v ≡ u * 2 % 256 + rest / 128 → r ≡ (rest + rest) % 2 ^ 8 → Partly m p v r (i + 1)
  unfolding spread bits
  partly-marked e f v r ev er =
      let t : Bool = odd (rest / 128) in
      let ms : List Bool = drop (i + 1) (bits 8 m) in
      ap₂ (λ k s. k ++ s)
      (ap₂ bits (add-one i) ev ∙ symbol-next i u (rest / 128) l (omega arith))
      (ap (λ x. spread ms (bits 8 x)) er ∙ ap (spread ms) (doubled rest) ∙ spread-false ms (bits 7 rest))
      ∙ append_assoc (bits i u) (t ∷ []) (spread ms (bits 7 rest))
      ∙ ap (λ k. bits i u ++ spread k (bits 8 rest)) (sym (phase ∙ ap (λ b. b ∷ ms) e))
      ∙ h

  -- and another takes none.
  pub partly-frozen : bit (bits 8 m) i ≡ false → (v r : ℕ) → v ≡ u * 2 % 256 → r ≡ rest → Partly m p v r (i + 1)
  unfolding spread
  partly-frozen e v r ev er =
      let ms : List Bool = drop (i + 1) (bits 8 m) in
      let z : v ≡ u * 2 % 256 + 0 = omega arith in
      ap₂ (λ k s. k ++ s) (ap₂ bits (add-one i) z ∙ symbol-next i u 0 l (omega arith)) (ap (λ x. spread ms (bits 8 x)) er)
      ∙ append_assoc (bits i u) (false ∷ []) (spread ms (bits 8 rest))
      ∙ ap (λ k. bits i u ++ spread k (bits 8 rest)) (sym (phase ∙ ap (λ b. b ∷ ms) e))
      ∙ h

pub partly-all : (m p u rest i : ℕ) → i ≡ 8 → u < 256 → Partly m p u rest i → u ≡ number (spread (bits 8 m) (bits 8 p))
unfolding spread
partly-all m p u rest i e f h =
    let g : Partly m p u rest 8 = rw e at h in
    sym (number-bits-fit 8 u f)
    ∙ ap number
    (sym (append-nil (bits 8 u))
    ∙ ap (λ l. bits 8 u ++ spread l (bits 8 rest)) (sym (ap (λ k. drop k (bits 8 m)) (sym (length-bits 8 m)) ∙ drop-length (bits 8 m)))
    ∙ g)

-- ---- all bytes

-- The marks before the byte after byte i.
marks-next : (mask : List ℕ) (i : ℕ) → i < length mask → marks_before mask (i + 1) ≡ marks_before mask i + ones (bits 8 (get_or mask i 0))
unfolding unpack
marks-next mask i l =
    ap (marks_before mask) (add-one i)
    ∙ ap (λ s. ones (unpack s)) (take-suc mask i 0 l)
    ∙ ap ones (unpack-append (take i mask) (get_or mask i 0 ∷ []) ∙ ap (λ s. unpack (take i mask) ++ s) (append-nil (bits 8 (get_or mask i 0))))
    ∙ ones-append (unpack (take i mask)) (bits 8 (get_or mask i 0))

-- They are no more than there are phases.
pub marks-before-le : (mask : List ℕ) (i : ℕ) → i ≤ length mask → marks_before mask i ≤ 8 * i
marks-before-le mask i h = omega (arith, ones-le (unpack (take i mask)), length-unpack (take i mask), length-take-le i mask h)

module _ (mask : List ℕ) (p : List Bool) where
  -- At first there are the counts,
  pub next-none : next_part mask p 0 ≡ mark_counts mask
  unfolding next_part tabulate
  next-none = refl

  -- and at last the next bits of all bytes.
  pub next-all : next_part mask p (length mask) ≡ next_bytes mask p
  unfolding next_part next_bytes mark_counts
  next-all = fill-all (byte_for mask p) (length mask) (mark_counts mask) (length-tabulate (length mask) _)

  -- There is an entry for each byte.
  pub next-length : (bytes : List ℕ) (i : ℕ) → i ≤ length mask → bytes ≡ next_part mask p i → length bytes ≡ length mask
  unfolding next_part mark_counts
  next-length bytes i l e =
      ap length e
      ∙ length-append (tabulate i (byte_for mask p)) (drop i (mark_counts mask))
      ∙ ap₂ ◌+◌ (length-tabulate i (byte_for mask p)) (length-drop i (mark_counts mask) ∙ ap (λ n. n - i) (length-tabulate (length mask) _))
      ∙ (let s : i + (length mask - i) ≡ length mask = omega arith in s)

  module _ (bytes : List ℕ) (i : ℕ) (l : i < length mask) (e : bytes ≡ next_part mask p i) where
    -- The next entry is a count,
    pub next-count : get_or bytes i 0 ≡ ones (bits 8 (get_or mask i 0))
    unfolding next_part mark_counts
    next-count =
        ap (λ b. get_or b i 0) e
        ∙ fill-rest (byte_for mask p) i (mark_counts mask) i 0 (omega arith)
        ∙ tabulate-at (length mask) (λ i. ones (bits 8 (get_or mask i 0))) i 0 l

    -- and with it the marks go on.
    pub next_marks : (j : ℕ) → j ≡ marks_before mask i → j + get_or bytes i 0 ≡ marks_before mask (i + 1)
    next_marks j m = ap₂ ◌+◌ m next-count ∙ sym (marks-next mask i l)

    -- In its place the next bits are stored.
    pub next-stored : (j z : ℕ) → j ≡ marks_before mask i → z < 256 → bits 8 z ≡ pad 8 (drop j p) → set bytes i z ≡ next_part mask p (i + 1)
    unfolding next_part mark_counts
    next-stored j z m f b =
        ap (λ b. set b i z) e
        ∙ fill-next (byte_for mask p) i (mark_counts mask) z (rw (length-tabulate (length mask) (λ i. ones (bits 8 (get_or mask i 0)))) l)
        (sym (number-bits-fit 8 z f) ∙ ap number b ∙ ap (λ k. number (pad 8 (drop k p))) m)

-- Each byte's next bits deposited make the symbols.
pub spread-passes : (mask : List ℕ) (p : List Bool) → unpack (deposited mask (next_bytes mask p)) ≡ spread (unpack mask) p
unfolding deposited next_bytes tabulate unpack spread ones
spread-passes [] p = refl
spread-passes (m ∷ mask) p =
    let a = bits 8 m in
    let n = ones a in
    let s = spread a (bits 8 (number (pad 8 p))) in
    let next = tabulate (length mask) (λ i. number (pad 8 (drop (ones (a ++ unpack (take i mask))) p))) in
    let same : next ≡ next_bytes mask (drop n p) = tabulate-cong (length mask) (λ i _.
    ap (λ k. number (pad 8 (drop k p))) (ones-append a (unpack (take i mask))) ∙ ap (λ q. number (pad 8 q)) (sym (drop-drop (ones (unpack (take i mask))) n p))) in
    ap₂ ◌++◌
    (ap (λ k. bits k (number s)) (sym (length-spread a _ ∙ length-bits 8 m)) ∙ bits-number s
    ∙ ap (spread a) (ap (λ k. bits k (number (pad 8 p))) (sym (length-pad 8 p)) ∙ bits-number (pad 8 p))
    ∙ spread-some a p 8 (omega (arith, length-bits 8 m)))
    (ap (λ x. unpack (deposited mask x)) same ∙ spread-passes mask (drop n p))
    ∙ sym (spread-append a (unpack mask) p)
