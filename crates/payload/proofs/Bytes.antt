-- A turn of each loop of gathering and searching. Assumes nothing.
use mathlib.Core.Path.{◌≡◌, refl, sym, ap, ap₂, ◌∙◌}
use mathlib.Core.Bool.{Bool, true, false, ◌&&◌, false≢true}
use mathlib.Core.List.{List, ◌++◌, append_assoc}
use mathlib.Core.Logic.{◌⊎◌, inl, inr}
use Prim.Native.Nat.{ℕ, ◌+◌, ◌-◌, ◌*◌, ◌/◌, ◌%◌, ◌^◌, ◌≤◌, ◌<◌}
use native.Mathlib.Omega.{arith}
use lib.Bits.{bit_and, bit_xor, and_le_l}
use lib.Count.{count_leading_zeros, leading_le, leading_of_zero, leading_top}
use lib.ListN.{length, get_or, drop}
use lib.Pow.{high, low}
use Rattle.base.specs.Bit.{bit, ◌⊕◌}
use Rattle.bits.specs.Packed.{bits, number, unpack}
use Rattle.payload.specs.Payload.{ones, gather, frozen_one}
use Rattle.bits.proofs.Packed.{length-bits, bits-mod, bits-low, bits-split, and_at, xor-at, leading-bits, number_lt, number-bits, bits-number, unpack-next, byte_at, byte_next}
use Rattle.payload.proofs.Payload.{length-gather, gather_append, frozen-is, frozen-first, frozen-second}

-- ---- gathering

-- The marked symbols of the next byte come after the bits that are held.
pub gather-turn : (mask symbols : List ℕ) (i j n held : ℕ) → i < length mask → length symbols ≡ length mask → n ≤ 8
    → bits n held ++ gather (unpack (drop i mask)) (unpack (drop i symbols)) ≡ drop (8 * j) (gather (unpack mask) (unpack symbols))
    → bits (n + ones (bits 8 (get_or mask i 0)))
    (held % 256 * 2 ^ ones (bits 8 (get_or mask i 0)) + number (gather (bits 8 (get_or mask i 0)) (bits 8 (get_or symbols i 0))))
    ++ gather (unpack (drop (i + 1) mask)) (unpack (drop (i + 1) symbols)) ≡ drop (8 * j) (gather (unpack mask) (unpack symbols))
gather-turn mask symbols i j n held h e l f =
    let m = bits 8 (get_or mask i 0) in
    let u = bits 8 (get_or symbols i 0) in
    let g = gather m u in
    let k = ones m in
    let r = gather (unpack (drop (i + 1) mask)) (unpack (drop (i + 1) symbols)) in
    let x : ℕ = held % 256 * 2 ^ k + number g in
    let lg : number g < 2 ^ k = rw length-gather at (number_lt g) in
    let w : (8 - n) + n ≡ 8 = omega arith in
    ap (λ t. t ++ r)
    (bits-split n k x
    ∙ ap₂ ◌++◌
    (ap (bits n) (high (held % 256) k lg) ∙ ap (λ t. bits n (held % 2 ^ t)) (sym w) ∙ bits-low n (8 - n) held)
    (sym (bits-mod k x) ∙ ap (bits k) (low (held % 256) k lg) ∙ ap (λ t. bits t (number g)) (sym (length-gather m u)) ∙ bits-number g))
    ∙ append_assoc (bits n held) g r
    ∙ ap (λ t. bits n held ++ t)
    (sym
    (ap₂ gather (unpack-next mask i h) (unpack-next symbols i (omega arith))
    ∙ gather_append m _ u _ (length-bits 8 (get_or symbols i 0) ∙ sym (length-bits 8 (get_or mask i 0)))))
    ∙ f

-- The first eight of the bits that are held make the next byte.
pub gather-store : (l r : List Bool) (j n x : ℕ) → 8 ≤ n → bits n x ++ r ≡ drop (8 * j) l
    → (x / 2 ^ (n - 8) % 256 ≡ byte_at l j) × (bits (n - 8) x ++ r ≡ drop (8 * (j + 1)) l)
gather-store l r j n x h e =
    let k : ℕ = n - 8 in
    let y : ℕ = x / 2 ^ k in
    let f : n ≡ 8 + k = omega arith in
    let next = byte_next l (bits 8 y) (bits k x ++ r) j (length-bits 8 y)
    (sym (ap (λ t. bits t x ++ r) f ∙ ap (λ t. t ++ r) (bits-split 8 k x) ∙ append_assoc (bits 8 y) (bits k x) r) ∙ e) in
    (sym (number-bits 8 y) ∙ next.0, next.1)

-- ---- searching

-- The symbols outside a mask, as the code takes them.
abbrev pub over : ℕ → ℕ → ℕ
over m u = bit_and u (bit_xor u m)

-- Of one phase.
over-bit : (a b : Bool) → ((a && (a ⊕ b)) ≡ true → (b ≡ false) × (a ≡ true)) × ((a && (a ⊕ b)) ≡ false → (b ≡ true) ⊎ (a ≡ false))
over-bit true true = ((λ e. absurd (false≢true e)), λ e. inl refl)
over-bit true false = ((λ e. (refl, refl)), λ e. absurd (false≢true (sym e)))
over-bit false b = ((λ e. absurd (false≢true e)), λ e. inr refl)

-- Of eight phases the first is the highest bit.
frozen-byte : (m u : ℕ) → over m u < 256 → frozen_one (bits 8 m) (bits 8 u) ≡ count_leading_zeros 8 (over m u)
frozen-byte m u h =
    let k = count_leading_zeros 8 (over m u) in
    let t = leading-bits 8 (over m u) h in
    let at : (i : ℕ) → bit (bits 8 u) i && (bit (bits 8 u) i ⊕ bit (bits 8 m) i) ≡ bit (bits 8 (over m u)) i =
    λ i. sym (and_at 8 u (bit_xor u m) i ∙ ap (λ b. bit (bits 8 u) i && b) (xor-at 8 u m i)) in
    frozen-is (bits 8 m) (bits 8 u) k (omega (arith, leading_le 8 (over m u), length-bits 8 m))
    (λ i l. (over-bit (bit (bits 8 u) i) (bit (bits 8 m) i)).1 (at i ∙ t.0 i l))
    (λ l. (over-bit (bit (bits 8 u) k) (bit (bits 8 m) k)).0 (at k ∙ t.1 (omega (arith, length-bits 8 m))))

module _ (mask symbols : List ℕ) (i : ℕ) (h : i < length mask) (e : length symbols ≡ length mask) where
  -- The next byte has none,
  pub frozen-none : over (get_or mask i 0) (get_or symbols i 0) ≡ 0
      → frozen_one (unpack (drop i mask)) (unpack (drop i symbols)) ≡ 8 + frozen_one (unpack (drop (i + 1) mask)) (unpack (drop (i + 1) symbols))
  frozen-none z =
      let m = get_or mask i 0 in
      let u = get_or symbols i 0 in
      ap₂ frozen_one (unpack-next mask i h) (unpack-next symbols i (omega arith))
      ∙ frozen-second (bits 8 m) _ (bits 8 u) _ (length-bits 8 u ∙ sym (length-bits 8 m))
      (frozen-byte m u (omega arith) ∙ ap (count_leading_zeros 8) z ∙ leading_of_zero 8 ∙ sym (length-bits 8 m))
      ∙ ap (λ n. n + frozen_one (unpack (drop (i + 1) mask)) (unpack (drop (i + 1) symbols))) (length-bits 8 m)

  -- or it has one.
  pub frozen-some : (over (get_or mask i 0) (get_or symbols i 0) ≡ 0 → ⊥) → get_or symbols i 0 < 256
      → (count_leading_zeros 8 (over (get_or mask i 0) (get_or symbols i 0)) < 8)
      × (frozen_one (unpack (drop i mask)) (unpack (drop i symbols)) ≡ count_leading_zeros 8 (over (get_or mask i 0) (get_or symbols i 0)))
  frozen-some z f =
      let m = get_or mask i 0 in
      let u = get_or symbols i 0 in
      let g : over m u < 256 = omega (arith, and_le_l u (bit_xor u m)) in
      let t = frozen-byte m u g in
      let top = leading_top 8 (over m u) (omega arith) g in (
        omega (arith, top.1),
        ap₂ frozen_one (unpack-next mask i h) (unpack-next symbols i (omega arith))
            ∙ frozen-first (bits 8 m) _ (bits 8 u) _ (length-bits 8 u ∙ sym (length-bits 8 m)) (omega (arith, t, top.1, length-bits 8 m))
            ∙ t,
      )
