-- The register as a number, and bits that go into it one by one. Assumes nothing.
use mathlib.Core.Path.{◌≡◌, refl, sym, ap, ap₂, ◌∙◌}
use mathlib.Core.Bool.{Bool, true, false, beq}
use mathlib.Core.List.{List, [], ◌∷◌, ◌++◌}
use Prim.Native.Nat.{ℕ, zero, suc, ◌+◌, ◌*◌, ◌/◌, ◌%◌, ◌<◌}
use native.Mathlib.Numerals.{add-one}
use native.Mathlib.Omega.{arith}
use borrow.Author.Tests.{eq-eqb, ne_eqb, ltb-true, ltb-false}
use lib.Bits.{bit_xor}
use lib.Dec.{ltb}
use lib.ListN.{length, drop}
use lib.Seq.{drop-cons, drop-length}
use Rattle.base.specs.Bit.{◌⊕◌, bit, odd}
use Rattle.bits.specs.Packed.{bits, unpack}
use Rattle.bits.proofs.Packed.{length-unpack, bits-split, bits-mod, xor-at}
use Rattle.checksum.specs.Checksum.{sums, polynomial, add_if, shift_in, after}

-- The bits of `a ^ b` are the bits of a and b, added.
pub bits-xor : (n a b : ℕ) → bits n (bit_xor a b) ≡ sums (bits n a) (bits n b)
unfolding bits sums
bits-xor zero a b = refl
bits-xor (suc n) a b = ap₂ (λ (p : Bool) (q : List Bool). p ∷ q) (xor-at (suc n) a b 0) (bits-xor n a b)

-- The register moved up.
moved : (r : ℕ) → bits 16 (r % 32768 * 2) ≡ drop 1 (bits 16 r) ++ (false ∷ [])
unfolding bits
moved r =
    let y : ℕ = r % 32768 * 2 in
    let e : y / 2 ≡ r % 32768 = omega arith in
    bits-split 15 1 y ∙ ap₂ ◌++◌ (ap (bits 15) e ∙ bits-mod 15 r) (ap (λ (b : Bool). b ∷ []) (ne_eqb (y / 1 % 2) 1 (λ z. omega arith)))

-- Whether the bit that leaves it differs from the one that goes in, by the comparisons of the code.
pub differs : (r : ℕ) (b : Bool) → r < 65536 → bit (bits 16 r) 0 ⊕ b ≡ beq b (ltb r 32768)
unfolding bits
differs r b h = go (ltb r 32768) refl b
  where
    go : (c : Bool) → ltb r 32768 ≡ c → (b : Bool) → odd (r / 32768) ⊕ b ≡ beq b c
    go true e false = let l = ltb-true r 32768 e in rw (ne_eqb (r / 32768 % 2) 1 (λ z. omega arith))
    go true e true = let l = ltb-true r 32768 e in rw (ne_eqb (r / 32768 % 2) 1 (λ z. omega arith))
    go false e false = let l = ltb-false r 32768 e in rw (eq-eqb (r / 32768 % 2) 1 (omega arith))
    go false e true = let l = ltb-false r 32768 e in rw (eq-eqb (r / 32768 % 2) 1 (omega arith))

-- With the polynomial added,
pub added : (r p : ℕ) (b : Bool) → bits 16 p ≡ polynomial → bit (bits 16 r) 0 ⊕ b ≡ true → bits 16 (bit_xor (r % 32768 * 2) p) ≡ shift_in (bits 16 r) b
added r p b h e = bits-xor 16 (r % 32768 * 2) p ∙ ap₂ sums (moved r) h ∙ ap (λ c. add_if c (drop 1 (bits 16 r) ++ (false ∷ []))) (sym e)

-- and without.
pub plain : (r : ℕ) (b : Bool) → bit (bits 16 r) 0 ⊕ b ≡ false → bits 16 (r % 32768 * 2) ≡ shift_in (bits 16 r) b
plain r b e = moved r ∙ ap (λ c. add_if c (drop 1 (bits 16 r) ++ (false ∷ []))) (sym e)

-- One more bit of bytes s goes in.
pub next_bit : (s : List ℕ) (i r n : ℕ) (b : Bool) → i < 8 * length s → b ≡ bit (unpack s) i → bits 16 n ≡ shift_in (bits 16 r) b
    → after (bits 16 n) (drop (i + 1) (unpack s)) ≡ after (bits 16 r) (drop i (unpack s))
unfolding after
next_bit s i r n b l e h =
    let k : i < length (unpack s) = omega (arith, length-unpack s) in
    rw (add-one, drop-cons (unpack s) i false k, h, e)

-- All of them are in.
pub no_bits : (s : List ℕ) (i : ℕ) (r : List Bool) → i ≡ 8 * length s → after r (drop i (unpack s)) ≡ r
unfolding after
no_bits s i r e = rw (e, ← (length-unpack s), drop-length (unpack s))
