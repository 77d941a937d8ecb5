-- A checksum in the last two bytes of a payload. Assumes nothing.
use mathlib.Core.Path.{◌≡◌, refl, sym, ap, ap₂, ◌∙◌}
use mathlib.Core.Bool.{Bool, true, false}
use mathlib.Core.List.{List, ◌++◌, append-nil}
use Prim.Native.Nat.{ℕ, ◌+◌, ◌-◌, ◌*◌, ◌^◌, ◌≤◌, ◌<◌}
use native.Mathlib.Omega.{arith}
use borrow.Author.Tests.{eqb-true, eq-eqb}
use lib.Dec.{eqb}
use lib.ListN.{length, take, drop, get_or, length-append}
use lib.Seq.{drop_at, drop-length}
use Rattle.base.specs.Bit.{same}
use Rattle.base.proofs.List.{same-eq, same_self}
use Rattle.bits.specs.Packed.{bits, number, unpack, pad}
use Rattle.bits.proofs.Packed.{length-bits, number-bits-fit, pad-front, pad-whole, side_by_side, unpack-next}
use Rattle.checksum.specs.Checksum.{crc, agrees}

-- Numbers are the same where their bits are.
pub same_number : (n a b : ℕ) → a < 2 ^ n → b < 2 ^ n → same (bits n a) (bits n b) ≡ eqb a b
same_number n a b la lb = go (same (bits n a) (bits n b)) (eqb a b) refl refl
  where
    go : (c d : Bool) → same (bits n a) (bits n b) ≡ c → eqb a b ≡ d → c ≡ d
    go true true p q = refl
    go false false p q = refl
    go true false p q =
        let e : a ≡ b = sym (number-bits-fit n a la) ∙ ap number (same-eq (bits n a) (bits n b) p) ∙ number-bits-fit n b lb in
        sym (eq-eqb a b e) ∙ q
    go false true p q = let e = eqb-true a b q in sym p ∙ ap (λ x. same (bits n a) (bits n x)) (sym e) ∙ same_self (bits n a)

-- The bits of a number are those of its two bytes.
pub two_bytes : (h l : ℕ) → l < 256 → bits 16 (256 * h + l) ≡ bits 8 h ++ bits 8 l
two_bytes h l k =
    let u = bits 8 h in
    let v = bits 8 l in
    let n = length-bits 8 h in
    let m = length-bits 8 l in
    side_by_side 8 h l (u ++ v) k (sym (pad-front 8 u v n)) (sym (ap (pad 8) (drop_at u v 8 n) ∙ pad-whole 8 v m))
    ∙ pad-whole 16 (u ++ v) (length-append u v ∙ ap₂ ◌+◌ n m)

-- The bits of the last two bytes.
last-two : (s : List ℕ) (n : ℕ) → length s ≡ n + 2 → unpack (drop n s) ≡ bits 8 (get_or s n 0) ++ bits 8 (get_or s (n + 1) 0)
unfolding unpack
last-two s n e =
    let f : n + 1 + 1 ≡ length s = omega arith in
    unpack-next s n (omega arith)
    ∙ ap (λ (t : List Bool). bits 8 (get_or s n 0) ++ t)
    (unpack-next s (n + 1) (omega arith)
    ∙ ap (λ (t : List ℕ). bits 8 (get_or s (n + 1) 0) ++ unpack t) (ap (λ k. drop k s) f ∙ drop-length s)
    ∙ append-nil (bits 8 (get_or s (n + 1) 0)))

-- The comparison of the checksum with the number of the last two bytes.
pub agreed : (s : List ℕ) (sum stored : ℕ) → 2 ≤ length s → sum < 65536 → stored < 65536 → bits 16 sum ≡ crc (take (length s - 2) s)
    → bits 16 stored ≡ bits 8 (get_or s (length s - 2) 0) ++ bits 8 (get_or s (length s - 2 + 1) 0) → eqb sum stored ≡ agrees s
agreed s sum stored l a b e f = sym (same_number 16 sum stored a b) ∙ ap₂ same e (f ∙ sym (last-two s (length s - 2) (omega arith)))
