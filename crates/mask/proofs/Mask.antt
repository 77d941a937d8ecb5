-- Laws of the bytes of payload that a mask takes. Assumes nothing.
use mathlib.Core.Path.{◌≡◌, refl, sym, ap, ◌∙◌}
use mathlib.Core.Bool.{Bool, true, false, not, ◌||◌}
use mathlib.Core.List.{List}
use Prim.Native.Nat.{ℕ, zero, suc, ◌*◌, ◌/◌, ◌%◌, ◌≤◌, ◌<◌}
use native.Mathlib.Omega.{arith}
use borrow.Author.Tests.{not-false, eq-eqb, eqb-true, eqb-false, ne_eqb}
use lib.Dec.{eqb, eqb-suc-zero}
use lib.ListN.{length}
use Rattle.base.proofs.Bool.{or-eq-false}
use Rattle.bits.specs.Packed.{unpack}
use Rattle.payload.specs.Payload.{ones}
use Rattle.bits.proofs.Packed.{length-unpack}
use Rattle.payload.proofs.Payload.{ones-le}
use Rattle.mask.specs.Mask.{marked, bad_mask, payload_bytes}

eighth : (k : ℕ) → k % 8 ≡ 0 → elim (eqb k 0 || not (eqb (k % 8) 0)) [ true ↦ 0 | false ↦ k / 8 ] ≡ k / 8
eighth zero e = refl
eighth (suc k) e = rw (e, eqb-suc-zero k)

-- A mask of n bytes that marks a multiple of 8 takes an eighth of it, also where it marks none.
pub whole-bytes : (n : ℕ) (mask : List ℕ) → length mask ≡ n → marked mask % 8 ≡ 0 → payload_bytes n mask ≡ marked mask / 8
unfolding payload_bytes bad_mask
whole-bytes n mask l e = rw (eq-eqb (length mask) n l, payload_bytes) (eighth (marked mask) e)

-- A mask of n bytes that is not refused:
module _ (n : ℕ) (mask : List ℕ) (long : length mask ≡ n) (good : bad_mask mask ≡ false) where
  -- each byte of its payload fills eight marked phases,
  pub bytes-marked : 8 * payload_bytes n mask ≡ ones (unpack mask)
  unfolding bad_mask marked
  bytes-marked =
      let h = or-eq-false (eqb (marked mask) 0) (not (eqb (marked mask % 8) 0)) good in
      let e = eqb-true (marked mask % 8) 0 (not-false _ h.1) in
      omega (arith, whole-bytes n mask long e)

  -- an eighth of what it marks,
  pub bytes-eighth : payload_bytes n mask ≡ marked mask / 8
  unfolding marked
  bytes-eighth = omega (arith, bytes-marked)

  -- and there is a byte or more.
  pub bytes-some : 0 < payload_bytes n mask
  unfolding bad_mask marked
  bytes-some =
      let h = or-eq-false (eqb (marked mask) 0) (not (eqb (marked mask % 8) 0)) good in
      let e = eqb-false (marked mask) 0 h.0 in
      omega (arith, bytes-marked)

-- A mask takes no payload exactly if it has the wrong length or is refused.
pub bytes-none : (n : ℕ) (mask : List ℕ) → eqb (payload_bytes n mask) 0 ≡ (not (eqb (length mask) n) || bad_mask mask)
unfolding payload_bytes
bytes-none n mask = go (not (eqb (length mask) n) || bad_mask mask) refl
  where
    go : (c : Bool) → (not (eqb (length mask) n) || bad_mask mask) ≡ c → eqb (payload_bytes n mask) 0 ≡ c
    go true e = eq-eqb (payload_bytes n mask) 0 (rw (e, payload_bytes))
    go false e =
        let h = or-eq-false (not (eqb (length mask) n)) (bad_mask mask) e in
        let l = eqb-true (length mask) n (not-false _ h.0) in
        ne_eqb (payload_bytes n mask) 0 (λ z. omega (arith, bytes-some n mask l h.1))

-- Of n bytes, the refused masks are those that take no payload.
pub bad-mask : (n : ℕ) (mask : List ℕ) → length mask ≡ n → bad_mask mask ≡ eqb (payload_bytes n mask) 0
bad-mask n mask l = sym (bytes-none n mask ∙ ap (λ b. not b || bad_mask mask) (eq-eqb (length mask) n l))

-- A mask that takes payload has n bytes and is not refused.
pub bytes-accepted : (n : ℕ) (mask : List ℕ) → 0 < payload_bytes n mask → (length mask ≡ n) × (bad_mask mask ≡ false)
bytes-accepted n mask h =
    let e = sym (bytes-none n mask) ∙ ne_eqb (payload_bytes n mask) 0 (λ z. omega arith) in
    let g = or-eq-false (not (eqb (length mask) n)) (bad_mask mask) e in
    (eqb-true (length mask) n (not-false _ g.0), g.1)

le-if-some : (n k : ℕ) → (0 < n → n ≤ k) → n ≤ k
le-if-some zero k f = omega arith
le-if-some (suc n) k f = f (omega arith)

-- No mask takes more bytes than it has.
pub bytes_le : (n : ℕ) (mask : List ℕ) → payload_bytes n mask ≤ n
bytes_le n mask =
    le-if-some (payload_bytes n mask) n (λ h.
    let g = bytes-accepted n mask h in
    omega (arith, bytes-marked n mask g.0 g.1, ones-le (unpack mask), length-unpack mask))
