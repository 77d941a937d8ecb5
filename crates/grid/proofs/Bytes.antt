-- Rows of sixteen bits and the two bytes of each. Assumes nothing.
use mathlib.Core.Path.{◌≡◌, sym, ap, ap₂, ◌∙◌}
use mathlib.Core.List.{List}
use Prim.Native.Nat.{ℕ, zero, suc, ◌+◌, ◌-◌, ◌*◌, ◌/◌, ◌%◌, ◌^◌, ◌<◌}
use native.Mathlib.Nat.{div-div-eq-div-mul}
use native.Mathlib.Omega.{arith}
use lib.ListN.{get_or, length, set}
use lib.Pow.{pow-add}
use Rattle.base.specs.Bit.{bit, odd, tabulate}
use Rattle.base.proofs.List.{length-tabulate, tabulate-at, same_bits, filled, fill-next}
use Rattle.bits.specs.Packed.{bits, unpack, pack}
use Rattle.bits.proofs.Packed.{bits_at, bits-mod, length-unpack, unpack-at, packed}
use Rattle.kernel.specs.Rows.{row_bit}
use Rattle.grid.specs.Grid.{rows_bits, byte_of, byte_row}
use Rattle.grid.proofs.Grid.{length-rows-bits, rows-bit-at}

-- Bit t of byte h of a row.
byte-bit : (x h t : ℕ) → h < 2 → t < 8 → bit (bits 8 (x / 2 ^ (8 - 8 * h) % 2 ^ 8)) t ≡ bit (bits 16 x) (8 * h + t)
byte-bit x h t lh lt =
    let y : ℕ = x / 2 ^ (8 - 8 * h) in
    let e : (8 - 8 * h) + (8 - suc t) ≡ 16 - suc (8 * h + t) = omega arith in
    ap (λ l. bit l t) (bits-mod 8 y)
    ∙ bits_at 8 y t lt
    ∙ ap odd (div-div-eq-div-mul x (2 ^ (8 - 8 * h)) (2 ^ (8 - suc t)) ∙ ap (λ z. x / z) (sym (pow-add 2 (8 - 8 * h) (8 - suc t)) ∙ ap (λ k. 2 ^ k) e))
    ∙ sym (bits_at 16 x (8 * h + t) (omega arith))

-- Bytes that are those of n rows have the bits of the rows.
pub unpack-rows : (n : ℕ) (s rows : List ℕ) → length s ≡ 2 * n → ((i : ℕ) → i < 2 * n → get_or s i 0 ≡ byte_of rows i) → unpack s ≡ rows_bits n rows
unpack-rows n s rows e h =
    let long : 8 * (2 * n) ≡ 16 * n = omega arith in
    same_bits (16 * n) (unpack s) (rows_bits n rows) (length-unpack s ∙ ap (λ k. 8 * k) e ∙ long) (length-rows-bits n rows) (λ i l.
    let q : i / 8 / 2 ≡ i / 16 = omega arith in
    let d : 8 * (i / 8 % 2) + i % 8 ≡ i % 16 = omega arith in
    unpack-at s i
    ∙ ap (λ x. bit (bits 8 x) (i % 8)) (h (i / 8) (omega arith))
    ∙ byte-bit (get_or rows (i / 8 / 2) 0) (i / 8 % 2) (i % 8) (omega arith) (omega arith)
    ∙ ap₂ (row_bit rows) q d
    ∙ sym (rows-bit-at n rows i l))

-- The bytes of rows, packed.
pub pack-rows : (n : ℕ) (rows : List ℕ) → pack (2 * n) (rows_bits n rows) ≡ tabulate (2 * n) (byte_of rows)
pack-rows n rows =
    let s = tabulate (2 * n) (byte_of rows) in
    let e = length-tabulate (2 * n) (byte_of rows) in
    packed s (2 * n) (rows_bits n rows) e
    (λ i l. rw (tabulate-at (2 * n) (byte_of rows) i 0 (rw e at l)) (omega arith))
    (unpack-rows n s rows e (λ i l. tabulate-at (2 * n) (byte_of rows) i 0 l))

-- The two bytes of row r.
pub byte_high : (rows : List ℕ) (r : ℕ) → get_or rows r 0 / 2 ^ 8 % 256 ≡ byte_of rows (2 * r)
byte_high rows r =
    let a : r ≡ 2 * r / 2 = omega arith in
    let b : 8 ≡ 8 - 8 * (2 * r % 2) = omega arith in
    ap₂ (λ q k. get_or rows q 0 / 2 ^ k % 2 ^ 8) a b

pub byte_low : (rows : List ℕ) (r : ℕ) → get_or rows r 0 % 256 ≡ byte_of rows (2 * r + 1)
byte_low rows r =
    let a : r ≡ (2 * r + 1) / 2 = omega arith in
    let b : 0 ≡ 8 - 8 * ((2 * r + 1) % 2) = omega arith in
    let c : get_or rows r 0 % 256 ≡ get_or rows r 0 / 2 ^ 0 % 2 ^ 8 = omega arith in
    c ∙ ap₂ (λ q k. get_or rows q 0 / 2 ^ k % 2 ^ 8) a b

-- Two more entries are stored.
pub fill-two : (f : ℕ → ℕ) (k n : ℕ) (old new : List ℕ) (x y : ℕ) → k + 1 < length old → k + 1 + 1 ≡ n → new ≡ filled f k old → x ≡ f k → y ≡ f (k + 1)
    → set (set new k x) (k + 1) y ≡ filled f n old
fill-two f k n old new x y l e h ex ey =
    ap (λ o. set (set o k x) (k + 1) y) h
    ∙ ap (λ o. set o (k + 1) y) (fill-next f k old x (omega arith) ex)
    ∙ fill-next f (k + 1) old y l ey
    ∙ ap (λ m. filled f m old) e

-- The bytes of a row made of two bytes are these.
row-byte : (bytes : List ℕ) (i h r : ℕ) → 2 * r + h ≡ i → h < 2 → get_or bytes (2 * r) 0 < 256 → get_or bytes (2 * r + 1) 0 < 256
    → byte_row bytes r / 2 ^ (8 - 8 * h) % 2 ^ 8 ≡ get_or bytes i 0
row-byte bytes i zero r e l a b = let x : byte_row bytes r / 256 % 256 ≡ get_or bytes (2 * r) 0 = omega arith in x ∙ ap (λ k. get_or bytes k 0) (omega arith)
row-byte bytes i (suc zero) r e l a b =
    let x : byte_row bytes r / 1 % 256 ≡ get_or bytes (2 * r + 1) 0 = omega arith in x ∙ ap (λ k. get_or bytes k 0) (omega arith)
row-byte bytes i (suc (suc h)) r e l a b = absurd (omega arith)

-- Rows made of bytes have their bits.
pub rows_made : (n : ℕ) (bytes : List ℕ) → length bytes ≡ 2 * n → ((i : ℕ) → i < length bytes → get_or bytes i 0 < 256)
    → rows_bits n (tabulate n (byte_row bytes)) ≡ unpack bytes
rows_made n bytes e h = sym (unpack-rows n bytes (tabulate n (byte_row bytes)) e (λ i l.
    let r : ℕ = i / 2 in
    let lr : r < n = omega arith in
    sym (ap (λ x. x / 2 ^ (8 - 8 * (i % 2)) % 2 ^ 8) (tabulate-at n (byte_row bytes) r 0 lr)
    ∙ row-byte bytes i (i % 2) r (omega arith) (omega arith) (h (2 * r) (omega arith)) (h (2 * r + 1) (omega arith)))))
