-- Laws of packed bits, for every width. Assumes nothing.
use mathlib.Core.Path.{◌≡◌, refl, sym, ap, ap₂, ◌∙◌}
use mathlib.Core.Bool.{Bool, true, false, ◌&&◌}
use mathlib.Core.List.{List, [], ◌∷◌, ◌++◌, append_assoc, append-nil}
use Prim.Native.Nat.{ℕ, zero, suc, ◌+◌, ◌-◌, ◌*◌, ◌/◌, ◌%◌, ◌^◌, ◌≤◌, ◌<◌, min, max}
use native.Mathlib.Nat.{mod-lt, mod-one, mod_self, mod-eq_of_lt, div_self, div-eq_of_lt, zero-div, mul-add-mod_self_right, max-eq_right}
use native.Mathlib.Nat.{zero-add, suc-add, suc-sub-suc, mul-suc, mul_comm, mul_assoc, add-mul, add_comm, zero-mul, one-mul, two-pow-succ, le_of_suc-le-suc, lt_of_lt_of_le, div-div-eq-div-mul}
use native.Mathlib.Numerals.{one-add, add-one}
use native.Mathlib.Omega.{arith}
use lib.Bits.{bit_and, bit_xor, bit_or, differ, and_shr, and_step, xor_shr, xor_step, or_shr, or_step, or_mod, or_zero_r}
use lib.Count.{count_leading_zeros, leading_of_zero, leading_top}
use lib.Dec.{eqb, lit<}
use lib.ListN.{length, get_or, set, take, drop, replicate, length-append, replicate-append-replicate, get_or-append}
use lib.Pow.{pow_pos, pow_mono, pow-lt, pow-add, high, low, mod-pow-add, mod-mod-pow, field, shl_exact, shr_lt, shr_mono}
use lib.Seq.{get_or-append-add, set-append_left, set_at, drop_at, drop-nil, drop-cons, drop-drop, drop-append-add}
use Rattle.base.specs.Bit.{bit, ◌⊕◌, odd, tabulate, digit}
use Rattle.base.proofs.List.{tabulate-cong}
use Rattle.bits.specs.Packed.{bits, number, unpack, pad, pack}

-- ---- the bits of a number

-- There are as many bits as the width says.
pub length-bits : (n x : ℕ) → length (bits n x) ≡ n
unfolding bits
length-bits zero x = refl
length-bits (suc n) x = ap suc (length-bits n x)

-- Bit i, by a shift.
pub bits_at : (n x i : ℕ) → i < n → bit (bits n x) i ≡ odd (x / 2 ^ (n - suc i))
unfolding bits
bits_at zero x i h = absurd (omega arith)
bits_at (suc n) x zero h = let e : n ≡ suc n - 1 = omega arith in ap (λ k. odd (x / 2 ^ k)) e
bits_at (suc n) x (suc i) h =
    let e : n - suc i ≡ suc n - suc (suc i) = omega arith in
    bits_at n x i (omega arith) ∙ ap (λ k. odd (x / 2 ^ k)) e

-- The same at width m + 1, with the shift that the code makes.
pub bits-shift : (m x i : ℕ) → i ≤ m → bit (bits (suc m) x) i ≡ odd (x / 2 ^ (m - i))
bits-shift m x i h = bits_at (suc m) x i (omega arith) ∙ ap (λ k. odd (x / 2 ^ k)) (suc-sub-suc m i)

-- Two digits differ where the sum of their bits is 1.
odd-differ : (a b : ℕ) → a < 2 → b < 2 → eqb (differ a b % 2) 1 ≡ eqb a 1 ⊕ eqb b 1
odd-differ zero zero h g = refl
odd-differ zero (suc zero) h g = refl
odd-differ zero (suc (suc b)) h g = absurd (omega arith)
odd-differ (suc zero) zero h g = refl
odd-differ (suc zero) (suc zero) h g = refl
odd-differ (suc zero) (suc (suc b)) h g = absurd (omega arith)
odd-differ (suc (suc a)) b h g = absurd (omega arith)

-- The lowest bit of a sum without carries.
odd-xor : (a b : ℕ) → odd (bit_xor a b) ≡ odd a ⊕ odd b
odd-xor a b =
    ap odd (xor_step a b)
    ∙ ap (λ x. eqb x 1) (mul-add-mod_self_right (bit_xor (a / 2) (b / 2)) 2 (differ (a % 2) (b % 2)))
    ∙ odd-differ (a % 2) (b % 2) (omega arith) (omega arith)

-- The bits of `a ^ b` are the sums of the bits of a and b.
pub xor-at : (n a b i : ℕ) → bit (bits n (bit_xor a b)) i ≡ bit (bits n a) i ⊕ bit (bits n b) i
unfolding bits
xor-at zero a b i = refl
xor-at (suc n) a b zero = ap odd (xor_shr a b n) ∙ odd-xor (a / 2 ^ n) (b / 2 ^ n)
xor-at (suc n) a b (suc i) = xor-at n a b i

-- The bits of 0 are 0.
pub bits-zero : (n : ℕ) → bits n 0 ≡ replicate n false
unfolding bits
bits-zero zero = refl
bits-zero (suc n) = ap₂ ◌∷◌ (ap odd (zero-div (2 ^ n))) (bits-zero n)

-- Bit i of 0 is 0.
pub zero-at : (n i : ℕ) → bit (bits n 0) i ≡ false
unfolding bits
zero-at zero i = refl
zero-at (suc n) zero = ap odd (zero-div (2 ^ n))
zero-at (suc n) (suc i) = zero-at n i

-- What stands above the lowest j + n bits does not count.
pub bits-low : (n j x : ℕ) → bits n (x % 2 ^ (j + n)) ≡ bits n x
unfolding bits
bits-low zero j x = refl
bits-low (suc n) j x =
    let e : j + suc n ≡ suc j + n = omega arith in
    rw e
    (ap₂ ◌∷◌
    (ap odd (field x (suc j) n ∙ ap (λ k. x / 2 ^ n % 2 ^ k) (sym (add-one j))) ∙ ap (λ y. eqb y 1) (mod-mod-pow (x / 2 ^ n) j 1))
    (bits-low n (suc j) x))

-- What stands above the lowest n bits does not count.
pub bits-mod : (n x : ℕ) → bits n (x % 2 ^ n) ≡ bits n x
bits-mod n x = ap (λ k. bits n (x % 2 ^ k)) (sym (zero-add n)) ∙ bits-low n 0 x

-- The high bits and the low bits, apart.
pub bits-split : (j k x : ℕ) → bits (j + k) x ≡ bits j (x / 2 ^ k) ++ bits k x
unfolding bits
bits-split zero k x = ap (λ n. bits n x) (zero-add k)
bits-split (suc j) k x =
    rw suc-add
    (ap₂ ◌∷◌
    (ap (λ y. odd (x / y)) (ap (λ n. 2 ^ n) (add_comm j k) ∙ pow-add 2 k j) ∙ ap odd (sym (div-div-eq-div-mul x (2 ^ k) (2 ^ j))))
    (bits-split j k x))

-- The low bits alone.
drop_bits : (j k x : ℕ) → drop j (bits (j + k) x) ≡ bits k x
drop_bits j k x = ap (drop j) (bits-split j k x) ∙ drop_at (bits j (x / 2 ^ k)) (bits k x) j (length-bits j (x / 2 ^ k))

-- Two digits are both 1 where their bits are.
odd-min : (a b : ℕ) → a < 2 → b < 2 → eqb (min a b % 2) 1 ≡ eqb a 1 && eqb b 1
odd-min zero zero h g = refl
odd-min zero (suc zero) h g = refl
odd-min zero (suc (suc b)) h g = absurd (omega arith)
odd-min (suc zero) zero h g = refl
odd-min (suc zero) (suc zero) h g = refl
odd-min (suc zero) (suc (suc b)) h g = absurd (omega arith)
odd-min (suc (suc a)) b h g = absurd (omega arith)

-- The lowest bit of `a & b`.
odd-and : (a b : ℕ) → odd (bit_and a b) ≡ odd a && odd b
odd-and a b =
    ap odd (and_step a b)
    ∙ ap (λ x. eqb x 1) (mul-add-mod_self_right (bit_and (a / 2) (b / 2)) 2 (min (a % 2) (b % 2)))
    ∙ odd-min (a % 2) (b % 2) (omega arith) (omega arith)

-- The bits of `a & b` are those that both have.
pub and_at : (n a b i : ℕ) → bit (bits n (bit_and a b)) i ≡ bit (bits n a) i && bit (bits n b) i
unfolding bits
and_at zero a b i = refl
and_at (suc n) a b zero = ap odd (and_shr a b n) ∙ odd-and (a / 2 ^ n) (b / 2 ^ n)
and_at (suc n) a b (suc i) = and_at n a b i

-- The machine's count of the zeros above the highest bit that is set: each bit before it is 0, and the bit there is 1.
pub leading-bits : (n x : ℕ) → x < 2 ^ n
    → ((i : ℕ) → i < count_leading_zeros n x → bit (bits n x) i ≡ false) × (count_leading_zeros n x < n → bit (bits n x) (count_leading_zeros n x) ≡ true)
leading-bits n zero h = ((λ i _. zero-at n i), λ l. absurd (omega (arith, leading_of_zero n)))
leading-bits n (suc y) h =
    let x : ℕ = suc y in
    let k = count_leading_zeros n x in
    let top = leading_top n x (omega arith) h in
    let j = top.0 in
    let e : n - suc k ≡ j = omega (arith, top.1) in
    let one : x / 2 ^ j ≡ 1 = omega (arith, shr_lt {n = x} 1 j (rw one-add top.3), shr_mono j top.2, div_self (pow_pos j)) in (
      (λ i l.
          let f : suc j ≤ n - suc i = omega (arith, top.1) in
          bits_at n x i (omega (arith, top.1)) ∙ ap odd (div-eq_of_lt (lt_of_lt_of_le top.3 (pow_mono f)))),
      (λ l. bits_at n x k l ∙ ap (λ m. odd (x / 2 ^ m)) e ∙ ap odd one),
    )

-- ---- one bit set

-- A number with its lowest bit set is odd.
odd-or : (x : ℕ) → odd (bit_or x 1) ≡ true
odd-or x =
    ap odd (or_step x 1)
    ∙ ap (λ y. eqb y 1) (mul-add-mod_self_right (bit_or (x / 2) (1 / 2)) 2 (max (x % 2) 1))
    ∙ ap odd (max-eq_right (le_of_suc-le-suc (mod-lt x (lit< tt))))

-- A bit is set that has i bits above it and k below.
or-between : (i k x : ℕ) → bits (i + suc k) (bit_or x (2 ^ k)) ≡ set (bits (i + suc k) x) i true
unfolding bits
or-between i k x =
    let y = bit_or x (2 ^ k) in
    let above : y / 2 ^ suc k ≡ x / 2 ^ suc k =
    or_shr x (2 ^ k) (suc k) ∙ ap (bit_or (x / 2 ^ suc k)) (div-eq_of_lt (pow-lt (omega arith))) ∙ or_zero_r (x / 2 ^ suc k) in
    let here : odd (y / 2 ^ k) ≡ true =
    ap odd (or_shr x (2 ^ k) k ∙ ap (bit_or (x / 2 ^ k)) (div_self (pow_pos k))) ∙ odd-or (x / 2 ^ k) in
    let below : bits k y ≡ bits k x =
    sym (bits-mod k y)
    ∙ ap (bits k) (or_mod x (2 ^ k) k ∙ ap (bit_or (x % 2 ^ k)) (mod_self (2 ^ k)) ∙ or_zero_r (x % 2 ^ k))
    ∙ bits-mod k x in
    bits-split i (suc k) y
    ∙ ap₂ ◌++◌ (ap (bits i) above) (ap₂ ◌∷◌ here below)
    ∙ sym (set_at (bits i (x / 2 ^ suc k)) (odd (x / 2 ^ k)) (bits k x) true i (length-bits i (x / 2 ^ suc k)))
    ∙ ap (λ l. set l i true) (sym (bits-split i (suc k) x))

-- Bit i of m + 1, set as the code sets it: by `|` with a shifted 1.
pub bits-or : (m x i : ℕ) → i ≤ m → bits (suc m) (bit_or x (1 * 2 ^ (m - i) % 2 ^ suc m)) ≡ set (bits (suc m) x) i true
bits-or m x i h =
    let e : suc m ≡ i + suc (m - i) = omega arith in
    ap (λ b. bits (suc m) (bit_or x b)) (shl_exact {a = 1} 1 (m - i) (suc m) (lit< tt) (omega arith) ∙ one-mul (2 ^ (m - i)))
    ∙ ap (λ n. bits n (bit_or x (2 ^ (m - i)))) e
    ∙ or-between i (m - i) x
    ∙ ap (λ n. set (bits n x) i true) (sym e)

-- ---- the number of some bits

-- The number is below the power of the width.
pub number_lt : (l : List Bool) → number l < 2 ^ length l
unfolding number
number_lt [] = omega arith
number_lt (false ∷ l) = let h = number_lt l in rw (two-pow-succ (length l)) (omega (arith, zero-mul (2 ^ length l)))
number_lt (true ∷ l) = let h = number_lt l in rw (two-pow-succ (length l)) (omega (arith, one-mul (2 ^ length l)))

-- A digit is the number of its bit.
digit-small : (a : ℕ) → a < 2 → digit (eqb a 1) ≡ a
digit-small zero h = refl
digit-small (suc zero) h = refl
digit-small (suc (suc a)) h = absurd (omega arith)

-- A bit as a number is the remainder.
pub digit-odd : (x : ℕ) → digit (odd x) ≡ x % 2
digit-odd x = digit-small (x % 2) (omega arith)

-- The number of a bit is odd where the bit is 1.
odd-digit : (b : Bool) → odd (digit b) ≡ b
odd-digit false = refl
odd-digit true = refl

-- A number's bits make the number, but for what stands above them.
pub number-bits : (n x : ℕ) → number (bits n x) ≡ x % 2 ^ n
unfolding number bits
number-bits zero x = sym (mod-one x)
number-bits (suc n) x =
    ap₂ (λ a k. a * 2 ^ k + number (bits n x)) (digit-odd (x / 2 ^ n)) (length-bits n x)
    ∙ ap (λ y. (x / 2 ^ n % 2) * 2 ^ n + y) (number-bits n x)
    ∙ sym (ap (λ k. x % 2 ^ k) (sym (one-add n)) ∙ mod-pow-add x 1 n)

-- A number that fits comes back from its bits.
pub number-bits-fit : (n x : ℕ) → x < 2 ^ n → number (bits n x) ≡ x
number-bits-fit n x h = number-bits n x ∙ mod-eq_of_lt h

-- The bits of the number that bits make are those.
pub bits-number : (l : List Bool) → bits (length l) (number l) ≡ l
unfolding bits number
bits-number [] = refl
bits-number (b ∷ l) =
    let n = length l in
    let x = digit b * 2 ^ n + number l in
    ap₂ ◌∷◌
    (ap odd (high (digit b) n (number_lt l)) ∙ odd-digit b)
    (sym (bits-mod n x)
    ∙ ap (bits n) (mul-add-mod_self_right (digit b) (2 ^ n) (number l) ∙ mod-eq_of_lt (number_lt l))
    ∙ bits-number l)

-- Bits after bits: the first ones count above the width of the others.
pub number_append : (a b : List Bool) → number (a ++ b) ≡ number a * 2 ^ length b + number b
unfolding number
number_append [] b = omega (arith, zero-mul (2 ^ length b))
number_append (c ∷ a) b =
    let x : ℕ = 2 ^ length a in
    let y : ℕ = 2 ^ length b in
    ap₂ (λ p q. digit c * p + q) (ap (λ k. 2 ^ k) (length-append a b) ∙ pow-add 2 (length a) (length b)) (number_append a b)
    ∙ omega (arith, mul_assoc (digit c) x y, add-mul (digit c * x) (number a) y)

-- Cleared bits make 0.
pub number-zeros : (n : ℕ) → number (replicate n false) ≡ 0
unfolding number
number-zeros zero = refl
number-zeros (suc n) = omega (arith, zero-mul (2 ^ length (replicate n false)), number-zeros n)

-- ---- the bits of bytes

-- There are eight bits to a byte.
pub length-unpack : (s : List ℕ) → length (unpack s) ≡ 8 * length s
unfolding unpack
length-unpack [] = refl
length-unpack (x ∷ s) = rw (length-append, length-bits, mul-suc) (omega (arith, length-unpack s))

-- Bytes after bytes are bits after bits.
pub unpack-append : (s t : List ℕ) → unpack (s ++ t) ≡ unpack s ++ unpack t
unfolding unpack
unpack-append [] t = refl
unpack-append (x ∷ s) t = ap (λ l. bits 8 x ++ l) (unpack-append s t) ∙ sym (append_assoc (bits 8 x) (unpack s) (unpack t))

-- The bytes from i on: byte i and those after it.
pub unpack-next : (s : List ℕ) (i : ℕ) → i < length s → unpack (drop i s) ≡ bits 8 (get_or s i 0) ++ unpack (drop (i + 1) s)
unfolding unpack
unpack-next s i h = rw add-one (ap unpack (drop-cons s i 0 h))

-- Bit r of byte q stands at 8 q + r, and past the end all is 0.
byte-at : (s : List ℕ) (q r : ℕ) → r < 8 → bit (unpack s) (8 * q + r) ≡ bit (bits 8 (get_or s q 0)) r
unfolding unpack
byte-at [] q r h = sym (zero-at 8 r)
byte-at (x ∷ s) zero r h =
    ap (bit (bits 8 x ++ unpack s)) (zero-add r) ∙ get_or-append (bits 8 x) (unpack s) false r (rw length-bits h)
byte-at (x ∷ s) (suc q) r h =
    let e : 8 * suc q + r ≡ length (bits 8 x) + (8 * q + r) = omega (arith, length-bits 8 x) in
    ap (bit (bits 8 x ++ unpack s)) e ∙ get_or-append-add (bits 8 x) (unpack s) (8 * q + r) false ∙ byte-at s q r h

-- Bit i is read from the byte that holds it.
pub unpack-at : (s : List ℕ) (i : ℕ) → bit (unpack s) i ≡ bit (bits 8 (get_or s (i / 8) 0)) (i % 8)
unpack-at s i =
    let e : i ≡ 8 * (i / 8) + i % 8 = omega arith in
    ap (bit (unpack s)) e ∙ byte-at s (i / 8) (i % 8) (omega arith)

-- A bit of the second list is set.
set-append-add : (a b : List Bool) (k : ℕ) (v : Bool) → set (a ++ b) (length a + k) v ≡ a ++ set b k v
set-append-add [] b k v = rw zero-add
set-append-add (c ∷ a) b k v = rw suc-add (ap (λ l. c ∷ l) (set-append-add a b k v))

-- Byte q is stored with its bit r changed.
byte-set : (s : List ℕ) (q r n : ℕ) (v : Bool) → r < 8 → bits 8 n ≡ set (bits 8 (get_or s q 0)) r v
    → unpack (set s q n) ≡ set (unpack s) (8 * q + r) v
unfolding unpack
byte-set [] q r n v h e = refl
byte-set (x ∷ s) zero r n v h e =
    ap (λ l. l ++ unpack s) e
    ∙ sym (ap (λ k. set (bits 8 x ++ unpack s) k v) (zero-add r) ∙ set-append_left (bits 8 x) (unpack s) r v (rw length-bits h))
byte-set (x ∷ s) (suc q) r n v h e =
    let f : 8 * suc q + r ≡ length (bits 8 x) + (8 * q + r) = omega (arith, length-bits 8 x) in
    ap (λ l. bits 8 x ++ l) (byte-set s q r n v h e)
    ∙ sym (ap (λ k. set (bits 8 x ++ unpack s) k v) f ∙ set-append-add (bits 8 x) (unpack s) (8 * q + r) v)

-- A byte that is changed in one bit changes that bit of the list.
pub unpack-set : (s : List ℕ) (i n : ℕ) (v : Bool) → bits 8 n ≡ set (bits 8 (get_or s (i / 8) 0)) (i % 8) v
    → unpack (set s (i / 8) n) ≡ set (unpack s) i v
unpack-set s i n v e =
    let f : 8 * (i / 8) + i % 8 ≡ i = omega arith in
    byte-set s (i / 8) (i % 8) n v (omega arith) e ∙ ap (λ k. set (unpack s) k v) f

-- Cleared bytes hold cleared bits.
pub unpack-zero : (n : ℕ) → unpack (replicate n 0) ≡ replicate (8 * n) false
unfolding unpack
unpack-zero zero = refl
unpack-zero (suc n) =
    let e : 8 * suc n ≡ 8 + 8 * n = omega arith in
    ap₂ ◌++◌ (bits-zero 8) (unpack-zero n) ∙ replicate-append-replicate 8 (8 * n) false ∙ ap (λ k. replicate k false) (sym e)

-- ---- the first n bits

-- There are n of them.
pub length-pad : (n : ℕ) (l : List Bool) → length (pad n l) ≡ n
unfolding pad
length-pad zero l = refl
length-pad (suc n) [] = ap suc (length-pad n [])
length-pad (suc n) (b ∷ l) = ap suc (length-pad n l)

-- The first part of two, where it has n bits.
pub pad-front : (n : ℕ) (a b : List Bool) → length a ≡ n → pad n (a ++ b) ≡ a
unfolding pad
pad-front zero [] b e = refl
pad-front zero (c ∷ a) b e = absurd (omega arith)
pad-front (suc n) [] b e = absurd (omega arith)
pad-front (suc n) (c ∷ a) b e = ap (λ l. c ∷ l) (pad-front n a b (omega arith))

-- A list of n bits is itself.
pub pad-whole : (n : ℕ) (l : List Bool) → length l ≡ n → pad n l ≡ l
pad-whole n l e = ap (pad n) (sym (append-nil l)) ∙ pad-front n l [] e

-- The first bits, and those after them.
pub pad-add : (j k : ℕ) (l : List Bool) → pad (j + k) l ≡ pad j l ++ pad k (drop j l)
unfolding pad
pad-add zero k l = ap (λ n. pad n l) (zero-add k)
pad-add (suc j) k [] = rw suc-add (ap (λ t. false ∷ t) (pad-add j k [] ∙ ap (λ t. pad j [] ++ pad k t) (drop-nil j)))
pad-add (suc j) k (b ∷ l) = rw suc-add (ap (λ t. b ∷ t) (pad-add j k l))

-- Fewer of them.
pad-pad : (k w : ℕ) (l : List Bool) → k ≤ w → pad k (pad w l) ≡ pad k l
unfolding pad
pad-pad zero w l h = refl
pad-pad (suc k) zero l h = absurd (omega arith)
pad-pad (suc k) (suc w) [] h = ap (λ t. false ∷ t) (pad-pad k w [] (omega arith))
pad-pad (suc k) (suc w) (b ∷ l) h = ap (λ t. b ∷ t) (pad-pad k w l (omega arith))

-- Some of them from bit n on.
pad-drop : (k n w : ℕ) (l : List Bool) → n + k ≤ w → pad k (drop n (pad w l)) ≡ pad k (drop n l)
unfolding pad
pad-drop k zero w l h = pad-pad k w l (omega arith)
pad-drop k (suc n) zero l h = absurd (omega arith)
pad-drop k (suc n) (suc w) [] h = pad-drop k n w [] (omega arith) ∙ ap (pad k) (drop-nil n)
pad-drop k (suc n) (suc w) (b ∷ l) h = pad-drop k n w l (omega arith)

-- w bits from bit n on, by the shift that the code makes.
pub bits-from : (w k x n : ℕ) (l : List Bool) → n ≤ k → bits (w + k) x ≡ pad (w + k) l → bits w (x / 2 ^ (k - n) % 2 ^ w) ≡ pad w (drop n l)
bits-from w k x n l h e =
    let y : ℕ = x / 2 ^ (k - n) in
    let f : w + k ≡ n + (w + (k - n)) = omega arith in
    bits-mod w y
    ∙ sym (pad-front w (bits w y) (bits (k - n) x) (length-bits w y))
    ∙ ap (pad w) (sym (bits-split w (k - n) x) ∙ sym (drop_bits n (w + (k - n)) x) ∙ ap (λ m. drop n (bits m x)) (sym f) ∙ ap (drop n) e)
    ∙ pad-drop w n (w + k) l (omega arith)

-- Byte q, and past the end 0.
byte-from : (s : List ℕ) (q : ℕ) → pad 8 (drop (8 * q) (unpack s)) ≡ bits 8 (get_or s q 0)
unfolding unpack bits pad
byte-from [] q = ap (pad 8) (drop-nil (8 * q))
byte-from (x ∷ s) zero = pad-front 8 (bits 8 x) (unpack s) (length-bits 8 x)
byte-from (x ∷ s) (suc q) =
    let e : 8 * suc q ≡ length (bits 8 x) + 8 * q = omega (arith, length-bits 8 x) in
    ap (λ n. pad 8 (drop n (bits 8 x ++ unpack s))) e
    ∙ ap (pad 8) (drop-append-add (bits 8 x) (unpack s) (8 * q))
    ∙ byte-from s q

-- Two numbers of w bits side by side.
pub side_by_side : (w x y : ℕ) (l : List Bool) → y < 2 ^ w → bits w x ≡ pad w l → bits w y ≡ pad w (drop w l) → bits (w + w) (2 ^ w * x + y) ≡ pad (w + w) l
side_by_side w x y l h a b =
    let e : 2 ^ w * x + y ≡ x * 2 ^ w + y = ap (λ n. n + y) (mul_comm (2 ^ w) x) in
    bits-split w w (2 ^ w * x + y)
    ∙ ap₂ ◌++◌
    (ap (bits w) (ap (λ n. n / 2 ^ w) e ∙ high x w h) ∙ a)
    (sym (bits-mod w (2 ^ w * x + y)) ∙ ap (bits w) (ap (λ n. n % 2 ^ w) e ∙ low x w h) ∙ b)
    ∙ sym (pad-add w w l)

-- Two bytes, from byte q on.
pub two-bytes-from : (s : List ℕ) (q x : ℕ) → x ≡ 256 * get_or s q 0 + get_or s (q + 1) 0 → get_or s (q + 1) 0 < 256
    → bits 16 x ≡ pad 16 (drop (8 * q) (unpack s))
two-bytes-from s q x e h =
    let f : 8 * (q + 1) ≡ 8 * q + 8 = omega arith in
    ap (bits 16) e
    ∙ side_by_side 8 (get_or s q 0) (get_or s (q + 1) 0) (drop (8 * q) (unpack s)) h
    (sym (byte-from s q))
    (sym (byte-from s (q + 1)) ∙ ap (λ n. pad 8 (drop n (unpack s))) f ∙ ap (pad 8) (sym (drop-drop 8 (8 * q) (unpack s))))

-- ---- bytes from bits

-- Byte i of packed bits.
abbrev pub byte_at : List Bool → ℕ → ℕ
byte_at l i = number (pad 8 (drop (8 * i) l))

-- Packed bits are these bytes.
pub pack-bytes : (n : ℕ) (l : List Bool) → pack n l ≡ tabulate n (byte_at l)
unfolding pack tabulate
pack-bytes zero l = refl
pack-bytes (suc n) l =
    ap (λ t. number (pad 8 l) ∷ t)
    (pack-bytes n (drop 8 l)
    ∙ tabulate-cong n (λ i _. let e : 8 + 8 * i ≡ 8 * suc i = omega arith in ap (λ t. number (pad 8 t)) (drop-drop (8 * i) 8 l ∙ ap (λ k. drop k l) e)))

-- Byte i where its bits are known, with those after it.
pub byte_next : (l a r : List Bool) (i : ℕ) → length a ≡ 8 → a ++ r ≡ drop (8 * i) l → (number a ≡ byte_at l i) × (r ≡ drop (8 * (i + 1)) l)
byte_next l a r i h e =
    let f : 8 * i + 8 ≡ 8 * (i + 1) = omega arith in (
      ap number (sym (pad-front 8 a r h) ∙ ap (pad 8) e),
      sym (drop_at a r 8 h) ∙ ap (drop 8) e ∙ drop-drop 8 (8 * i) l ∙ ap (λ k. drop k l) f,
    )

-- There are as many bytes as asked for.
pub length-pack : (n : ℕ) (l : List Bool) → length (pack n l) ≡ n
unfolding pack
length-pack zero l = refl
length-pack (suc n) l = ap suc (length-pack n (drop 8 l))

-- Each is a byte.
pub pack-lt : (n : ℕ) (l : List Bool) (i : ℕ) → get_or (pack n l) i 0 < 256
unfolding pack
pack-lt zero l i = lit< tt
pack-lt (suc n) l zero = rw length-pad at (number_lt (pad 8 l))
pack-lt (suc n) l (suc i) = pack-lt n (drop 8 l) i

-- Bytes are what packing their bits gives.
pub pack-unpack : (s : List ℕ) → ((i : ℕ) → i < length s → get_or s i 0 < 256) → pack (length s) (unpack s) ≡ s
unfolding pack unpack
pack-unpack [] h = refl
pack-unpack (x ∷ s) h =
    ap₂ ◌∷◌
    (ap number (pad-front 8 (bits 8 x) (unpack s) (length-bits 8 x)) ∙ number-bits-fit 8 x (h 0 (omega arith)))
    (ap (pack (length s)) (drop_at (bits 8 x) (unpack s) 8 (length-bits 8 x)) ∙ pack-unpack s (λ i l. h (suc i) (omega arith)))

-- The bits of packed bits are the first of them.
pub unpack-pack-pad : (n : ℕ) (l : List Bool) → unpack (pack n l) ≡ pad (8 * n) l
unfolding pack unpack pad
unpack-pack-pad zero l = refl
unpack-pack-pad (suc n) l =
    let e : 8 * suc n ≡ 8 + 8 * n = omega arith in
    ap₂ ◌++◌
    (ap (λ k. bits k (number (pad 8 l))) (sym (length-pad 8 l)) ∙ bits-number (pad 8 l))
    (unpack-pack-pad n (drop 8 l))
    ∙ sym (ap (λ k. pad k l) e ∙ pad-add 8 (8 * n) l)

-- Bits that fill the bytes come back from them.
pub unpack-pack : (n : ℕ) (l : List Bool) → length l ≡ 8 * n → unpack (pack n l) ≡ l
unpack-pack n l e = unpack-pack-pad n l ∙ pad-whole (8 * n) l e

-- Bytes with given bits are those bits, packed.
pub packed : (s : List ℕ) (n : ℕ) (l : List Bool) → length s ≡ n → ((i : ℕ) → i < length s → get_or s i 0 < 256) → unpack s ≡ l → pack n l ≡ s
packed s n l e h u = rw (← e, ← u) (pack-unpack s h)

-- The first bytes are the first bits, packed.
pub take-pack : (n m : ℕ) (l : List Bool) → n ≤ m → take n (pack m l) ≡ pack n l
unfolding pack
take-pack zero m l h = refl
take-pack (suc n) zero l h = absurd (omega arith)
take-pack (suc n) (suc m) l h = ap (λ t. number (pad 8 l) ∷ t) (take-pack n m (drop 8 l) (omega arith))
