-- Laws of decimal and hexadecimal text. Assumes nothing.
use mathlib.Core.Path.{◌≡◌, refl, sym, ap, ap₂, ◌∙◌}
use mathlib.Core.Bool.{Bool, true, false}
use mathlib.Core.List.{List, [], ◌∷◌, ◌++◌}
use Prim.Native.Nat.{ℕ, zero, suc, ◌+◌, ◌*◌, ◌/◌, ◌%◌, ◌^◌, ◌≤◌, ◌<◌}
use native.Mathlib.Nat.{pow-suc}
use native.Mathlib.Decide.{dec_lt}
use native.Mathlib.Numerals.{add-one}
use native.Mathlib.Omega.{arith}
use borrow.Author.Tests.{ltb-false, lt-ltb, le-ltb}
use lib.Dec.{ltb}
use lib.ListN.{length, get_or, take, set, length-append}
use lib.Seq.{length-take-le, take-suc}
use Rattle.text.specs.Text.{hex_digit, decimal_within, decimal, hexadecimal}
use Rattle.text.specs.Put.{stored, Put}
use Rattle.text.proofs.Stored.{length-stored, stored-none, stored_next}

-- ---- digits

pub digit_low : (d : ℕ) → d < 10 → 48 + d ≡ hex_digit d
digit_low d l = sym (ap (λ c. elim c as (λ _. ℕ) [ true ↦ 48 + d | false ↦ 87 + d ]) (lt-ltb d 10 l))

pub digit-high : (d : ℕ) → 10 ≤ d → 87 + d ≡ hex_digit d
digit-high d l = sym (ap (λ c. elim c as (λ _. ℕ) [ true ↦ 48 + d | false ↦ 87 + d ]) (le-ltb d 10 l))

-- ---- decimal

-- It does not matter how many digits are allowed beyond those that there are.
within_same : (k l n : ℕ) → n < k → n < l → decimal_within k n ≡ decimal_within l n
unfolding decimal_within
within_same zero l n a b = absurd (omega arith)
within_same (suc k) zero n a b = absurd (omega arith)
within_same (suc k) (suc l) n a b = go (ltb n 10) refl (within_same k l (n / 10))
  where
    go : (c : Bool) → ltb n 10 ≡ c → (n / 10 < k → n / 10 < l → decimal_within k (n / 10) ≡ decimal_within l (n / 10))
        → ◌≡◌ {A = List ℕ} (elim c [ true ↦ hex_digit n ∷ [] | false ↦ decimal_within k (n / 10) ++ (hex_digit (n % 10) ∷ []) ])
        (elim c [ true ↦ hex_digit n ∷ [] | false ↦ decimal_within l (n / 10) ++ (hex_digit (n % 10) ∷ []) ])
    go true e ih = refl
    go false e ih =
        let h = ltb-false n 10 e in
        ap (λ (r : List ℕ). r ++ (hex_digit (n % 10) ∷ [])) (ih (omega arith) (omega arith))

-- A number of one digit,
pub decimal-one : (n : ℕ) → n < 10 → decimal n ≡ hex_digit n ∷ []
unfolding decimal decimal_within
decimal-one n l =
    ap (λ c. elim c as (λ _. List ℕ) [ true ↦ hex_digit n ∷ [] | false ↦ decimal_within n (n / 10) ++ (hex_digit (n % 10) ∷ []) ]) (lt-ltb n 10 l)

-- and of more.
pub decimal-more : (n : ℕ) → 10 ≤ n → decimal n ≡ decimal (n / 10) ++ (hex_digit (n % 10) ∷ [])
unfolding decimal decimal_within
decimal-more n l =
    ap (λ c. elim c as (λ _. List ℕ) [ true ↦ hex_digit n ∷ [] | false ↦ decimal_within n (n / 10) ++ (hex_digit (n % 10) ∷ []) ]) (le-ltb n 10 l)
    ∙ ap (λ (r : List ℕ). r ++ (hex_digit (n % 10) ∷ [])) (within_same n (suc (n / 10)) (n / 10) (omega arith) (omega arith))

-- A number of more digits has one more than its tenth.
pub length_more : (n : ℕ) → 10 ≤ n → length (decimal n) ≡ length (decimal (n / 10)) + 1
length_more n l = ap length (decimal-more n l) ∙ length-append (decimal (n / 10)) (hex_digit (n % 10) ∷ [])

-- How many digits there are at most.
pub decimal-short : (k n : ℕ) → n < 10 ^ suc k → length (decimal n) ≤ suc k
decimal-short zero n l =
    let e = ap length (decimal-one n l) in
    omega (arith, e)
decimal-short (suc k) n l = go (dec_lt n 10) (decimal-short k (n / 10))
  where
    go : Dec (n < 10) → (n / 10 < 10 ^ suc k → length (decimal (n / 10)) ≤ suc k) → length (decimal n) ≤ suc (suc k)
    go (yes a) ih = omega (arith, ap length (decimal-one n a))
    go (no a) ih =
        let p : 10 ^ suc (suc k) ≡ 10 ^ suc k * 10 = pow-suc 10 (suc k) in
        let b : 10 ≤ n = omega arith in
        let t : n / 10 < 10 ^ suc k = omega (arith, p, l) in
        omega (arith, length_more n b, ih t)

-- The digit of a number that has one is put,
pub put_one : (n at x : ℕ) (old : List ℕ) → n < 10 → at + length (decimal n) ≤ length old → x ≡ hex_digit n → Put (decimal n) at (at + 1) old (set old at x)
put_one n at x old l room e =
    let d = decimal-one n l in
    let k : at ≡ at + length {A = ℕ} [] = omega arith in (
      omega (arith, ap length d),
      ap₂ (λ (o : List ℕ) j. set o j x) (stored-none at old) k
          ∙ stored_next [] at old x (omega (arith, ap length d, room))
          ∙ ap (λ (t : List ℕ). stored t at old) (ap (λ y. y ∷ []) e ∙ sym d),
    )

-- and the last digit of one that has more, after the others: there is room,
pub room-last : (n at end : ℕ) (old new : List ℕ) → 10 ≤ n → at + length (decimal n) ≤ length old → Put (decimal (n / 10)) at end old new
    → (end < length old) × (end < length new)
room-last n at end old new l room p =
    let h : end < length old = omega (arith, p.0, length_more n l, room) in
    let k : at + length (decimal (n / 10)) ≤ length old = omega (arith, length_more n l, room) in
    (h, omega (arith, h, ap length p.1 ∙ length-stored (decimal (n / 10)) at old k))

-- and then all are.
pub put_last : (n at end x : ℕ) (old new : List ℕ) → 10 ≤ n → at + length (decimal n) ≤ length old → Put (decimal (n / 10)) at end old new → x ≡ hex_digit (n % 10)
    → Put (decimal n) at (end + 1) old (set new end x)
put_last n at end x old new l room p e = (
  omega (arith, p.0, length_more n l),
  ap₂ (λ (o : List ℕ) j. set o j x) p.1 p.0
      ∙ stored_next (decimal (n / 10)) at old x (omega (arith, length_more n l, room))
      ∙ ap (λ (t : List ℕ). stored t at old) (ap (λ y. decimal (n / 10) ++ (y ∷ [])) e ∙ sym (decimal-more n l)),
)

-- ---- hexadecimal

pub length-hexadecimal : (bytes : List ℕ) → length (hexadecimal bytes) ≡ 2 * length bytes
unfolding hexadecimal
length-hexadecimal [] = refl
length-hexadecimal (b ∷ bytes) = omega (arith, length-hexadecimal bytes)

-- One byte more.
hexadecimal-next : (bytes : List ℕ) (b : ℕ) → hexadecimal (bytes ++ (b ∷ [])) ≡ hexadecimal bytes ++ (hex_digit (b / 16) ∷ []) ++ (hex_digit (b % 16) ∷ [])
unfolding hexadecimal
hexadecimal-next [] b = refl
hexadecimal-next (a ∷ bytes) b = ap (λ (r : List ℕ). hex_digit (a / 16) ∷ hex_digit (a % 16) ∷ r) (hexadecimal-next bytes b)

-- A loop has put i of the bytes, and puts the next.
pub hexadecimal-put : (bytes : List ℕ) (at end i : ℕ) (old out : List ℕ) → i < length bytes → at + length (hexadecimal bytes) ≤ length old → end ≡ at + 2 * i
    → out ≡ stored (hexadecimal (take i bytes)) at old
    → set (set out end (hex_digit (get_or bytes i 0 / 16))) (end + 1) (hex_digit (get_or bytes i 0 % 16)) ≡ stored (hexadecimal (take (i + 1) bytes)) at old
hexadecimal-put bytes at end i old out l room e s =
    let b : ℕ = get_or bytes i 0 in
    let xs : List ℕ = hexadecimal (take i bytes) in
    let high : List ℕ = hex_digit (b / 16) ∷ [] in
    let n : length xs ≡ 2 * i = length-hexadecimal (take i bytes) ∙ ap (λ m. 2 * m) (length-take-le i bytes (omega arith)) in
    let r : at + 2 * length bytes ≤ length old = omega (arith, length-hexadecimal bytes, room) in
    let k : end ≡ at + length xs = omega (arith, n, e) in
    let m : end + 1 ≡ at + length (xs ++ high) = omega (arith, n, e, length-append xs high) in
    ap₂ (λ (o : List ℕ) j. set (set o j (hex_digit (b / 16))) (end + 1) (hex_digit (b % 16))) s k
    ∙ ap₂ (λ (o : List ℕ) j. set o j (hex_digit (b % 16))) (stored_next xs at old (hex_digit (b / 16)) (omega (arith, n, r))) m
    ∙ stored_next (xs ++ high) at old (hex_digit (b % 16)) (omega (arith, n, r, length-append xs high))
    ∙ ap (λ (t : List ℕ). stored t at old) (sym (ap hexadecimal (ap (λ j. take j bytes) (add-one i) ∙ take-suc bytes i 0 l) ∙ hexadecimal-next (take i bytes) b))
