-- The printed digits read back: decimal digits give the number and do not begin with 0, hexadecimal digits give the bytes.
-- Assumes nothing.
use mathlib.Core.Path.{◌≡◌, refl, sym, ap, ap₂, ◌∙◌}
use mathlib.Core.Bool.{true, false}
use mathlib.Core.List.{List, [], ◌∷◌, ◌++◌}
use Prim.Native.Nat.{ℕ, zero, suc, ◌+◌, ◌-◌, ◌*◌, ◌/◌, ◌%◌, ◌<◌}
use native.Mathlib.Decide.{dec_lt}
use native.Mathlib.Omega.{arith}
use borrow.Author.Tests.{lt-ltb, le-ltb}
use lib.Dec.{ltb}
use lib.ListN.{length, get_or}
use Rattle.text.specs.Text.{hex_digit, decimal, hexadecimal}
use Rattle.text.proofs.Text.{digit_low, digit-high, decimal-one, decimal-more}

-- The number of a digit's ASCII code, of small hexadecimal.
abbrev pub worth : ℕ → ℕ
worth c = elim (ltb c 58) [ true ↦ c - 48 | false ↦ c - 87 ]

worth-digit : (d : ℕ) → d < 16 → worth (hex_digit d) ≡ d
worth-digit d l = go (dec_lt d 10)
  where
    below : (c : ℕ) → c < 58 → worth c ≡ c - 48
    below c h = ap (λ t. elim t as (λ _. ℕ) [ true ↦ c - 48 | false ↦ c - 87 ]) (lt-ltb c 58 h)

    above : (c : ℕ) → 58 < suc c → worth c ≡ c - 87
    above c h = ap (λ t. elim t as (λ _. ℕ) [ true ↦ c - 48 | false ↦ c - 87 ]) (le-ltb c 58 (omega arith))

    go : Dec (d < 10) → worth (hex_digit d) ≡ d
    go (yes h) = ap worth (sym (digit_low d h)) ∙ below (48 + d) (omega arith) ∙ omega arith
    go (no h) = ap worth (sym (digit-high d (omega arith))) ∙ above (87 + d) (omega arith) ∙ omega arith

-- ---- decimal

-- The number of some digits, the most significant first, after those that gave a.
unfoldable pub read_from : ℕ → List ℕ → ℕ
read_from a [] = a
read_from a (c ∷ text) = read_from (a * 10 + worth c) text

read-last : (a : ℕ) (text : List ℕ) (c : ℕ) → read_from a (text ++ (c ∷ [])) ≡ read_from a text * 10 + worth c
unfolding read_from
read-last a [] c = refl
read-last a (d ∷ text) c = read-last (a * 10 + worth d) text c

-- The digits of n are read as n,
read_below : (k n : ℕ) → n < k → read_from 0 (decimal n) ≡ n
unfolding read_from
read_below zero n l = absurd (omega arith)
read_below (suc k) n l = go (dec_lt n 10) (read_below k (n / 10))
  where
    one : n < 10 → read_from 0 (hex_digit n ∷ []) ≡ n
    one h = ap (λ x. 0 * 10 + x) (worth-digit n (omega arith)) ∙ omega arith

    go : Dec (n < 10) → (n / 10 < k → read_from 0 (decimal (n / 10)) ≡ n / 10) → read_from 0 (decimal n) ≡ n
    go (yes h) ih = ap (read_from 0) (decimal-one n h) ∙ one h
    go (no h) ih =
        ap (read_from 0) (decimal-more n (omega arith))
        ∙ read-last 0 (decimal (n / 10)) (hex_digit (n % 10))
        ∙ ap₂ (λ x y. x * 10 + y) (ih (omega arith)) (worth-digit (n % 10) (omega arith))
        ∙ omega arith

pub decimal-reads : (n : ℕ) → read_from 0 (decimal n) ≡ n
decimal-reads n = read_below (suc n) n (omega arith)

-- and where n is not 0 the first of them is not 0.
first_of : (text : List ℕ) (c : ℕ) → 48 < get_or text 0 0 → 48 < get_or (text ++ (c ∷ [])) 0 0
first_of [] c h = absurd (omega arith)
first_of (d ∷ text) c h = h

first_below : (k n : ℕ) → n < k → 0 < n → 48 < get_or (decimal n) 0 0
first_below zero n l p = absurd (omega arith)
first_below (suc k) n l p = go (dec_lt n 10) (first_below k (n / 10))
  where
    go : Dec (n < 10) → (n / 10 < k → 0 < n / 10 → 48 < get_or (decimal (n / 10)) 0 0) → 48 < get_or (decimal n) 0 0
    go (yes h) ih = rw (decimal-one n h, ← digit_low n h) (omega arith)
    go (no h) ih = rw (decimal-more n (omega arith)) (first_of (decimal (n / 10)) (hex_digit (n % 10)) (ih (omega arith) (omega arith)))

pub decimal-leads : (n : ℕ) → 0 < n → 48 < get_or (decimal n) 0 0
decimal-leads n = first_below (suc n) n (omega arith)

-- ---- hexadecimal

-- The bytes of digits, two to a byte.
unfoldable pub read_bytes : List ℕ → List ℕ
read_bytes [] = []
read_bytes (c ∷ []) = []
read_bytes (c ∷ d ∷ text) = (16 * worth c + worth d) ∷ read_bytes text

-- The digits of bytes are read as these bytes.
pub hexadecimal-reads : (bytes : List ℕ) → ((i : ℕ) → i < length bytes → get_or bytes i 0 < 256) → read_bytes (hexadecimal bytes) ≡ bytes
unfolding hexadecimal read_bytes
hexadecimal-reads [] h = refl
hexadecimal-reads (b ∷ bytes) h =
    let l : b < 256 = h 0 (omega arith) in
    ap₂ (λ x (t : List ℕ). x ∷ t)
    (ap₂ (λ x y. 16 * x + y) (worth-digit (b / 16) (omega arith)) (worth-digit (b % 16) (omega arith)) ∙ omega arith)
    (hexadecimal-reads bytes (λ i k. h (suc i) (omega arith)))
