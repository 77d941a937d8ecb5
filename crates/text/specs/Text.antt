-- Numbers and bytes as text, in ASCII codes. Assumes nothing.
use Rattle.std.specs.Prelude.{true, false, List, [], ◌∷◌, ◌++◌, ℕ, zero, suc, ◌+◌, ◌/◌, ◌%◌, ltb}

-- The digit of a number below 16: `0` to `9`, then `a` to `f`.
abbrev pub hex_digit : ℕ → ℕ
hex_digit d = elim (ltb d 10) [ true ↦ 48 + d | false ↦ 87 + d ]

-- The decimal digits of n, of which there are at most k.
unfoldable pub decimal_within : ℕ → ℕ → List ℕ
decimal_within zero n = []
decimal_within (suc k) n = elim (ltb n 10) [ true ↦ hex_digit n ∷ [] | false ↦ decimal_within k (n / 10) ++ (hex_digit (n % 10) ∷ []) ]

-- The decimal digits of n, the most significant first, with no leading zero. A number n has at most n + 1 of them.
unfoldable pub decimal : ℕ → List ℕ
decimal n = decimal_within (suc n) n

-- Bytes in small hexadecimal, two digits each.
unfoldable pub hexadecimal : List ℕ → List ℕ
hexadecimal [] = []
hexadecimal (b ∷ bytes) = hex_digit (b / 16) ∷ hex_digit (b % 16) ∷ hexadecimal bytes
