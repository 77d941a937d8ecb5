-- The Hadamard transform of 2 ^ t values. Assumes nothing.
use Rattle.std.specs.Prelude.{Bool, ◌&&◌, ℕ, zero, suc, ◌/◌, ◌^◌, ℤ, pos, ◌+ℤ◌}
use Rattle.base.specs.Bit.{odd, parity}
use Rattle.values.specs.Value.{turned}

-- f 0 + f 1 + .. + f (n - 1), over the integers.
unfoldable pub int_sum : ℕ → (ℕ → ℤ) → ℤ
int_sum zero f = pos 0
int_sum (suc n) f = f zero +ℤ int_sum n (λ i. f (suc i))

-- Whether an odd number of the lowest t bits are set in both w and x.
abbrev pub shared : ℕ → ℕ → ℕ → Bool
shared t w x = parity t (λ j. odd (w / 2 ^ j) && odd (x / 2 ^ j))

-- The transform at place w: the sum of the values, the one at place x negated where w and x share an odd number of set bits.
abbrev pub transform : ℕ → (ℕ → ℤ) → ℕ → ℤ
transform t z w = int_sum (2 ^ t) (λ x. turned (shared t w x) (z x))
