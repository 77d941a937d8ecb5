-- Bits as numbers, and had back from them. Assumes nothing.
use mathlib.Core.Path.{◌≡◌, refl}
use mathlib.Core.Bool.{Bool, true, false}
use Prim.Native.Nat.{ℕ, zero, suc, ◌+◌, ◌*◌, ◌/◌, ◌%◌, ◌<◌}
use native.Mathlib.Omega.{arith}
use Rattle.base.specs.Bit.{digit}

-- A bit is one of two numbers,
pub one_below : (b : Bool) → digit b < 2
one_below false = omega arith
one_below true = omega arith

-- and is had back from its number.
abbrev pub bit_of : ℕ → Bool
bit_of zero = false
bit_of (suc n) = true

pub bit-of-digit : (b : Bool) → bit_of (digit b) ≡ b
bit-of-digit false = refl
bit-of-digit true = refl

-- Each of two bits is had back from the number of both.
pub bit-of-half : (c b : Bool) → bit_of ((2 * digit c + digit b) / 2) ≡ c
bit-of-half false false = refl
bit-of-half false true = refl
bit-of-half true false = refl
bit-of-half true true = refl

pub bit-of-rest : (c b : Bool) → bit_of ((2 * digit c + digit b) % 2) ≡ b
bit-of-rest false false = refl
bit-of-rest false true = refl
bit-of-rest true false = refl
bit-of-rest true true = refl
