-- What holds of every path, by its bits, holds of every path's number. Assumes nothing.
use mathlib.Core.Path.{◌≡◌, refl, sym, subst}
use mathlib.Core.Bool.{Bool, true, false}
use mathlib.Core.List.{List, [], ◌∷◌}
use Prim.Native.Nat.{ℕ, zero, suc, ◌+◌, ◌-◌, ◌*◌, ◌%◌, ◌<◌}
use native.Mathlib.Decide.{dec_lt}
use native.Mathlib.Omega.{arith}
use lib.Dec.{leb}
use Rattle.base.specs.Bit.{◌⊕◌, bit, digit}
use Rattle.values.specs.Path.{path_number}

-- The numbers below 8 are those of paths,
pub all-paths : (P : ℕ → Type 0) → ((d g a : Bool) → P (path_number d g a)) → (i : ℕ) → i < 8 → P i
all-paths P h zero l = h false false false
all-paths P h (suc zero) l = h false false true
all-paths P h (suc (suc zero)) l = h false true false
all-paths P h (suc (suc (suc zero))) l = h false true true
all-paths P h (suc (suc (suc (suc zero)))) l = h true false false
all-paths P h (suc (suc (suc (suc (suc zero))))) l = h true false true
all-paths P h (suc (suc (suc (suc (suc (suc zero)))))) l = h true true false
all-paths P h (suc (suc (suc (suc (suc (suc (suc zero))))))) l = h true true true
all-paths P h (suc (suc (suc (suc (suc (suc (suc (suc i)))))))) l = absurd (omega arith)

-- and those below 4 those of pairs of bits.
pub all-pairs : (P : ℕ → Type 0) → ((g a : Bool) → P (2 * digit g + digit a)) → (i : ℕ) → i < 4 → P i
all-pairs P h zero l = h false false
all-pairs P h (suc zero) l = h false true
all-pairs P h (suc (suc zero)) l = h true false
all-pairs P h (suc (suc (suc zero))) l = h true true
all-pairs P h (suc (suc (suc (suc i)))) l = absurd (omega arith)

-- A number below 8 is one below 4, or such a one and 4.
pub all-halves : (P : ℕ → Type 0) → ((i : ℕ) → i < 4 → P i) → ((i : ℕ) → i < 4 → P (4 + i)) → (i : ℕ) → i < 8 → P i
all-halves P low high i l = go (dec_lt i 4)
  where
    go : Dec (i < 4) → P i
    go (yes k) = low i k
    go (no k) = let e : i ≡ 4 + (i - 4) = omega arith in subst P (sym e) (high (i - 4) (omega arith))

-- These are the bounds of the numbers.
pub path-below : (d g a : Bool) → path_number d g a < 8
path-below false false false = omega arith
path-below false false true = omega arith
path-below false true false = omega arith
path-below false true true = omega arith
path-below true false false = omega arith
path-below true false true = omega arith
path-below true true false = omega arith
path-below true true true = omega arith

pub pair-below : (g a : Bool) → 2 * digit g + digit a < 4
pair-below false false = omega arith
pair-below false true = omega arith
pair-below true false = omega arith
pair-below true true = omega arith

-- A path's number in its half is that of its pair of bits, and d tells the half.
pub path-pair : (d g a : Bool) → path_number d g a % 4 ≡ 2 * digit g + digit a
path-pair false false false = refl
path-pair false false true = refl
path-pair false true false = refl
path-pair false true true = refl
path-pair true false false = refl
path-pair true false true = refl
path-pair true true false = refl
path-pair true true true = refl

pub path-half : (d g a : Bool) → leb 4 (path_number d g a) ≡ d
path-half false false false = refl
path-half false false true = refl
path-half false true false = refl
path-half false true true = refl
path-half true false false = refl
path-half true false true = refl
path-half true true false = refl
path-half true true true = refl

-- v5 + v6 of each path, as the code has it.
abbrev pub v5-and-v6 : List Bool
v5-and-v6 = false ∷ false ∷ true ∷ true ∷ true ∷ true ∷ false ∷ false ∷ []

pub v5-and-v6-at : (d g a : Bool) → bit v5-and-v6 (path_number d g a) ≡ g ⊕ d
v5-and-v6-at false false false = refl
v5-and-v6-at false false true = refl
v5-and-v6-at false true false = refl
v5-and-v6-at false true true = refl
v5-and-v6-at true false false = refl
v5-and-v6-at true false true = refl
v5-and-v6-at true true false = refl
v5-and-v6-at true true true = refl
