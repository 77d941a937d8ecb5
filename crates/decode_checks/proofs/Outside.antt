-- The one value outside the range: what the test for its bits says. Assumes nothing.
use mathlib.Core.Path.{◌≡◌, refl, sym}
use mathlib.Core.Bool.{Bool, true, false, cond, not, ◌||◌}
use mathlib.Core.List.{List, [], ◌∷◌}
use Prim.Native.Nat.{ℕ, suc, ◌+◌, ◌-◌, ◌^◌, ◌≤◌, ◌<◌}
use native.Mathlib.Decide.{dec_lt}
use native.Mathlib.Omega.{arith}
use borrow.Author.Tests.{eq-eqb, ne_eqb, eqb-true, eqb-false, lt-leb, le-leb, lt-ltb, le-ltb, ltb-true, ltb-false, leb-true, leb-false}
use lib.Dec.{leb, ltb, eqb}
use lib.IntN.{ℤ, pos, negsuc, nat_abs}
use lib.ListN.{length}
use mir.Syntax.{w8}
use mir.Val.{SFits, of_z}
use Rattle.std.specs.Prelude.{None, Some}
use Rattle.std.specs.List.{position, position_or_len}
use Rattle.std.specs.Option.{MatchOption}
use Rattle.folds.specs.Range.{first_outside}
use Rattle.folds.proofs.Range.{outside-le}

-- The bits of -128 are 128: a value inside has others,
pub inside : (y : ℤ) (n : ℕ) → n ≡ 128 → nat_abs y ≤ 127 → eqb (of_z w8 y) n ≡ false
inside (pos m) n e l = ne_eqb m n (λ d. omega arith)
inside (negsuc m) n e l = ne_eqb (2 ^ 8 - suc m) n (λ d. omega arith)

-- and the only one outside has these.
pub outside : (y : ℤ) (n : ℕ) → n ≡ 128 → SFits w8 y → 127 < nat_abs y → eqb (of_z w8 y) n ≡ true
outside (pos m) n e f l = absurd (omega (arith, f.sfits))
outside (negsuc m) n e f l = eq-eqb (2 ^ 8 - suc m) n (omega (arith, f.sfits))

-- So the test finds the values that are outside, and these alone.
pub says-outside : (y : ℤ) (n : ℕ) → n ≡ 128 → of_z w8 y ≡ n → leb (nat_abs y) 127 ≡ false
says-outside y n e t = go (dec_lt 127 (nat_abs y))
  where
    go : Dec (127 < nat_abs y) → leb (nat_abs y) 127 ≡ false
    go (yes l) = lt-leb (nat_abs y) 127 l
    go (no l) = absurd (eqb-false _ _ (inside y n e (omega arith)) t)

pub says-inside : (y : ℤ) (n : ℕ) → n ≡ 128 → SFits w8 y → (of_z w8 y ≡ n → ⊥) → leb (nat_abs y) 127 ≡ true
says-inside y n e f t = go (dec_lt 127 (nat_abs y))
  where
    go : Dec (127 < nat_abs y) → leb (nat_abs y) 127 ≡ true
    go (yes l) = absurd (t (eqb-true _ _ (outside y n e f l)))
    go (no l) = le-leb (nat_abs y) 127 (omega arith)

-- The test of one value y more, at index i, where f is the first outside.
pub turn : (f i n : ℕ) (y : ℤ) → n ≡ 128 → SFits w8 y → (i < f → nat_abs y ≤ 127) → (f ≡ i → 127 < nat_abs y)
    → ltb f i || eqb (of_z w8 y) n ≡ ltb f (i + 1)
turn f i n y e s low high = go (dec_lt f i) (dec_lt i f)
  where
    go : Dec (f < i) → Dec (i < f) → ltb f i || eqb (of_z w8 y) n ≡ ltb f (i + 1)
    go (yes l) _ = rw (lt-ltb f i l, lt-ltb f (i + 1) (omega arith))
    go (no l) (yes m) = rw (le-ltb f i (omega arith), inside y n e (low m), le-ltb f (i + 1) (omega arith))
    go (no l) (no m) = rw (le-ltb f i (omega arith), outside y n e s (high (omega arith)), lt-ltb f (i + 1) (omega arith))
