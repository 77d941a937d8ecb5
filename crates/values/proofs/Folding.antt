-- The two folds of costs, in their values alone. Assumes nothing.
use mathlib.Core.Path.{◌≡◌, sym, ap, ap₂, ◌∙◌}
use mathlib.Core.Bool.{Bool, true, false}
use Prim.Native.Nat.{ℕ, ◌+◌, ◌-◌, ◌≤◌, ◌<◌, min}
use native.Mathlib.Decide.{dec_lt}
use native.Mathlib.Omega.{arith}
use borrow.Author.Tests.{lt-ltb, le-ltb}
use lib.IntN.{ℤ, pos, sub_ℕ, ◌+ℤ◌, ◌-ℤ◌}
use Rattle.base.specs.Bit.{◌⊕◌}
use Rattle.polar.specs.Code.{Costs}
use Rattle.polar.specs.Fold.{free_fold, known_fold}
use Rattle.polar.proofs.Values.{value}
use Rattle.values.specs.Value.{greater, free_value, known_value}
use Rattle.values.proofs.Integers.{sub-eq, sub-add, sub-sub, lt_z-sub}

-- The value of a known fold.
pub value-known : (h : ℕ) (x : ℕ → Bool) (m : Costs) (j : ℕ) → value (known_fold h x m j) ≡ known_value (x j) (value (m j)) (value (m (h + j)))
value-known h x m j = go (x j)
  where
    a : Bool → ℕ
    a = m j

    b : Bool → ℕ
    b = m (h + j)

    go : (c : Bool) → sub_ℕ (a (c ⊕ true) + b true) (a (c ⊕ false) + b false) ≡ known_value c (value a) (value b)
    go false = sub-eq (a true + b true) (a false + b false) (b true + a true) (b false + a false) (omega arith) ∙ sym (sub-add (b true) (b false) (a true) (a false))
    go true = sub-eq (a false + b true) (a true + b false) (b true + a false) (b false + a true) (omega arith) ∙ sym (sub-sub (b true) (b false) (a true) (a false))

-- The value of a free fold.
pub value-free : (h : ℕ) (m : Costs) (j : ℕ) → value (free_fold h m j) ≡ free_value (value (m j)) (value (m (h + j)))
value-free h m j =
    sym (ap₂ ◌-ℤ◌ top (go (dec_lt (a true + b false) (b true + a false))) ∙ sub-sub (s + (d - s)) s (p + (q - p)) s ∙ sub-eq (s + (d - s) + s) (s + (p + (q - p))) (min (a true + b false) (a false + b true)) (min (a false + b false) (a true + b true)) (omega arith))
  where
    a : Bool → ℕ
    a = m j

    b : Bool → ℕ
    b = m (h + j)

    s : ℕ
    s = a false + b false

    d : ℕ
    d = a true + b true

    p : ℕ
    p = a true + b false

    q : ℕ
    q = b true + a false

    high : (x y : ℕ) → Dec (x < y) → greater (sub_ℕ x y) (sub_ℕ 0 0) ≡ sub_ℕ (y + (x - y)) y
    high x y (yes l) = let g : x + 0 < 0 + y = omega arith in rw (lt_z-sub x y 0 0, lt-ltb (x + 0) (0 + y) g) (sub-eq 0 0 (y + (x - y)) y (omega arith))
    high x y (no l) = let g : 0 + y ≤ x + 0 = omega arith in rw (lt_z-sub x y 0 0, le-ltb (x + 0) (0 + y) g) (sub-eq x y (y + (x - y)) y (omega arith))

    top : greater (value a +ℤ value b) (pos 0) ≡ sub_ℕ (s + (d - s)) s
    top = ap (λ x. greater x (pos 0)) (sub-add (a true) (a false) (b true) (b false)) ∙ high d s (dec_lt d s)

    go : Dec (p < q) → greater (value a) (value b) ≡ sub_ℕ (p + (q - p)) s
    go (yes l) = rw (lt_z-sub (a true) (a false) (b true) (b false), lt-ltb p q l) (sub-eq (b true) (b false) (p + (q - p)) s (omega arith))
    go (no l) = let g : q ≤ p = omega arith in rw (lt_z-sub (a true) (a false) (b true) (b false), le-ltb p q g) (sub-eq (a true) (a false) (p + (q - p)) s (omega arith))
