-- The number that four bits make, as the code makes it. Assumes nothing.
use mathlib.Core.Path.{◌≡◌, refl, ap, ◌∙◌}
use mathlib.Core.Bool.{Bool, true, false}
use mathlib.Core.List.{[], ◌∷◌}
use Prim.Native.Nat.{ℕ, zero, suc, ◌+◌, ◌*◌, ◌<◌}
use native.Mathlib.Omega.{arith}
use mir.Val.{bool_byte}
use Rattle.base.specs.Bit.{bit, digit}
use Rattle.bits.specs.Packed.{bits}

digit-small : (b : Bool) → digit b < 2
digit-small false = omega arith
digit-small true = omega arith

-- A bit as a byte counts it.
pub digit-is : (a b : Bool) → a ≡ b → (bool_byte a < 2) × (bool_byte a ≡ digit b)
digit-is a b e = let f : bool_byte a ≡ digit b = go a ∙ ap digit e in (rw f (digit-small b), f)
  where
    go : (a : Bool) → bool_byte a ≡ digit a
    go false = refl
    go true = refl

-- Four bits as a number.
abbrev four : Bool → Bool → Bool → Bool → ℕ
four a b c d = 4 * (2 * digit a + digit b) + (2 * digit c + digit d)

four-bits : (a b c d : Bool) → bits 4 (four a b c d) ≡ a ∷ b ∷ c ∷ d ∷ []
unfolding bits
four-bits false false false false = refl
four-bits false false false true = refl
four-bits false false true false = refl
four-bits false false true true = refl
four-bits false true false false = refl
four-bits false true false true = refl
four-bits false true true false = refl
four-bits false true true true = refl
four-bits true false false false = refl
four-bits true false false true = refl
four-bits true false true false = refl
four-bits true false true true = refl
four-bits true true false false = refl
four-bits true true false true = refl
four-bits true true true false = refl
four-bits true true true true = refl

-- Its bits are these four.
pub four_is : (f : ℕ → Bool) (a b c d n : ℕ) → a ≡ digit (f 0) → b ≡ digit (f 1) → c ≡ digit (f 2) → d ≡ digit (f 3) → n ≡ 4 * (2 * a + b) + (2 * c + d)
    → (n < 16) × ((i : ℕ) → i < 4 → bit (bits 4 n) i ≡ f i)
four_is f a b c d n ea eb ec ed en =
    let e : n ≡ four (f 0) (f 1) (f 2) (f 3) = omega arith in
    (omega (arith, digit-small (f 0), digit-small (f 1), digit-small (f 2), digit-small (f 3)), λ i l. ap (λ m. bit (bits 4 m) i) e ∙ ap (λ u. bit u i) (four-bits (f 0) (f 1) (f 2) (f 3)) ∙ go i l)
  where
    go : (i : ℕ) → i < 4 → bit (f 0 ∷ f 1 ∷ f 2 ∷ f 3 ∷ []) i ≡ f i
    go zero l = refl
    go (suc zero) l = refl
    go (suc (suc zero)) l = refl
    go (suc (suc (suc zero))) l = refl
    go (suc (suc (suc (suc i)))) l = absurd (omega arith)
