-- The sum of rows as two loops make it, one over the rows for each bit and one over the bits. Assumes nothing.
use mathlib.Core.Path.{◌≡◌, refl, sym, ap, ap₂, ◌∙◌}
use mathlib.Core.Bool.{Bool, true, false, not, ◌&&◌, beq}
use mathlib.Core.List.{List, [], ◌∷◌}
use Prim.Native.Nat.{ℕ, ◌+◌, ◌*◌, ◌^◌, ◌<◌}
use native.Mathlib.Nat.{lt_of_lt_of_le}
use native.Mathlib.Numerals.{add-one}
use native.Mathlib.Omega.{arith}
use lib.Dec.{lit<}
use lib.Pow.{pow_mono}
use mir.Val.{bool_byte}
use Rattle.base.specs.Bit.{◌⊕◌, digit, tabulate}
use Rattle.base.proofs.Bool.{parity-last}
use Rattle.base.proofs.List.{length-tabulate, tabulate-next}
use Rattle.bits.specs.Packed.{number}
use Rattle.bits.proofs.Packed.{number_lt, number_append}
use Rattle.kernel.specs.Rows.{row_bit, chosen_bit}

-- Two bits differ where their sum is 1.
differ : (a b : Bool) → not (beq a b) ≡ a ⊕ b
differ true true = refl
differ true false = refl
differ false true = refl
differ false false = refl

-- One row more: its bit is added where it is chosen.
pub sum-next : (rows : List ℕ) (f : ℕ → Bool) (n j : ℕ) (a b : Bool) → a ≡ chosen_bit rows f n j → b ≡ f n && row_bit rows n j
    → not (beq a b) ≡ chosen_bit rows f (n + 1) j
sum-next rows f n j a b h e =
    differ a b ∙ ap₂ ◌⊕◌ h e ∙ sym (ap (λ m. chosen_bit rows f m j) (add-one n) ∙ parity-last n _)

-- The machine's number of a bit.
pub byte-digit : (b : Bool) → bool_byte b ≡ digit b
byte-digit true = refl
byte-digit false = refl

pub byte-lt : (b : Bool) → bool_byte b < 2
byte-lt true = lit< tt
byte-lt false = lit< tt

-- One bit more, which stands below the others.
pub number-next : (f : ℕ → Bool) (n : ℕ) → number (tabulate (n + 1) f) ≡ 2 * number (tabulate n f) + bool_byte (f n)
unfolding number
number-next f n =
    ap (λ m. number (tabulate m f)) (add-one n) ∙ ap number (tabulate-next n f f (λ i _. refl))
    ∙ number_append (tabulate n f) (f n ∷ []) ∙ omega (arith, byte-digit (f n))

-- There is room for it.
pub number-room : (f : ℕ → Bool) (n : ℕ) → n < 16 → number (tabulate n f) < 2 ^ 15
number-room f n l = lt_of_lt_of_le (number_lt (tabulate n f)) (pow_mono {j = 15} (omega (arith, length-tabulate n f)))
