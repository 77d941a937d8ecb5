-- Two bits, as the code compares them and as they turn a value. Assumes nothing.
use mathlib.Core.Path.{◌≡◌, refl, sym}
use mathlib.Core.Bool.{Bool, true, false, not, beq}
use lib.IntN.{ℤ, neg_ℤ-neg_ℤ}
use Rattle.base.specs.Bit.{◌⊕◌}
use Rattle.values.specs.Value.{turned}

-- Bits differ where their sum is 1.
pub differ : (a b : Bool) → not (beq a b) ≡ a ⊕ b
differ false false = refl
differ false true = refl
differ true false = refl
differ true true = refl

-- A value turned by a sum of two bits is turned by one and then by the other.
pub turned-sum : (a b : Bool) (x : ℤ) → turned (a ⊕ b) x ≡ turned b (turned a x)
turned-sum false b x = refl
turned-sum true false x = refl
turned-sum true true x = sym (neg_ℤ-neg_ℤ x)
