-- Facts about a few indices, one by one, and bits that differ. Assumes nothing.
use mathlib.Core.Path.{◌≡◌, refl, ap, ◌∙◌}
use mathlib.Core.Bool.{Bool, true, false, not, beq}
use Prim.Native.Nat.{ℕ, zero, suc, ◌<◌}
use native.Mathlib.Omega.{arith}
use Rattle.base.specs.Bit.{◌⊕◌}
use Rattle.base.proofs.Bool.{⊕-assoc}

pub below-3 : (P : ℕ → Type 0) → P 0 → P 1 → P 2 → (i : ℕ) → i < 3 → P i
below-3 P a b c zero l = a
below-3 P a b c (suc zero) l = b
below-3 P a b c (suc (suc zero)) l = c
below-3 P a b c (suc (suc (suc i))) l = absurd (omega arith)

pub below-4 : (P : ℕ → Type 0) → P 0 → P 1 → P 2 → P 3 → (i : ℕ) → i < 4 → P i
below-4 P a b c d zero l = a
below-4 P a b c d (suc i) l = below-3 (λ i. P (suc i)) b c d i (omega arith)

pub below-8 : (P : ℕ → Type 0) → P 0 → P 1 → P 2 → P 3 → P 4 → P 5 → P 6 → P 7 → (i : ℕ) → i < 8 → P i
below-8 P a b c d e f g h zero l = a
below-8 P a b c d e f g h (suc zero) l = b
below-8 P a b c d e f g h (suc (suc zero)) l = c
below-8 P a b c d e f g h (suc (suc (suc zero))) l = d
below-8 P a b c d e f g h (suc (suc (suc (suc i)))) l = below-4 (λ i. P (suc (suc (suc (suc i))))) e f g h i (omega arith)

pub below-16 : (P : ℕ → Type 0) → P 0 → P 1 → P 2 → P 3 → P 4 → P 5 → P 6 → P 7 → P 8 → P 9 → P 10 → P 11 → P 12 → P 13 → P 14 → P 15 → (i : ℕ) → i < 16 → P i
below-16 P p0 p1 p2 p3 p4 p5 p6 p7 p8 p9 p10 p11 p12 p13 p14 p15 zero l = p0
below-16 P p0 p1 p2 p3 p4 p5 p6 p7 p8 p9 p10 p11 p12 p13 p14 p15 (suc zero) l = p1
below-16 P p0 p1 p2 p3 p4 p5 p6 p7 p8 p9 p10 p11 p12 p13 p14 p15 (suc (suc zero)) l = p2
below-16 P p0 p1 p2 p3 p4 p5 p6 p7 p8 p9 p10 p11 p12 p13 p14 p15 (suc (suc (suc zero))) l = p3
below-16 P p0 p1 p2 p3 p4 p5 p6 p7 p8 p9 p10 p11 p12 p13 p14 p15 (suc (suc (suc (suc zero)))) l = p4
below-16 P p0 p1 p2 p3 p4 p5 p6 p7 p8 p9 p10 p11 p12 p13 p14 p15 (suc (suc (suc (suc (suc zero))))) l = p5
below-16 P p0 p1 p2 p3 p4 p5 p6 p7 p8 p9 p10 p11 p12 p13 p14 p15 (suc (suc (suc (suc (suc (suc zero)))))) l = p6
below-16 P p0 p1 p2 p3 p4 p5 p6 p7 p8 p9 p10 p11 p12 p13 p14 p15 (suc (suc (suc (suc (suc (suc (suc zero))))))) l = p7
below-16 P p0 p1 p2 p3 p4 p5 p6 p7 p8 p9 p10 p11 p12 p13 p14 p15 (suc (suc (suc (suc (suc (suc (suc (suc i)))))))) l =
    below-8 (λ i. P (suc (suc (suc (suc (suc (suc (suc (suc i))))))))) p8 p9 p10 p11 p12 p13 p14 p15 i (omega arith)

-- Two bits that differ have the sum 1.
pub differ : (a b : Bool) → not (beq a b) ≡ a ⊕ b
differ false false = refl
differ false true = refl
differ true false = refl
differ true true = refl

-- The sum of three.
pub differ-twice : (a b c : Bool) → not (beq (not (beq a b)) c) ≡ (a ⊕ b) ⊕ c
differ-twice a b c = differ (not (beq a b)) c ∙ ap (λ x. x ⊕ c) (differ a b)

-- v5 by t = v5 + v6 + v10, as the code has it: where v10 is 0,
pub fifth-zero : (t v6 : Bool) → not (beq t v6) ≡ t ⊕ (v6 ⊕ false)
fifth-zero false false = refl
fifth-zero false true = refl
fifth-zero true false = refl
fifth-zero true true = refl

-- where it is 1,
pub fifth-one : (t v6 : Bool) → not (not (beq t v6)) ≡ t ⊕ (v6 ⊕ true)
fifth-one false false = refl
fifth-one false true = refl
fifth-one true false = refl
fifth-one true true = refl

-- and where it is c.
pub fifth : (t v6 c : Bool) → not (beq (not (beq t v6)) c) ≡ t ⊕ (v6 ⊕ c)
fifth t v6 c = differ-twice t v6 c ∙ ⊕-assoc t v6 c
