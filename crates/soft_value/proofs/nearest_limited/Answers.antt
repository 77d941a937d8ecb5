-- `soft_value::nearest_limited` meets its contract: the pattern without its sign gives the size. Assumes nothing.
use mathlib.Core.Path.{◌≡◌, sym, ap, ◌∙◌, subst}
use mathlib.Core.Bool.{true, false}
use Prim.Native.Nat.{ℕ, zero, suc, ◌%◌, ◌<◌}
use native.Mathlib.Omega.{arith}
use lib.Dec.{T, leb, le→leb}
use lib.Arith.{lt→nleb}
use lib.IntN.{pos, neg_ℤ, ◌-ℤ◌, +ℤ_idl}
use lib.Ieee.{Float, binary32, fits, to_bits, of_bits}
use lib.Ieee.Bits.{is_true, is_false}
use mir.Syntax.{w8}
use mir.Val.{SFits, to_z}
use mir.Facts.{to_z_pos, to_z-of_z}
use Rattle.rounding.specs.Rounding.{limited, signed, is_negative, nearest_limited}
use Rattle.rounding.proofs.Patterns.{limited-bits, pattern-le, negative-bits}
use Rattle.soft_value.proofs.nearest_limited.Goals as goal
use Rattle.soft_value.proofs.nearest_limited.Goals.{Start}

held : (c : Start) → T (fits binary32 c.args.p)
held c =
    subst T (sym c.well_formed.0.1) tt

-- The size, by a pattern that is p's without its sign.
size_is : (p : Float) → T (fits binary32 p) → (m n : ℕ) → n ≡ limited (of_bits binary32 m) → m ≡ to_bits binary32 p % 2147483648 → n ≡ limited p
size_is p held m n e f = e ∙ ap (λ x. limited (of_bits binary32 x)) f ∙ limited-bits p held

-- A size as a signed byte, and taken from 0.
negated_fits : (n : ℕ) → n < 128 → SFits w8 (pos 0 -ℤ pos n)
negated_fits n h = subst (λ z. SFits w8 z) (sym (+ℤ_idl (neg_ℤ (pos n)))) (go n h)
  where
    go : (n : ℕ) → n < 128 → SFits w8 (neg_ℤ (pos n))
    go zero h = record { sfits = h }
    go (suc n) h = record { sfits = omega arith }

negated : (n : ℕ) → n < 128 → SFits w8 (pos 0 -ℤ to_z w8 n)
negated n h = subst (λ z. SFits w8 (pos 0 -ℤ z)) (sym (to_z_pos w8 h)) (negated_fits n h)

pub magnitude-size-requires : goal.magnitude-size-requires
magnitude-size-requires c = let l = pattern-le c.args.p (held (goal.at.magnitude-size-requires c).Start) c.requires in omega arith

pub overflow_sub-result : goal.overflow_sub-result
overflow_sub-result c = let e = c.magnitude-size.ensures in negated c.magnitude-size.result (omega arith)

pub returns-then-pattern-lt2147483648 : goal.returns-then-pattern-lt2147483648
unfolding nearest_limited
returns-then-pattern-lt2147483648 c =
    let s = c in
    let p = s.args.p in
    let b = to_bits binary32 p in
    let n = c.magnitude-size.result in
    let e : n ≡ limited p = size_is p (held (goal.at.returns-then-pattern-lt2147483648 c).Start) _ n c.magnitude-size.ensures (omega (arith, c.if-pattern-lt2147483648.true)) in
    let g : is_negative p ≡ false = negative-bits p (held (goal.at.returns-then-pattern-lt2147483648 c).Start) s.requires ∙ is_false (leb 2147483648 b) (lt→nleb 2147483648 b c.if-pattern-lt2147483648.true) in
    to_z_pos w8 {n = n} (omega arith) ∙ ap pos e ∙ ap (λ v. signed v (limited p)) (sym g)

pub returns-else-pattern-lt2147483648 : goal.returns-else-pattern-lt2147483648
unfolding nearest_limited
returns-else-pattern-lt2147483648 c =
    let s = c in
    let p = s.args.p in
    let b = to_bits binary32 p in
    let n = c.magnitude-size.result in
    let e : n ≡ limited p = size_is p (held (goal.at.returns-else-pattern-lt2147483648 c).Start) _ n c.magnitude-size.ensures (omega (arith, c.if-pattern-lt2147483648.false)) in
    let h : n < 128 = omega arith in
    let g : is_negative p ≡ true = negative-bits p (held (goal.at.returns-else-pattern-lt2147483648 c).Start) s.requires ∙ is_true (leb 2147483648 b) (le→leb 2147483648 b c.if-pattern-lt2147483648.false) in
    to_z-of_z {w = w8} {z = pos 0 -ℤ to_z w8 n} (negated n h)
    ∙ ap (λ z. pos 0 -ℤ z) (to_z_pos w8 h)
    ∙ +ℤ_idl (neg_ℤ (pos n))
    ∙ ap (λ y. neg_ℤ (pos y)) e
    ∙ ap (λ v. signed v (limited p)) (sym g)
