-- Value bytes in two's complement: one from 128 on by way of sixteen bits, and 256 of them. Assumes nothing.
use mathlib.Core.Path.{◌≡◌, sym, ap, ◌∙◌}
use mathlib.Core.Bool.{true, false, cond}
use mathlib.Core.List.{List, map}
use Prim.Native.Nat.{ℕ, suc, ◌-◌, ◌≤◌, ◌<◌}
use native.Mathlib.Omega.{arith}
use borrow.Author.Tests.{lt-ltb, le-ltb}
use lib.IntN.{ℤ, pos, negsuc, ◌-ℤ◌}
use lib.ListN.{length, get_or, length-map, get_or-map}
use lib.Seq.{ext_get_or}
use mir.Facts.{to_z-of_z, to_z_pos}
use mir.Syntax.{w8, w16}
use mir.Val.{SFits, to_z, of_z}
use Rattle.line.specs.Line.{signed_byte}

-- A byte from 128 on is 256 more than the value.
module _ (b : ℕ) (l : 128 ≤ b) (h : b < 256) where
  less : pos b -ℤ pos 256 ≡ negsuc (256 - suc b)
  less = ap (λ c. cond c (negsuc (256 - suc b)) (pos (b - 256))) (lt-ltb b 256 h)

  wide : to_z w16 b -ℤ pos 256 ≡ pos b -ℤ pos 256
  wide = ap (λ z. z -ℤ pos 256) (to_z_pos w16 {n = b} (omega arith))

  pub sub-fits : SFits w16 (to_z w16 b -ℤ pos 256)
  sub-fits = rw (wide ∙ less) (record { sfits = omega arith })

  pub cast_fits : SFits w8 (to_z w16 (of_z w16 (to_z w16 b -ℤ pos 256)))
  cast_fits = rw (to_z-of_z sub-fits ∙ wide ∙ less) (record { sfits = omega arith })

  pub high_is : to_z w8 (of_z w8 (to_z w16 (of_z w16 (to_z w16 b -ℤ pos 256)))) ≡ signed_byte b
  high_is =
      to_z-of_z cast_fits ∙ to_z-of_z sub-fits ∙ wide
      ∙ sym (ap (λ c. elim c as (λ _. ℤ) [ true ↦ pos b | false ↦ pos b -ℤ pos 256 ]) (le-ltb b 128 l))

-- 256 values, index by index.
pub values-are : (bytes : List ℕ) (values : List ℤ) → length bytes ≡ 256 → length values ≡ 256
    → ((j : ℕ) → j < 256 → get_or values j (pos 0) ≡ signed_byte (get_or bytes j 0)) → values ≡ map signed_byte bytes
values-are bytes values n m h =
    ext_get_or (pos 0) values (map signed_byte bytes) (m ∙ sym (length-map bytes signed_byte ∙ n)) (λ j l. h j (rw (← m) l) ∙ sym (get_or-map signed_byte bytes j 0))
