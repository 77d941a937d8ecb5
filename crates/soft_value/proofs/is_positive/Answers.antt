-- `soft_value::is_positive` meets its contract, number by number. Assumes nothing.
use mathlib.Core.Path.{◌≡◌, refl, sym, ap, ap₂, ◌∙◌}
use mathlib.Core.Bool.{true, false, true≢false}
use Prim.Native.Nat.{ℕ, zero, suc, ◌*◌, ◌<◌}
use native.Mathlib.Omega.{arith}
use native.Mathlib.Nat.{mul-pos, mul-one, zero-mul}
use borrow.Author.Tests.{lt-ltb}
use lib.Dec.{ltb}
use lib.IntN.{pos}
use lib.Ieee.{Float, nan, inf, fin, up, down, lt, of_bits}
use lib.Ieee.Fits.{up_pos}
use lib.Ieee.Positive.{positive}
use Rattle.std.specs.Float.{float_is_finite}
use Rattle.soft_value.proofs.is_positive.Goals as goal

-- A number above zero has digits.
digits : (m u : ℕ) → 0 < u → ltb 0 (m * u) ≡ ltb 0 m
digits zero u l = ap (ltb 0) (zero-mul u)
digits (suc m) u l = let p : 0 < suc m = omega arith in lt-ltb 0 (suc m * u) (mul-pos p l) ∙ sym (lt-ltb 0 (suc m) p)

above : (x : Float) → float_is_finite x ≡ true → lt (fin false 0 (pos 0)) x ≡ positive x
unfolding lt float_is_finite
above nan e = refl
above (inf s) e = absurd (true≢false (sym e))
above (fin true m e) f = refl
above (fin false m e) f = ap₂ ltb (zero-mul (down e)) (mul-one (m * up e)) ∙ digits m (up e) (up_pos e)

not_finite : (x : Float) → float_is_finite x ≡ false → false ≡ positive x
unfolding float_is_finite
not_finite nan e = refl
not_finite (inf s) e = refl
not_finite (fin s m e) f = absurd (true≢false f)

pub returns-then-is_finite : goal.returns-then-is_finite
unfolding of_bits
returns-then-is_finite c = above c.args.x (sym c.is_finite.ensures.value ∙ c.if-is_finite.true)

pub returns-else-is_finite : goal.returns-else-is_finite
returns-else-is_finite c = c.if-is_finite.false ∙ not_finite c.args.x (sym c.is_finite.ensures.value ∙ c.if-is_finite.false)
