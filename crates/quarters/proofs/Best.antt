-- Best scores that the code holds: entries of a row of eight paths, the greatest of some, and what a score adds. Assumes nothing.
use mathlib.Core.Path.{◌≡◌, sym, ap, ◌∙◌}
use mathlib.Core.Bool.{Bool, true, false}
use mathlib.Core.List.{List}
use Prim.Native.Nat.{ℕ, ◌^◌, ◌≤◌, ◌<◌}
use native.Mathlib.Omega.{arith}
use lib.IntN.{ℤ, nat_abs}
use lib.Signed.{mag}
use Rattle.values.specs.Value.{turned, gain, Small}
use Rattle.values.specs.Path.{path_number, entry, pair_best, four_best}
use Rattle.values.proofs.Greater.{greater-small}
use Rattle.value_folds.proofs.Sizes.{gain-small}
use Rattle.value_folds.proofs.Carried.{Carried, carried, carried-turned, read}
use Rattle.phase_scores.proofs.Block.{gain-turned}

-- A path has a number below 8.
pub path-below : (d g a : Bool) → path_number d g a < 8
path-below false false false = omega arith
path-below false false true = omega arith
path-below false true false = omega arith
path-below false true true = omega arith
path-below true false false = omega arith
path-below true false true = omega arith
path-below true true false = omega arith
path-below true true true = omega arith

module _ (n : ℕ) (row : List ℤ) (h : Small n 8 row) where
  -- An entry of a small row is small,
  pub entry-small : (d g a : Bool) → nat_abs (entry row d g a) ≤ n
  entry-small d g a = h (path_number d g a) (path-below d g a)

  -- and so is the greatest of two,
  pub pair_small : (d g : Bool) → nat_abs (pair_best row d g) ≤ n
  pair_small d g = greater-small (entry row d g false) (entry row d g true) n (entry-small d g false) (entry-small d g true)

  -- and of four.
  pub four-small : (d : Bool) → nat_abs (four_best row d) ≤ n
  four-small d = greater-small (pair_best row d false) (pair_best row d true) n (pair_small d false) (pair_small d true)

-- What a score adds for a bit is the lesser of 0 and the score turned by that bit.
pub carried-gain : (r q : ℤ) (b : Bool) (x s : ℤ) (n : ℕ) → mag q < 2 ^ 31 → q ≡ turned b (read x) → mag r < 2 ^ 31 → r ≡ gain (read q) false → Carried x s n → Carried r (gain s b) n
carried-gain r q b x s n fq eq fr er h =
    carried r (gain s b) n fr
    (er ∙ ap (λ z. gain z false) (carried-turned q b x s n fq eq h).is ∙ sym (gain-turned b false s))
    (omega (arith, gain-small s b, h.small))
