-- The payload bit of a marked phase: its number is the count of marked phases before it. Assumes nothing.
use mathlib.Core.Path.{◌≡◌, refl, ap}
use mathlib.Core.Bool.{Bool, true, false, false≢true}
use mathlib.Core.List.{List, [], ◌∷◌}
use Prim.Native.Nat.{ℕ, zero, suc, ◌<◌}
use native.Mathlib.Omega.{arith}
use lib.ListN.{length, take}
use Rattle.base.specs.Bit.{bit}
use Rattle.payload.specs.Payload.{ones, gather}

-- The gathered bit of a marked phase is its symbol,
pub gather-at : (m u : List Bool) (i : ℕ) → bit m i ≡ true → bit (gather m u) (ones (take i m)) ≡ bit u i
unfolding gather ones
gather-at [] u i e = absurd (false≢true e)
gather-at (false ∷ m) u zero e = absurd (false≢true e)
gather-at (false ∷ m) [] (suc i) e = gather-at m [] i e
gather-at (false ∷ m) (b ∷ u) (suc i) e = gather-at m u i e
gather-at (true ∷ m) [] zero e = refl
gather-at (true ∷ m) (b ∷ u) zero e = refl
gather-at (true ∷ m) [] (suc i) e = gather-at m [] i e
gather-at (true ∷ m) (b ∷ u) (suc i) e = gather-at m u i e

-- its number is below the count of marked phases,
pub ones-before : (m : List Bool) (i : ℕ) → bit m i ≡ true → ones (take i m) < ones m
unfolding ones
ones-before [] i e = absurd (false≢true e)
ones-before (false ∷ m) zero e = absurd (false≢true e)
ones-before (true ∷ m) zero e = omega arith
ones-before (false ∷ m) (suc i) e = ones-before m i e
ones-before (true ∷ m) (suc i) e = omega (arith, ones-before m i e)

-- and each number below it is that of a marked phase.
pub marked-phase : (m : List Bool) (j : ℕ) → j < ones m → (i : ℕ) × (i < length m) × (bit m i ≡ true) × (ones (take i m) ≡ j)
unfolding ones
marked-phase [] j l = absurd (omega arith)
marked-phase (false ∷ m) j l = let r = marked-phase m j l in (suc r.0, omega (arith, r.1), r.2, r.3)
marked-phase (true ∷ m) zero l = (zero, omega arith, refl, refl)
marked-phase (true ∷ m) (suc j) l =
    let r = marked-phase m j (omega arith) in (suc r.0, omega (arith, r.1), r.2, ap suc r.3)
