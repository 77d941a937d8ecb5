-- The sum of the first numbers, one by one. Assumes nothing.
use mathlib.Core.Path.{◌≡◌, refl}
use Prim.Native.Nat.{ℕ, ◌+◌, ◌*◌, ◌≤◌}
use native.Mathlib.Omega.{arith}
use Rattle.polar.specs.Code.{sum}
use Rattle.polar.proofs.Minima.{sum-next}

-- n is the sum of the first i, each of which is at most b.
pub record Total (b i : ℕ) (f : ℕ → ℕ) (n : ℕ) : Type 0 where
  pub is : n ≡ sum i f
  pub small : n ≤ i * b

pub total-none : (b : ℕ) (f : ℕ → ℕ) → Total b 0 f 0
unfolding sum
total-none b f = record { is = refl; small = omega arith }

pub total-next : (b i : ℕ) (f : ℕ → ℕ) (n m : ℕ) → Total b i f n → m ≡ f i → m ≤ b → Total b (i + 1) f (n + m)
total-next b i f n m t e l = record { is = omega (arith, sum-next i f, t.is); small = omega (arith, t.small) }
