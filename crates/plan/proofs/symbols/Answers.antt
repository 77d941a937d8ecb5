-- `plan::symbols` meets its contract. Assumes nothing.
use mathlib.Core.Path.{◌≡◌, refl}
use Prim.Native.Nat.{ℕ, zero, suc, ◌*◌, ◌%◌, ◌^◌, ◌≤◌}
use native.Mathlib.Omega.{arith}
use Rattle.plan.proofs.Layered.{layers-few}
use Rattle.plan.proofs.symbols.Goals as goal

shifted : (m : ℕ) → m ≤ 3 → 1 * 2 ^ (4 * m) % 18446744073709551616 ≡ 16 ^ m
shifted zero l = refl
shifted (suc zero) l = refl
shifted (suc (suc zero)) l = refl
shifted (suc (suc (suc zero))) l = refl
shifted (suc (suc (suc (suc m)))) l = absurd (omega arith)

pub overflow_shl-result : goal.overflow_shl-result
overflow_shl-result c = omega (arith, layers-few _ c.requires, c.from.ensures)

pub returns : goal.returns
returns c = rw c.from.ensures (shifted _ (layers-few _ c.requires))
