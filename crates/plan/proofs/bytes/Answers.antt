-- `plan::bytes` meets its contract. Assumes nothing.
use mathlib.Core.Path.{◌≡◌, ap}
use mathlib.Core.Bool.{false}
use Prim.Native.Nat.{◌/◌}
use native.Mathlib.Omega.{arith}
use borrow.Author.Rules.{rules}
use Rattle.plan.specs.Plan.{bad_layers}
use Rattle.plan.proofs.Layered.{layers-few, power-few}
use Rattle.plan.proofs.bytes.Goals as goal

pub returns-then-has_layers : goal.returns-then-has_layers
returns-then-has_layers c =
    let h : bad_layers c.args.plan ≡ false = search rules in
    (λ h. ap (λ n. n / 8) c.symbols.ensures, omega (arith, c.symbols.ensures, power-few _ (layers-few _ h)))
