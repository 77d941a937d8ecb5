-- `step::choice` meets its contract: its parts lie apart, so that their sum holds the bits of each. Assumes nothing.
use mathlib.Core.Path.{◌≡◌, subst}
use mathlib.Core.Bool.{false}
use Prim.Native.Nat.{ℕ, ◌+◌, ◌-◌, ◌*◌, ◌%◌, ◌^◌}
use native.Mathlib.Nat.{zero-mul}
use native.Mathlib.Omega.{arith}
use lib.ListN.{take}
use Rattle.bits.specs.Packed.{bits}
use Rattle.windows.specs.Paths.{Choice}
use Rattle.windows.proofs.Shifts.{shifts-lt, shifts-bits}
use Rattle.step.proofs.choice.Goals as goal

-- The own symbol 0 adds nothing.
no_own : (a k c : ℕ) → a + 0 * 2 ^ k % 2 ^ 32 + c ≡ a + c
no_own a k c = rw (zero-mul (2 ^ k)) (omega arith)

pub returns : goal.returns
returns c = (
  omega (arith, shifts-lt _ _ _ false _ c.requires.0 c.requires.1 c.ranges.symbols.fits c.requires.2),
  subst (Choice (take c.args.phase (bits 16 c.args.symbols)) false (bits (c.args.high - c.args.phase) c.args.window)) (no_own _ (15 - c.args.phase) _)
      (shifts-bits _ _ _ false _ c.requires.0 c.requires.1 c.ranges.symbols.fits c.requires.2),
)
