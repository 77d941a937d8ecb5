use mathlib.Core.Path.{◌≡◌}
use Prim.Native.Nat.{◌+◌, ◌*◌}
use lib.ListN.{drop}
use Rattle.bits.specs.Packed.{unpack}
use Rattle.payload.specs.Payload.{frozen_one}
use Rattle.payload.proofs.frozen_one.Given as goal

abbrev pub invariant-loop-i : goal.invariant-loop-i
invariant-loop-i l =
    frozen_one (unpack l.mask) (unpack l.symbols) ≡ 8 * l.i + frozen_one (unpack (drop l.i l.mask)) (unpack (drop l.i l.symbols))
