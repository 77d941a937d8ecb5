use mathlib.Core.Path.{◌≡◌}
use Rattle.bits.specs.Packed.{unpack}
use Rattle.order.specs.Order.{order}
use Rattle.order.proofs.Marks.{marks}
use Rattle.order.proofs.information_bits.Given as goal

abbrev pub invariant-loop-phase : goal.invariant-loop-phase
invariant-loop-phase l = unpack l.mask ≡ marks order l.phase-index
