use Rattle.std.proofs.Common.{◌≡◌, get_or}
use Rattle.base.proofs.List.{filled}
use Rattle.bits.specs.Packed.{bits, number}
use Rattle.payload.specs.Payload.{spread}
use Rattle.spread.proofs.deposit.Given as goal

abbrev pub invariant-loop-i : goal.invariant-loop-i
invariant-loop-i l =
    l.symbols ≡ filled (λ k. number (spread (bits 8 (get_or l.mask k 0)) (bits 8 (get_or l.initial.symbols k 0)))) l.i l.initial.symbols
