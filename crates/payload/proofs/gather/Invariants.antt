use mathlib.Core.Path.{◌≡◌}
use mathlib.Core.Bool.{Bool}
use mathlib.Core.List.{List, ◌++◌}
use Prim.Native.Nat.{ℕ, ◌+◌, ◌*◌, ◌≤◌, ◌<◌}
use lib.ListN.{length, drop}
use Rattle.base.proofs.List.{filled}
use Rattle.bits.specs.Packed.{bits, unpack}
use Rattle.payload.specs.Payload.{ones, gather}
use Rattle.bits.proofs.Packed.{byte_at}
use Rattle.payload.proofs.gather.Given as goal

-- All the marked symbols.
abbrev pub all : List ℕ → List ℕ → List Bool
all mask symbols = gather (unpack mask) (unpack symbols)

abbrev pub invariant-loop-i : goal.invariant-loop-i
invariant-loop-i l =
    (l.i ≤ length l.mask) × (l.n < 8) × (length l.payload ≡ length l.initial.payload) × (8 * l.j + l.n + ones (unpack (drop l.i l.mask)) ≡ ones (unpack l.mask))
    × (l.payload ≡ filled (byte_at (all l.mask l.symbols)) l.j l.initial.payload)
    × (bits l.n l.held ++ gather (unpack (drop l.i l.mask)) (unpack (drop l.i l.symbols)) ≡ drop (8 * l.j) (all l.mask l.symbols))
