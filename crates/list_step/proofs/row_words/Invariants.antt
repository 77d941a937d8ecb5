use mathlib.Core.Path.{◌≡◌}
use Prim.Native.Nat.{ℕ, ◌<◌}
use lib.ListN.{length, get_or}
use Rattle.bits.specs.Packed.{bits}
use Rattle.list_step.specs.Step.{row_symbols}
use Rattle.list_step.proofs.row_words.Given as goal

abbrev pub invariant-loop-i : goal.invariant-loop-i
invariant-loop-i l = (length l.words ≡ 16) × ((j : ℕ) → j < l.i → bits 16 (get_or l.words j 0) ≡ row_symbols l.scratch l.r 16 j)
