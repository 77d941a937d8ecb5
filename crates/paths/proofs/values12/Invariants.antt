use mathlib.Core.List.{List, []}
use Prim.Native.Nat.{ℕ}
use lib.IntN.{ℤ, pos}
use lib.ListN.{get_or}
use Rattle.values.specs.Value.{free_value}
use Rattle.value_folds.proofs.Filling.{Filling}
use Rattle.paths.proofs.values12.Given as goal

-- Entry j of row r.
abbrev pub at : List (List ℤ) → ℕ → ℕ → ℤ
at x r j = get_or (get_or x r []) j (pos 0)

abbrev pub invariant-loop-i : goal.invariant-loop-i
invariant-loop-i l = Filling (pos 0) 8 l.i (λ j. free_value (free_value (at l.x 0 j) (at l.x 2 j)) (free_value (at l.x 1 j) (at l.x 3 j))) l.s
