use mathlib.Core.Bool.{Bool, false}
use mathlib.Core.List.{List}
use Prim.Native.Nat.{ℕ, ◌+◌, ◌≤◌}
use lib.IntN.{ℤ, pos}
use lib.ListN.{get_or}
use Rattle.base.specs.Bit.{◌⊕◌}
use Rattle.values.specs.Value.{free_value, known_value}
use Rattle.paths.proofs.Digits.{bit_of}
use Rattle.paths.proofs.Slots.{Rows}
use Rattle.paths.proofs.places.Given as goal

-- What a row has at place i, under bit b.
abbrev pub place_value : List ℤ → List Bool → Bool → Bool → ℕ → ℤ
place_value values word o b i =
    free_value
    (known_value (get_or word i false ⊕ b) (get_or values i (pos 0)) (get_or values (8 + i) (pos 0)))
    (known_value (get_or word (4 + i) false ⊕ (b ⊕ o)) (get_or values (4 + i) (pos 0)) (get_or values (12 + i) (pos 0)))

abbrev pub invariant-loop-i : goal.invariant-loop-i
invariant-loop-i l = (l.i ≤ 4) × Rows 2 l.i (λ o t. place_value l.values l.word o (bit_of t)) l.x
