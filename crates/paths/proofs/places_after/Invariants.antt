use mathlib.Core.Bool.{Bool, false}
use mathlib.Core.List.{List}
use Prim.Native.Nat.{ℕ, ◌+◌, ◌/◌, ◌%◌, ◌≤◌}
use lib.IntN.{ℤ, pos}
use lib.ListN.{get_or}
use Rattle.base.specs.Bit.{◌⊕◌}
use Rattle.values.specs.Value.{known_value}
use Rattle.paths.proofs.Digits.{bit_of}
use Rattle.paths.proofs.Slots.{Rows}
use Rattle.paths.proofs.places_after.Given as goal

-- What a row has at place i, under bit c of the next word and bit b of the first one.
abbrev pub after_value : List ℤ → List Bool → Bool → List Bool → Bool → Bool → Bool → ℕ → ℤ
after_value values word v3 next q c b i =
    known_value (get_or next i false ⊕ (c ⊕ q))
    (known_value (get_or word i false ⊕ b) (get_or values i (pos 0)) (get_or values (8 + i) (pos 0)))
    (known_value (get_or word (4 + i) false ⊕ (b ⊕ v3)) (get_or values (4 + i) (pos 0)) (get_or values (12 + i) (pos 0)))

abbrev pub invariant-loop-i : goal.invariant-loop-i
invariant-loop-i l = (l.i ≤ 4) × Rows 4 l.i (λ q s. after_value l.values l.word l.v3 l.next q (bit_of (s / 2)) (bit_of (s % 2))) l.t
