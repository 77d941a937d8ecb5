-- The checks of frame follow and frame decode, from their inputs alone. Assumes nothing.
use Rattle.std.specs.Prelude.{not, ◌||◌, List, [], ◌∷◌, ℕ, ◌/◌, eqb, ltb, ℤ, length}
use Rattle.answer.specs.Verdict.{Check, condition, condition_at}
use Rattle.mask.specs.Mask.{marked, bad_mask}
use Rattle.folds.specs.Range.{first_outside}
use Rattle.plan.specs.declared.Plan.{Plan}
use Rattle.plan.specs.Plan.{bad_layers, bad_kernels, symbol_count, byte_count}

-- Condition 6: a value outside -127 to 127, the lowest such index being the place.
unfoldable pub value_check : List ℤ → Check
value_check values = condition_at 6 (first_outside 127 values) (ltb (first_outside 127 values) (length values))

-- The checks of frame follow, in checking order: the plan's layers and kernels, the lengths of values and symbols, the room for
-- scores and penalties, and a value outside the range.
unfoldable pub frame_follow_checks : Plan → List ℤ → ℕ → ℕ → ℕ → List Check
frame_follow_checks p values symbol_bytes score_room penalty_room =
    condition 14 (bad_layers p)
    ∷ condition 1 (bad_kernels p)
    ∷ condition 2 (not (eqb (length values) (symbol_count p)) || not (eqb symbol_bytes (byte_count p)))
    ∷ condition 5 (ltb score_room (symbol_count p) || ltb penalty_room (symbol_count p))
    ∷ value_check values
    ∷ []

-- The checks of frame decode, in checking order: the plan's layers and kernels, the lengths of values and mask, the mask, the room
-- for scores, penalties and payload, and a value outside the range.
unfoldable pub frame_decode_checks : Plan → List ℤ → List ℕ → ℕ → ℕ → ℕ → List Check
frame_decode_checks p values mask score_room penalty_room payload_room =
    condition 14 (bad_layers p)
    ∷ condition 1 (bad_kernels p)
    ∷ condition 2 (not (eqb (length values) (symbol_count p)) || not (eqb (length mask) (byte_count p)))
    ∷ condition 3 (bad_mask mask)
    ∷ condition 5 (ltb score_room (symbol_count p) || ltb penalty_room (symbol_count p) || ltb payload_room (marked mask / 8))
    ∷ value_check values
    ∷ []
