-- The checks of list decoding, from its inputs alone. Assumes nothing.
use Rattle.std.specs.Prelude.{not, ◌||◌, List, [], ◌∷◌, ℕ, ◌/◌, eqb, ltb, ℤ, length}
use Rattle.answer.specs.Verdict.{Check, condition}
use Rattle.mask.specs.Mask.{marked, bad_mask}
use Rattle.plan.specs.declared.Plan.{Plan}
use Rattle.plan.specs.Plan.{bad_kernels}
use Rattle.decode_checks.specs.Checks.{value_check}

-- The checks of list decoding, in checking order: a plan of another number of layers than two, its kernels, a list size L outside
-- 1 to 8, the lengths of values and mask, the mask, a mask of fewer than 24 marked phases, the room for payload and scratch, and a value
-- outside the range.
unfoldable pub list_decode_checks : Plan → ℕ → List ℤ → List ℕ → ℕ → ℕ → List Check
list_decode_checks p L values mask scratch_room payload_room =
    condition 14 (not (eqb p.layers 2))
    ∷ condition 1 (bad_kernels p)
    ∷ condition 11 (ltb L 1 || ltb 8 L)
    ∷ condition 2 (not (eqb (length values) 256) || not (eqb (length mask) 32))
    ∷ condition 3 (bad_mask mask)
    ∷ condition 12 (ltb (marked mask) 24)
    ∷ condition 5 (ltb payload_room (marked mask / 8) || ltb scratch_room 8192)
    ∷ value_check values
    ∷ []
