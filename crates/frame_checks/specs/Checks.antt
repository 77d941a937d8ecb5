-- The checks of frame encode and frame undo, from their inputs alone. Assumes nothing.
use Rattle.std.specs.Prelude.{not, ◌||◌, List, [], ◌∷◌, ℕ, ◌/◌, eqb, ltb, length}
use Rattle.answer.specs.Verdict.{Check, condition}
use Rattle.mask.specs.Mask.{marked, bad_mask}
use Rattle.plan.specs.declared.Plan.{Plan}
use Rattle.plan.specs.Plan.{bad_layers, bad_kernels, byte_count}

-- The checks of frame encode, in checking order: the plan's layers and kernels, the length of the mask, the mask, the length of
-- the payload, and the room for the word.
unfoldable pub encode_checks : Plan → List ℕ → ℕ → ℕ → List Check
encode_checks p mask payload_length room =
    condition 14 (bad_layers p)
    ∷ condition 1 (bad_kernels p)
    ∷ condition 2 (not (eqb (length mask) (byte_count p)))
    ∷ condition 3 (bad_mask mask)
    ∷ condition 4 (not (eqb payload_length (marked mask / 8)))
    ∷ condition 5 (ltb room (byte_count p))
    ∷ []

-- The checks of frame undo that do not look at the word's symbols, in checking order: the plan's layers and kernels, the lengths of
-- mask and word, the mask, and the room for the payload.
unfoldable pub request_checks : Plan → List ℕ → ℕ → ℕ → List Check
request_checks p mask word_length room =
    condition 14 (bad_layers p)
    ∷ condition 1 (bad_kernels p)
    ∷ condition 2 (not (eqb (length mask) (byte_count p)) || not (eqb word_length (byte_count p)))
    ∷ condition 3 (bad_mask mask)
    ∷ condition 5 (ltb room (marked mask / 8))
    ∷ []
