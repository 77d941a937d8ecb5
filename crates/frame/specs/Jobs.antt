-- What frame encode and frame undo answer and write, from their inputs alone. Assumes nothing.
use Rattle.std.specs.Prelude.{Bool, List, [], ◌∷◌, ◌++◌, ℕ, ◌/◌, ltb, length}
use Rattle.base.specs.Bit.{tabulate}
use Rattle.bits.specs.Packed.{unpack, pack}
use Rattle.payload.specs.Payload.{spread, gather, frozen_one}
use Rattle.answer.specs.Verdict.{Verdict, done, Check, condition_at, settle, after}
use Rattle.mask.specs.Mask.{marked}
use Rattle.polar.specs.Code.{symbols_in}
use Rattle.plan.specs.declared.Plan.{Plan}
use Rattle.plan.specs.Plan.{plan_code, symbol_count, byte_count}
use Rattle.frame_checks.specs.Checks.{encode_checks, request_checks}

-- The bytes of the word of a payload: its bits fill the marked phases in rising order, all others are 0.
unfoldable pub encoded_frame : Plan → List ℕ → List ℕ → List ℕ
encoded_frame p mask payload = pack (byte_count p) (tabulate (symbol_count p) ((plan_code p).word (spread (unpack mask) (unpack payload))))

-- Frame encode: plan, mask and payload to the word.
unfoldable pub frame_encode : Plan → List ℕ → List ℕ → List ℕ → Verdict × List ℕ
frame_encode p mask payload out =
    let v = settle (encode_checks p mask (length payload) (length out)) done in
    (v, after v out (encoded_frame p mask payload))

-- The symbols of a word: those whose word it is.
unfoldable pub frame_symbols : Plan → List ℕ → List Bool
frame_symbols p word = symbols_in (plan_code p) (unpack word)

-- The lowest unmarked phase where the symbols of a word have 1, or their number where there is none.
unfoldable pub frozen_of : Plan → List ℕ → List ℕ → ℕ
frozen_of p mask word = frozen_one (unpack mask) (frame_symbols p word)

-- The checks of frame undo, in checking order: those of the request, and a symbol 1 at an unmarked phase, the lowest such phase
-- being the place.
unfoldable pub undo_checks : Plan → List ℕ → List ℕ → ℕ → List Check
undo_checks p mask word room =
    request_checks p mask (length word) room
    ++ (condition_at 9 (frozen_of p mask word) (ltb (frozen_of p mask word) (symbol_count p)) ∷ [])

-- The payload of a word: its symbols at the marked phases in rising order.
unfoldable pub undone_payload : Plan → List ℕ → List ℕ → List ℕ
undone_payload p mask word = pack (marked mask / 8) (gather (unpack mask) (frame_symbols p word))

-- Frame undo: plan, mask and word to the payload.
unfoldable pub frame_undo : Plan → List ℕ → List ℕ → List ℕ → Verdict × List ℕ
frame_undo p mask word out =
    let v = settle (undo_checks p mask word (length out)) done in
    (v, after v out (undone_payload p mask word))
