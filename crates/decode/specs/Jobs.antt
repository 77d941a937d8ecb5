-- What frame follow and frame decode answer and write, from their inputs alone. Assumes nothing.
use Rattle.std.specs.Prelude.{Bool, List, ℕ, ◌/◌, ℤ, length}
use Rattle.base.specs.Bit.{bit}
use Rattle.bits.specs.Packed.{unpack, pack}
use Rattle.payload.specs.Payload.{gather}
use Rattle.answer.specs.Verdict.{Verdict, done, settle, after}
use Rattle.mask.specs.Mask.{marked}
use Rattle.polar.specs.Code.{channel}
use Rattle.polar.specs.Follow.{scores, penalties, decode}
use Rattle.plan.specs.declared.Plan.{Plan}
use Rattle.plan.specs.Plan.{plan_code}
use Rattle.decode_checks.specs.Checks.{frame_follow_checks, frame_decode_checks}

-- Frame follow: plan, values and symbols to as many scores and penalties. All of them are those of the frame's code over the
-- costs of the channel values and the whole list of symbols.
unfoldable pub frame_follow : Plan → List ℤ → List ℕ → List ℤ → List ℕ → Verdict × List ℤ × List ℕ
frame_follow p values symbols old_scores old_penalties =
    let v = settle (frame_follow_checks p values (length symbols) (length old_scores) (length old_penalties)) done in
    let u = unpack symbols in
    (v, after v old_scores (scores (plan_code p) (channel values) u), after v old_penalties (penalties (plan_code p) (channel values) u))

-- The decoder's symbols: at a marked phase 0 where the score that belongs to the symbols before it is 0 or more, else 1; at any
-- other phase 0.
unfoldable pub decided : Plan → List ℤ → List ℕ → List Bool
decided p values mask = decode (plan_code p) (channel values) (bit (unpack mask))

-- Frame decode: plan, values and mask to the scores and penalties of the decoder's symbols, and the payload: its symbols at the
-- marked phases in rising order.
unfoldable pub frame_decode : Plan → List ℤ → List ℕ → List ℤ → List ℕ → List ℕ → Verdict × List ℤ × List ℕ × List ℕ
frame_decode p values mask old_scores old_penalties old_payload =
    let v = settle (frame_decode_checks p values mask (length old_scores) (length old_penalties) (length old_payload)) done in
    let u = decided p values mask in (
      v,
      after v old_scores (scores (plan_code p) (channel values) u),
      after v old_penalties (penalties (plan_code p) (channel values) u),
      after v old_payload (pack (marked mask / 8) (gather (unpack mask) u)),
    )
