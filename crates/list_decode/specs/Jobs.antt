-- What list decoding answers and writes, from its inputs. Assumes nothing.
use Rattle.std.specs.Prelude.{Bool, List, [], ◌∷◌, ℕ, ℤ, length, replicate}
use Rattle.base.specs.Bit.{bit}
use Rattle.bits.specs.Packed.{unpack}
use Rattle.answer.specs.Verdict.{Verdict, done, penalty, refused, settle, after}
use Rattle.polar.specs.Code.{channel, least}
use Rattle.list.specs.Sort.{sort}
use Rattle.list.specs.Best.{filter}
use Rattle.list.specs.Paths.{paths}
use Rattle.agreeing.specs.Agreeing.{payload_of, agrees_at}
use Rattle.plan.specs.declared.Plan.{Plan}
use Rattle.plan.specs.Plan.{plan_code, symbol_count}
use Rattle.list_checks.specs.Checks.{list_decode_checks}

-- The final paths: those that a list of L keeps after all phases of the frame, in their order.
abbrev pub final_paths : Plan → ℕ → List ℤ → List ℕ → List (List Bool)
final_paths p L values mask = paths (plan_code p) (channel values) (bit (unpack mask)) L (symbol_count p)

-- The penalty of a final path: the least total of the words that agree with all its symbols.
abbrev pub final_penalty : Plan → List ℤ → List Bool → ℕ
final_penalty p values = least (plan_code p) (channel values)

-- The agreeing paths: the final paths whose checksum agrees, by their final penalty, and those of equal penalty by their position in the
-- list. The first of them is answered.
abbrev pub agreeing_paths : Plan → ℕ → List ℤ → List ℕ → List (List Bool)
agreeing_paths p L values mask = sort (final_penalty p values) (filter (agrees_at mask) (final_paths p L values mask))

-- The verdict of the agreeing paths, where no check holds: the penalty of the first, or condition 13, that no final path's checksum
-- agrees.
abbrev pub verdict_of : (List Bool → ℕ) → List (List Bool) → Verdict
verdict_of total [] = refused 13 0
verdict_of total (u ∷ us) = penalty (total u)

-- The payload that is written: that of the first.
abbrev pub first_payload : List ℕ → List (List Bool) → List ℕ
first_payload mask [] = []
first_payload mask (u ∷ us) = payload_of mask u

-- List decoding: plan, list size, 256 values and mask to the verdict, the scratch bytes and the payload. Where no check holds the first
-- 8,192 bytes of scratch are left as zeros, also under 13; the payload is written where a path agrees.
unfoldable pub list_decode : Plan → ℕ → List ℤ → List ℕ → List ℕ → List ℕ → Verdict × List ℕ × List ℕ
list_decode p L values mask old_scratch old_payload =
    let checks = list_decode_checks p L values mask (length old_scratch) (length old_payload) in
    let agreeing = agreeing_paths p L values mask in
    let v = settle checks (verdict_of (final_penalty p values) agreeing) in
    (v, after (settle checks done) old_scratch (replicate 8192 0), after v old_payload (first_payload mask agreeing))
