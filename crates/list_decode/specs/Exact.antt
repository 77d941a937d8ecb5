-- Demand 3 for list decoding: what is true of an accepted answer. Assumes nothing.
use Rattle.std.specs.Prelude.{◌≡◌, List, [], ◌++◌, ℕ, ◌≤◌, ℤ, length, get_or, drop}
use Rattle.polar.specs.Code.{channel}
use Rattle.polar.specs.Exact.{ExactPenalty}
use Rattle.list.specs.Best.{IsBestAt}
use Rattle.plan.specs.declared.Plan.{Plan}
use Rattle.plan.specs.Plan.{plan_code}
use Rattle.agreeing.specs.Agreeing.{payload_of, agrees_at}
use Rattle.list_decode.specs.Jobs.{final_paths, final_penalty}

-- A position of the final paths is that of the best agreeing path: its checksum agrees, no agreeing path has a lower penalty, and none
-- of equal penalty stands before it.
abbrev pub BestAgreeing : Plan → ℕ → List ℤ → List ℕ → ℕ → Type 0
BestAgreeing p L values mask i =
    let finals = final_paths p L values mask in
    IsBestAt (λ j. agrees_at mask (get_or finals j [])) (λ j. final_penalty p values (get_or finals j [])) (length finals) i

-- The answer q, and what the payload buffer holds afterwards, belong to the best agreeing path, and there is one such position only: its
-- payload is written, and q is the least total of the words that agree with all its symbols; no answer is above 32,512.
pub record AnswerExact (p : Plan) (L : ℕ) (values : List ℤ) (mask payload₀ payload : List ℕ) (q : ℕ) : Type 0 where
  pub position : ℕ
  pub best : BestAgreeing p L values mask position
  pub only : (i : ℕ) → BestAgreeing p L values mask i → i ≡ position
  pub written : payload ≡ payload_of mask (get_or (final_paths p L values mask) position []) ++ drop (length (payload_of mask (get_or (final_paths p L values mask) position []))) payload₀
  pub penalty-exact : ExactPenalty (plan_code p) (channel values) (get_or (final_paths p L values mask) position []) 255 q
  pub small : q ≤ 32512
