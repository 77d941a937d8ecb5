-- Demand 3 of list decoding: what is true of an accepted answer. Assumes nothing.
use mathlib.Core.Path.{◌≡◌, sym, ap, ap₂, ◌∙◌, subst}
use mathlib.Core.Bool.{Bool, true, false, false≢true}
use mathlib.Core.List.{List, [], ◌∷◌, ◌++◌}
use Prim.Native.Nat.{ℕ}
use native.Mathlib.Omega.{arith}
use lib.IntN.{ℤ}
use lib.ListN.{length, get_or, take, drop, replicate}
use lib.Seq.{take_all}
use Rattle.base.specs.Bit.{bit}
use Rattle.bits.specs.Packed.{unpack}
use Rattle.answer.specs.Verdict.{Verdict, done, penalty, refused, is_accepted, penalty_of, settle, after}
use Rattle.answer.proofs.Settle.{None, settle-none}
use Rattle.polar.specs.Code.{channel}
use Rattle.polar.specs.Exact.{ExactPenalty}
use Rattle.plan.specs.declared.Plan.{Plan}
use Rattle.plan.specs.Plan.{plan_code, symbol_count}
use Rattle.pair_run.proofs.Premises.{penalty-small}
use Rattle.list.specs.Best.{BestFirst, begins, empty}
use Rattle.list.proofs.Paths.{paths-long}
use Rattle.list.proofs.Best.{best-first, best-only, filter-single}
use Rattle.decode.specs.Jobs.{decided}
use Rattle.agreeing.specs.Agreeing.{payload_of, agrees_at}
use Rattle.list_checks.specs.Checks.{list_decode_checks}
use Rattle.list_decode.specs.Jobs.{final_paths, final_penalty, verdict_of, first_payload, list_decode}
use Rattle.list_decode.specs.Exact.{AnswerExact}
use Rattle.list_decode.proofs.Two.{inner, outer, two-symbols, two-least}
use Rattle.list_decode.proofs.Answers.{list-verdict, final-exact, agreeing-of-one}
use Rattle.list_decode.proofs.Accepted.{list-passes, answered}

module _ (p : Plan) (L : ℕ) (values : List ℤ) (mask old_scratch old_payload : List ℕ) where
  -- Where no check holds and the answer is a penalty, that is what it is.
  pub list-decode-exact : None (list_decode_checks p L values mask (length old_scratch) (length old_payload))
      → (q : ℕ) → (list_decode p L values mask old_scratch old_payload).0 ≡ penalty q → AnswerExact p L values mask old_payload (list_decode p L values mask old_scratch old_payload).2 q
  unfolding list_decode
  list-decode-exact n q e = go (best-first (agrees_at mask) (final_penalty p values) [] (final_paths p L values mask))
    where
      go : BestFirst (agrees_at mask) (final_penalty p values) [] (final_paths p L values mask) → AnswerExact p L values mask old_payload (list_decode p L values mask old_scratch old_payload).2 q
      go (empty f h) = absurd (false≢true (ap is_accepted (sym (list-verdict p L values mask old_scratch old_payload n ∙ ap (verdict_of (final_penalty p values)) f) ∙ e)))
      go (begins i rest best f) =
          let u = get_or (final_paths p L values mask) i [] in
          let s = list-verdict p L values mask old_scratch old_payload n ∙ ap (verdict_of (final_penalty p values)) f in
          let is : final_penalty p values u ≡ q = ap penalty_of (sym s ∙ e) in
          let ok = list-passes p L values mask (length old_scratch) (length old_payload) n in
          let many = two-symbols p ok.two in
          let all : take 256 u ≡ u = take_all 256 u (omega (arith, many, paths-long (plan_code p) (channel values) (bit (unpack mask)) L (symbol_count p) i best.inside)) in
          record {
            position = i;
            best = best;
            only = λ j o. best-only _ _ _ j i o best;
            written = ap₂ (λ (v : Verdict) (us : List (List Bool)). after v old_payload (first_payload mask us)) s f;
            penalty-exact = subst (ExactPenalty (plan_code p) (channel values) u 255) (ap (final_penalty p values) all ∙ is) (final-exact p values mask L i best.inside 255 (omega (arith, many))).1;
            small = omega (arith, is, two-least p ok.two values u, penalty-small (inner p) (outer p) values (ok.inside ∙ sym ok.count) u);
          }

module _ (p : Plan) (values : List ℤ) (mask old_scratch old_payload : List ℕ) where
  abbrev u : List Bool
  u = decided p values mask

  abbrev zeros : List ℕ
  zeros = replicate 8192 0 ++ drop 8192 old_scratch

  -- With L = 1, where no check holds, the answer is that of the single decoder's path where its checksum agrees, else 13.
  pub list-decode-one : None (list_decode_checks p 1 values mask (length old_scratch) (length old_payload))
      → (agrees_at mask u ≡ true → list_decode p 1 values mask old_scratch old_payload ≡ (penalty (final_penalty p values u), zeros, payload_of mask u ++ drop (length (payload_of mask u)) old_payload))
      × (agrees_at mask u ≡ false → list_decode p 1 values mask old_scratch old_payload ≡ (refused 13 0, zeros, old_payload))
  list-decode-one n = (
    (λ e. answered p 1 values mask old_scratch old_payload ok (u ∷ []) (agreeing-of-one p values mask ∙ filter-single (agrees_at mask) (final_penalty p values) [] u true e)),
    (λ e. answered p 1 values mask old_scratch old_payload ok [] (agreeing-of-one p values mask ∙ filter-single (agrees_at mask) (final_penalty p values) [] u false e)),
  )
    where
      ok : is_accepted (settle (list_decode_checks p 1 values mask (length old_scratch) (length old_payload)) done) ≡ true
      ok = ap is_accepted (settle-none (list_decode_checks p 1 values mask (length old_scratch) (length old_payload)) done n)
