-- When list decoding answers 13, that every final path is exact, and a list of one. Assumes nothing.
use mathlib.Core.Path.{◌≡◌, sym, ap, ◌∙◌}
use mathlib.Core.Bool.{Bool, false, false≢true}
use mathlib.Core.List.{List, [], ◌∷◌}
use Prim.Native.Nat.{ℕ, suc, ◌<◌}
use native.Mathlib.Omega.{arith}
use lib.IntN.{ℤ}
use lib.ListN.{length, get_or, take}
use lib.Seq.{take_all}
use Rattle.base.specs.Bit.{bit}
use Rattle.bits.specs.Packed.{unpack}
use Rattle.answer.specs.Verdict.{refused, is_accepted}
use Rattle.answer.proofs.Settle.{None, settle-none}
use Rattle.polar.specs.Code.{channel, least, score}
use Rattle.polar.specs.Exact.{ExactScore, ExactPenalty}
use Rattle.polar.specs.Follow.{decode}
use Rattle.polar.proofs.Follow.{length-decode}
use Rattle.list.specs.Sort.{sort}
use Rattle.list.specs.Best.{filter, BestFirst, begins, empty}
use Rattle.list.proofs.Paths.{kept-exact, single}
use Rattle.list.proofs.Best.{best-first, sort-single}
use Rattle.plan.specs.declared.Plan.{Plan}
use Rattle.plan.specs.Plan.{plan_code, symbol_count}
use Rattle.plan.proofs.Layered.{plan-size}
use Rattle.decode.specs.Jobs.{decided}
use Rattle.agreeing.specs.Agreeing.{agrees_at}
use Rattle.list_checks.specs.Checks.{list_decode_checks}
use Rattle.list_decode.specs.Jobs.{final_paths, final_penalty, agreeing_paths, verdict_of, list_decode}

module _ (p : Plan) (L : ℕ) (values : List ℤ) (mask old_scratch old_payload : List ℕ) where
  -- No final path's checksum agrees.
  abbrev pub NoneAgrees : Type 0
  NoneAgrees = (i : ℕ) → i < length (final_paths p L values mask) → agrees_at mask (get_or (final_paths p L values mask) i []) ≡ false

  -- Where no check holds, the verdict is that of the agreeing paths,
  pub list-verdict : None (list_decode_checks p L values mask (length old_scratch) (length old_payload))
      → (list_decode p L values mask old_scratch old_payload).0 ≡ verdict_of (final_penalty p values) (agreeing_paths p L values mask)
  unfolding list_decode
  list-verdict n = settle-none (list_decode_checks p L values mask (length old_scratch) (length old_payload)) (verdict_of (final_penalty p values) (agreeing_paths p L values mask)) n

  -- and so 13 exactly if no final path's checksum agrees.
  pub exactly-13 : None (list_decode_checks p L values mask (length old_scratch) (length old_payload))
      → ((list_decode p L values mask old_scratch old_payload).0 ≡ refused 13 0 → NoneAgrees) × (NoneAgrees → (list_decode p L values mask old_scratch old_payload).0 ≡ refused 13 0)
  exactly-13 n = go (best-first (agrees_at mask) (final_penalty p values) [] (final_paths p L values mask))
    where
      go : BestFirst (agrees_at mask) (final_penalty p values) [] (final_paths p L values mask)
          → ((list_decode p L values mask old_scratch old_payload).0 ≡ refused 13 0 → NoneAgrees) × (NoneAgrees → (list_decode p L values mask old_scratch old_payload).0 ≡ refused 13 0)
      go (empty e h) = ((λ _. h), (λ _. list-verdict n ∙ ap (verdict_of (final_penalty p values)) e))
      go (begins i rest b e) = (
        (λ q. absurd (false≢true (sym (ap is_accepted q) ∙ ap is_accepted (list-verdict n ∙ ap (verdict_of (final_penalty p values)) e)))),
        (λ no. absurd (false≢true (sym (no i b.inside) ∙ b.passes))),
      )

module _ (p : Plan) (values : List ℤ) (mask : List ℕ) where
  -- The scores and penalties along every final path are those of the exact best words.
  pub final-exact : (L i : ℕ) → i < length (final_paths p L values mask) → (j : ℕ) → j < symbol_count p
      → let u = get_or (final_paths p L values mask) i [] in
      ExactScore (plan_code p) (channel values) u j (score (plan_code p) (channel values) (take j u))
      × ExactPenalty (plan_code p) (channel values) u j (least (plan_code p) (channel values) (take (suc j) u))
  final-exact L i l j lj = kept-exact (plan_code p) (channel values) (bit (unpack mask)) L (symbol_count p) i (omega (arith, plan-size p)) l j lj

  -- With L = 1 there is one final path, the symbols of the single decoder.
  pub list-of-one : final_paths p 1 values mask ≡ decided p values mask ∷ []
  unfolding decided
  list-of-one =
      let u = decode (plan_code p) (channel values) (bit (unpack mask)) in
      single (plan_code p) (channel values) (bit (unpack mask)) (symbol_count p) (omega (arith, plan-size p))
      ∙ ap (λ (p : List Bool). p ∷ []) (take_all (symbol_count p) u (omega (arith, plan-size p, length-decode (plan_code p) (channel values) (bit (unpack mask)))))

  -- So it is the only one that may agree.
  pub agreeing-of-one : agreeing_paths p 1 values mask ≡ filter (agrees_at mask) (decided p values mask ∷ [])
  agreeing-of-one =
      ap (λ (l : List (List Bool)). sort (final_penalty p values) (filter (agrees_at mask) l)) list-of-one
      ∙ sort-single (agrees_at mask) (final_penalty p values) [] (decided p values mask)
