-- What list decoding leaves, by the record that was found, if one was. Assumes nothing.
use mathlib.Core.Path.{◌≡◌}
use mathlib.Core.Bool.{true}
use mathlib.Core.List.{List, ◌++◌}
use Prim.Native.Nat.{ℕ, ◌≤◌, ◌<◌}
use native.Mathlib.Omega.{arith}
use lib.IntN.{ℤ}
use lib.ListN.{length, drop, replicate}
use Rattle.std.specs.Prelude.{Option, None, Some, IfSome}
use Rattle.bits.specs.Packed.{unpack}
use Rattle.answer.specs.Verdict.{Verdict, done, is_accepted, settle}
use Rattle.plan.specs.declared.Plan.{Plan}
use Rattle.grid.specs.Grid.{rows_bits}
use Rattle.list_checks.specs.Checks.{list_decode_checks}
use Rattle.list_run.specs.Run.{ListRun}
use Rattle.agreeing.specs.Found.{BestFound, FoundHandedOut}
use Rattle.list_decode.specs.Jobs.{list_decode}
use Rattle.list_decode.proofs.Two.{inner, outer}
use Rattle.list_decode.proofs.Accepted.{list_done}

-- A record that was found is one of eight.
pub found_below : (mask ran : List ℕ) (n : ℕ) → n ≤ 8 → (found : Option ℕ) → BestFound mask ran n n found → IfSome found (λ i. i < 8)
found_below mask ran n few None best = tt
found_below mask ran n few (Some r) best = omega (arith, best.0)

module _ (p : Plan) (L : ℕ) (values : List ℤ) (mask old_scratch old_payload : List ℕ)
    (ok : is_accepted (settle (list_decode_checks p L values mask (length old_scratch) (length old_payload)) done) ≡ true)
    (marks : List ℕ) (n : ℕ) (ran : List ℕ) (em : rows_bits 16 marks ≡ unpack mask) (run : ListRun (inner p) (outer p) L values marks n ran) where
  -- An accepted job hands out the path that was found, or 13, and clears the scratch.
  pub list_found : (found : Option ℕ) → BestFound mask ran n n found → (v : Verdict) (scratch payload : List ℕ) → drop 4096 ran ≡ drop 4096 old_scratch
      → FoundHandedOut mask ran found old_payload v payload → scratch ≡ replicate 8192 0 ++ drop 8192 ran
      → list_decode p L values mask old_scratch old_payload ≡ (v, scratch, payload)
  list_found None best v scratch payload rest h e =
      list_done p L values mask old_scratch old_payload ok marks n n ran em run best v scratch payload rest
      (record { some = λ l. absurd (omega (arith, l)); no = λ _. h.no (omega arith) }) e
  list_found (Some r) best v scratch payload rest h e =
      list_done p L values mask old_scratch old_payload ok marks n r ran em run best.1 v scratch payload rest
      (record { some = λ _. h.some (omega (arith, best.0, run.few)); no = λ k. absurd (omega (arith, k, best.0)) }) e
