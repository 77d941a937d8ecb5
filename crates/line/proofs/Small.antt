-- How large penalties are. Assumes nothing.
use mathlib.Core.Path.{◌≡◌, ap, ◌∙◌}
use mathlib.Core.Bool.{true}
use mathlib.Core.List.{List}
use Prim.Native.Nat.{ℕ, ◌<◌}
use native.Mathlib.Omega.{arith}
use lib.IntN.{ℤ, pos}
use lib.ListN.{length, get_or, replicate}
use Rattle.answer.specs.Verdict.{Verdict, done, is_accepted}
use Rattle.answer.proofs.Settle.{none_of, settle-none}
use Rattle.plan.specs.declared.Plan.{Plan}
use Rattle.decode_checks.specs.Checks.{frame_decode_checks}
use Rattle.decode.specs.Jobs.{frame_decode}
use Rattle.decode.proofs.Exact.{frame-decode-bound}
use Rattle.line.specs.Line.{plan_of, mask_of, values_of, decode_of}

-- Frame decode's answer where it is accepted.
is-done : (p : Plan) (values : List ℤ) (mask : List ℕ) (scores₀ : List ℤ) (penalties₀ payload₀ : List ℕ)
    → let v = (frame_decode p values mask scores₀ penalties₀ payload₀).0 in is_accepted v ≡ true → v ≡ done
unfolding frame_decode
is-done p values mask scores₀ penalties₀ payload₀ ok =
    let cs = frame_decode_checks p values mask (length scores₀) (length penalties₀) (length payload₀) in settle-none cs done (none_of cs done ok)

-- The penalties of an input have five digits at most.
pub input-small : (input : List ℕ) (v : Verdict) (scores : List ℤ) (penalties payload : List ℕ) → decode_of input ≡ (v, scores, penalties, payload) → is_accepted v ≡ true
    → (i : ℕ) → i < 256 → get_or penalties i 0 < 100000
unfolding decode_of
input-small input v scores penalties payload e ok i l =
    let plan = plan_of input in
    let values = values_of input in
    let mask = mask_of input in
    let accepted = is-done plan values mask (replicate 256 (pos 0)) (replicate 256 0) (replicate 32 0) (ap (λ r. is_accepted r.0) e ∙ ok) in
    let few = (frame-decode-bound plan values mask (replicate 256 (pos 0)) (replicate 256 0) (replicate 32 0) accepted i (omega arith)).1 in
    omega (arith, few, ap (λ r. get_or r.2 i 0) e)
