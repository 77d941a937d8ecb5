-- The scores and penalties of frame decode are those of frame follow for the decoder's symbols. Assumes nothing.
use mathlib.Core.Path.{◌≡◌, refl, sym, ap, ◌∙◌}
use mathlib.Core.Bool.{Bool, true, false, not, ◌||◌}
use mathlib.Core.List.{List}
use Prim.Native.Nat.{ℕ, ◌/◌}
use lib.Dec.{eqb, ltb}
use lib.IntN.{ℤ}
use lib.ListN.{length}
use borrow.Author.Tests.{eq-eqb}
use Rattle.base.specs.Bit.{bit}
use Rattle.base.proofs.Bool.{or-eq-false}
use Rattle.bits.specs.Packed.{unpack, pack}
use Rattle.bits.proofs.Packed.{length-pack, unpack-pack}
use Rattle.answer.specs.Verdict.{Verdict, done, is_accepted, after}
use Rattle.answer.proofs.Settle.{None, none_of, settle-none}
use Rattle.mask.specs.Mask.{marked}
use Rattle.polar.specs.Code.{channel}
use Rattle.polar.specs.Follow.{scores, penalties}
use Rattle.polar.proofs.Follow.{length-decode}
use Rattle.plan.specs.declared.Plan.{Plan}
use Rattle.plan.specs.Plan.{bad_layers, plan_code, symbol_count, byte_count}
use Rattle.plan.proofs.Layered.{plan-size, bytes_bits}
use Rattle.decode_checks.specs.Checks.{frame_follow_checks, frame_decode_checks}
use Rattle.decode.specs.Jobs.{frame_follow, decided, frame_decode}

both : (m w : Bool) → m ≡ false → w ≡ false → (m || w) ≡ false
both m w em ew = rw (em, ew) refl

module _ (p : Plan) (values : List ℤ) (mask : List ℕ) (old_scores : List ℤ) (old_penalties payload : List ℕ) where
  -- The decoder's symbols, packed.
  abbrev pub symbols : List ℕ
  symbols = pack (byte_count p) (decided p values mask)

  symbols-are : bad_layers p ≡ false → unpack symbols ≡ decided p values mask
  unfolding decided
  symbols-are layered = unpack-pack (byte_count p) (decided p values mask) (length-decode (plan_code p) (channel values) (bit (unpack mask)) ∙ plan-size p ∙ sym (bytes_bits p layered))

  pub decode-follows : is_accepted (frame_decode p values mask old_scores old_penalties payload).0 ≡ true
      → frame_follow p values symbols old_scores old_penalties ≡ (done, (frame_decode p values mask old_scores old_penalties payload).1, (frame_decode p values mask old_scores old_penalties payload).2)
  unfolding frame_decode frame_follow frame_follow_checks frame_decode_checks
  decode-follows ok =
      let C = plan_code p in
      let m = channel values in
      let u = decided p values mask in
      let ds = frame_decode_checks p values mask (length old_scores) (length old_penalties) (length payload) in
      let n = none_of ds done ok in
      let h = or-eq-false (not (eqb (length values) (symbol_count p))) (not (eqb (length mask) (byte_count p))) n.1.1.0 in
      let r = or-eq-false (ltb (length old_scores) (symbol_count p) || ltb (length old_penalties) (symbol_count p)) (ltb (length payload) (marked mask / 8)) n.1.1.1.1.0 in
      let fs = frame_follow_checks p values (length symbols) (length old_scores) (length old_penalties) in
      let long : not (eqb (length symbols) (byte_count p)) ≡ false = ap not (eq-eqb (length symbols) (byte_count p) (length-pack (byte_count p) u)) in
      let f : None fs = (n.0, (n.1.0, (both (not (eqb (length values) (symbol_count p))) (not (eqb (length symbols) (byte_count p))) h.0 long, (r.0, (n.1.1.1.1.1.0, tt))))) in
      ap (λ (x : Verdict). (x, after x old_scores (scores C m (unpack symbols)), after x old_penalties (penalties C m (unpack symbols)))) (settle-none fs done f)
      ∙ ap (λ v. (done, after done old_scores (scores C m v), after done old_penalties (penalties C m v))) (symbols-are n.0)
      ∙ sym (ap (λ (x : Verdict). (done, after x old_scores (scores C m u), after x old_penalties (penalties C m u))) (settle-none ds done n))
