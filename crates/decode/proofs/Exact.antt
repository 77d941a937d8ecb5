-- Demand 3 for frame follow and frame decode, as one theorem each about their definitions. Assumes nothing.
use mathlib.Core.Path.{◌≡◌, sym, ap, ◌∙◌}
use mathlib.Core.Bool.{Bool, false}
use mathlib.Core.List.{List, ◌++◌}
use Prim.Native.Nat.{ℕ, suc, ◌*◌, ◌/◌, ◌<◌}
use native.Mathlib.Omega.{arith}
use lib.IntN.{ℤ, pos}
use lib.ListN.{length, take, drop, get_or-append}
use Rattle.base.specs.Bit.{bit}
use Rattle.bits.specs.Packed.{unpack, pack}
use Rattle.payload.specs.Payload.{ones, gather}
use Rattle.bits.proofs.Packed.{length-unpack, length-pack, unpack-append, unpack-pack}
use Rattle.payload.proofs.Payload.{length-gather}
use Rattle.payload.proofs.Marked.{gather-at, ones-before, marked-phase}
use Rattle.answer.specs.Verdict.{Verdict, done, after}
use Rattle.answer.proofs.Written.{after_front, after-at, after-room, after-rest}
use Rattle.mask.specs.Mask.{marked}
use Rattle.mask.proofs.Mask.{bytes-marked, bytes-eighth}
use Rattle.polar.specs.Code.{channel}
use Rattle.polar.specs.Follow.{scores, penalties}
use Rattle.polar.proofs.Least.{least-bound}
use Rattle.polar.proofs.Values.{score-bound}
use Rattle.polar.proofs.Follow.{length-scores, length-penalties, length-decode, scores-at, penalties-at}
use Rattle.polar.proofs.Exact.{score-exact, penalty-exact, marked-sign, unmarked-zero}
use Rattle.folds.specs.Range.{first_outside}
use Rattle.folds.proofs.Signs.{channel-most}
use Rattle.plan.specs.declared.Plan.{Plan}
use Rattle.plan.specs.Plan.{plan_code, symbol_count, byte_count}
use Rattle.plan.proofs.Layered.{plan-size, bytes_bits}
use Rattle.decode.specs.Jobs.{frame_follow, decided, frame_decode}
use Rattle.decode.specs.Exact.{FrameExact, BySigns, FrameWithin}
use Rattle.decode.proofs.Accepted.{follow-accepted, decode-accepted}

-- What an accepted job leaves of the scores and penalties of a frame's symbols is exact.
frame-exact : (p : Plan) (values : List ℤ) (u : List Bool) → length u ≡ symbol_count p → (v : Verdict) → v ≡ done → (scores₀ : List ℤ) (penalties₀ : List ℕ)
    → FrameExact p values u scores₀ (after v scores₀ (scores (plan_code p) (channel values) u)) penalties₀ (after v penalties₀ (penalties (plan_code p) (channel values) u))
frame-exact p values u e v ok scores₀ penalties₀ =
    let C = plan_code p in
    let m = channel values in
    let k : ℕ = symbol_count p in
    let n : length (scores C m u) ≡ k = length-scores C m u ∙ e in
    let n' : length (penalties C m u) ≡ k = length-penalties C m u ∙ e in
    record {
      score-exact = λ i l. rw (after-at v scores₀ (scores C m u) k n ok i (pos 0) l) (score-exact C m u i (e ∙ sym (plan-size p)) (omega (arith, plan-size p)) (pos 0));
      penalty-exact = λ i l. rw (after-at v penalties₀ (penalties C m u) k n' ok i 0 l) (penalty-exact C m u i (e ∙ sym (plan-size p)) (omega (arith, plan-size p)) 0);
      count = e;
      score-room = after-room v scores₀ (scores C m u) k n ok;
      score-rest = after-rest v scores₀ (scores C m u) k n ok;
      penalty-room = after-room v penalties₀ (penalties C m u) k n' ok;
      penalty-rest = after-rest v penalties₀ (penalties C m u) k n' ok;
    }

-- Frame follow: for every plan, values, symbols and buffers, where the request is accepted, the scores and penalties that it leaves
-- are exact for the given symbols at all phases.
pub frame-follow-exact : (p : Plan) (values : List ℤ) (symbols : List ℕ) (scores₀ : List ℤ) (penalties₀ : List ℕ)
    → let r = frame_follow p values symbols scores₀ penalties₀ in r.0 ≡ done → FrameExact p values (unpack symbols) scores₀ r.1 penalties₀ r.2
unfolding frame_follow
frame-follow-exact p values symbols scores₀ penalties₀ ok =
    let q = follow-accepted p values symbols scores₀ penalties₀ (sym ok) in
    frame-exact p values (unpack symbols) (length-unpack symbols ∙ ap (λ n. 8 * n) q.long ∙ bytes_bits p q.ready.layered) _ ok scores₀ penalties₀

-- The bits of the bytes that a job of 8n payload bits leaves.
payload-at : (l : List Bool) (n : ℕ) → length l ≡ 8 * n → (v : Verdict) → v ≡ done → (old : List ℕ) (j : ℕ) → j < length l
    → bit (unpack (after v old (pack n l))) j ≡ bit l j
payload-at l n e v ok old j h =
    ap (λ (s : List ℕ). bit (unpack s) j) (after_front v old (pack n l) n (length-pack n l) ok)
    ∙ ap (λ s. bit s j) (unpack-append (pack n l) (drop n old))
    ∙ ap (λ s. bit (s ++ unpack (drop n old)) j) (unpack-pack n l e)
    ∙ get_or-append l (unpack (drop n old)) false j h

-- Frame decode: for every plan, values, mask and buffers, where the request is accepted, there are the symbols `decided`, for which the
-- scores and penalties that it leaves are exact at all phases, and which go with the payload by the signs of these scores.
pub frame-decode-exact : (p : Plan) (values : List ℤ) (mask : List ℕ) (scores₀ : List ℤ) (penalties₀ payload₀ : List ℕ)
    → let r = frame_decode p values mask scores₀ penalties₀ payload₀ in r.0 ≡ done
    → FrameExact p values (decided p values mask) scores₀ r.1 penalties₀ r.2 × BySigns p mask (decided p values mask) r.1 payload₀ r.3
unfolding frame_decode decided marked
frame-decode-exact p values mask scores₀ penalties₀ payload₀ ok =
    let C = plan_code p in
    let m = channel values in
    let marks = unpack mask in
    let u = decided p values mask in
    let q = decode-accepted p values mask scores₀ penalties₀ payload₀ (sym ok) in
    let lm : length marks ≡ symbol_count p = length-unpack mask ∙ ap (λ n. 8 * n) q.mask-count ∙ bytes_bits p q.ready.layered in
    let lu : length u ≡ symbol_count p = length-decode C m (bit marks) ∙ plan-size p in
    let k : ones marks ≡ 8 * (ones marks / 8) = omega (arith, bytes-marked (byte_count p) mask q.mask-count q.good, bytes-eighth (byte_count p) mask q.mask-count q.good) in
    let lg : length (gather marks u) ≡ 8 * (ones marks / 8) = length-gather marks u ∙ k in
    let new = pack (ones marks / 8) (gather marks u) in
    let lp : length new ≡ ones marks / 8 = length-pack (ones marks / 8) (gather marks u) in
    let ls : length (scores C m u) ≡ symbol_count p = length-scores C m u ∙ lu in (
      frame-exact p values u lu _ ok scores₀ penalties₀,
      record {
        sign = λ i l e. rw (after-at _ scores₀ (scores C m u) (symbol_count p) ls ok i (pos 0) l) (marked-sign C m (bit marks) i (omega (arith, plan-size p)) (pos 0) e);
        payload-bit = λ i l e.
            payload-at (gather marks u) (ones marks / 8) lg _ ok payload₀ (ones (take i marks)) (omega (arith, ones-before marks i e, length-gather marks u))
            ∙ gather-at marks u i e;
        frozen = λ i l e. unmarked-zero C m (bit marks) i (omega (arith, plan-size p)) e;
        phase = λ j l. let r = marked-phase marks j l in (r.0, omega (arith, r.1, lm), r.2, r.3);
        payload-room = omega (arith, after-room _ payload₀ new (ones marks / 8) lp ok);
        payload-rest = after-rest _ payload₀ new (ones marks / 8) lp ok;
      },
    )

-- No score of an accepted job is in size above 127 for each of the frame's places, and no penalty is.
frame_bound : (p : Plan) (values : List ℤ) (u : List Bool) → first_outside 127 values ≡ length values → length u ≡ symbol_count p → (v : Verdict) → v ≡ done → (scores₀ : List ℤ) (penalties₀ : List ℕ)
    → FrameWithin p (after v scores₀ (scores (plan_code p) (channel values) u)) (after v penalties₀ (penalties (plan_code p) (channel values) u))
frame_bound p values u inside e v ok scores₀ penalties₀ i l =
    let C = plan_code p in
    let m = channel values in
    let k : ℕ = symbol_count p in
    let most = channel-most 127 values inside in
    let score-is = after-at v scores₀ (scores C m u) k (length-scores C m u ∙ e) ok i (pos 0) l ∙ scores-at C m u i (pos 0) (omega (arith, e)) in
    let penalty-is = after-at v penalties₀ (penalties C m u) k (length-penalties C m u ∙ e) ok i 0 l ∙ penalties-at C m u i 0 (omega (arith, e)) in
    (rw (score-is, ← plan-size p) (score-bound C m 127 most (take i u)), rw (penalty-is, ← plan-size p) (least-bound C m 127 most (take (suc i) u)))

pub frame-follow-bound : (p : Plan) (values : List ℤ) (symbols : List ℕ) (scores₀ : List ℤ) (penalties₀ : List ℕ)
    → let r = frame_follow p values symbols scores₀ penalties₀ in r.0 ≡ done → FrameWithin p r.1 r.2
unfolding frame_follow
frame-follow-bound p values symbols scores₀ penalties₀ ok =
    let q = follow-accepted p values symbols scores₀ penalties₀ (sym ok) in
    frame_bound p values (unpack symbols) (q.ready.inside ∙ sym q.ready.count) (length-unpack symbols ∙ ap (λ n. 8 * n) q.long ∙ bytes_bits p q.ready.layered) _ ok scores₀ penalties₀

pub frame-decode-bound : (p : Plan) (values : List ℤ) (mask : List ℕ) (scores₀ : List ℤ) (penalties₀ payload₀ : List ℕ)
    → let r = frame_decode p values mask scores₀ penalties₀ payload₀ in r.0 ≡ done → FrameWithin p r.1 r.2
unfolding frame_decode decided
frame-decode-bound p values mask scores₀ penalties₀ payload₀ ok =
    let q = decode-accepted p values mask scores₀ penalties₀ payload₀ (sym ok) in
    frame_bound p values (decided p values mask) (q.ready.inside ∙ sym q.ready.count) (length-decode (plan_code p) (channel values) (bit (unpack mask)) ∙ plan-size p) _ ok scores₀ penalties₀
