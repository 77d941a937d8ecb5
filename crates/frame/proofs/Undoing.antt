-- Undo of encode, encode of undo, and one payload for each word: for all plans at once, as instances of the theory. Assumes nothing.
use mathlib.Core.Path.{◌≡◌, refl, sym, ap, ap₂, ◌∙◌}
use mathlib.Core.Bool.{Bool, true, false, not, ◌||◌}
use mathlib.Core.List.{List, ◌++◌}
use Prim.Native.Nat.{ℕ, ◌*◌, ◌/◌, ◌≤◌, ◌<◌}
use native.Mathlib.Omega.{arith}
use borrow.Author.Tests.{not-false, eqb-true, eq-eqb, ltb-false, le-ltb}
use lib.Dec.{eqb, ltb}
use lib.ListN.{length, get_or, take, drop}
use lib.Seq.{take_at}
use Rattle.base.specs.Bit.{tabulate}
use Rattle.base.proofs.Bool.{or-eq-false}
use Rattle.base.proofs.List.{length-tabulate}
use Rattle.bits.specs.Packed.{unpack, pack}
use Rattle.payload.specs.Payload.{ones, spread, gather, frozen_one}
use Rattle.bits.proofs.Packed.{length-unpack, length-pack, pack-lt, unpack-pack, packed}
use Rattle.payload.proofs.Payload.{length-spread, length-gather, gather-spread, spread-gather, frozen-spread, frozen-le}
use Rattle.answer.specs.Verdict.{Verdict, done, refused, is_accepted, after}
use Rattle.answer.proofs.Settle.{None, none_of, settle-none}
use Rattle.mask.specs.Mask.{marked, bad_mask}
use Rattle.mask.proofs.Mask.{bytes-marked, bytes-eighth}
use Rattle.polar.specs.Code.{symbols_in}
use Rattle.polar.proofs.Undo.{length-symbols-in, symbols-of-word, word-of-symbols}
use Rattle.plan.specs.declared.Plan.{Plan}
use Rattle.plan.specs.Plan.{bad_layers, bad_kernels, plan_code, symbol_count, byte_count}
use Rattle.plan.proofs.Layered.{plan-size, bytes_bits}
use Rattle.frame_checks.specs.Checks.{encode_checks, request_checks}
use Rattle.frame.specs.Jobs.{encoded_frame, frame_encode, frame_symbols, frozen_of, undo_checks, undone_payload, frame_undo}
use Rattle.frame.proofs.Words.{unframe, undoes, redoes}

-- Numbers that are bytes.
abbrev pub Bytes : List ℕ → Type 0
Bytes s = (i : ℕ) → i < length s → get_or s i 0 < 256

-- ---- words and payloads

module _ (p : Plan) (layered : bad_layers p ≡ false) (mask : List ℕ) (n : length mask ≡ byte_count p) where
  bits-long : length (unpack mask) ≡ symbol_count p
  bits-long = length-unpack mask ∙ ap (λ k. 8 * k) n ∙ bytes_bits p layered

  -- The symbols of the word of a payload are those that it was made from,
  pub symbols-encoded : (payload : List ℕ) → frame_symbols p (encoded_frame p mask payload) ≡ spread (unpack mask) (unpack payload)
  unfolding frame_symbols encoded_frame
  symbols-encoded payload =
      let u = spread (unpack mask) (unpack payload) in
      ap (symbols_in (plan_code p)) (unpack-pack (byte_count p) (tabulate (symbol_count p) ((plan_code p).word u)) (length-tabulate (symbol_count p) _ ∙ sym (bytes_bits p layered)))
      ∙ ap (λ k. symbols_in (plan_code p) (tabulate k ((plan_code p).word u))) (sym (plan-size p))
      ∙ symbols-of-word (plan_code p) (unframe p) (undoes p) (redoes p) u (length-spread (unpack mask) (unpack payload) ∙ bits-long ∙ sym (plan-size p))

  -- and none is 1 at an unmarked phase.
  pub frozen-encoded : (payload : List ℕ) → frozen_of p mask (encoded_frame p mask payload) ≡ symbol_count p
  unfolding frozen_of
  frozen-encoded payload = ap (frozen_one (unpack mask)) (symbols-encoded payload) ∙ frozen-spread (unpack mask) (unpack payload) ∙ bits-long

  pub length_symbols : (word : List ℕ) → length (frame_symbols p word) ≡ symbol_count p
  unfolding frame_symbols
  length_symbols word = length-symbols-in (plan_code p) (unpack word) ∙ plan-size p

  -- Either some phase is named, or none.
  pub frozen-none : (word : List ℕ) → ltb (frozen_of p mask word) (symbol_count p) ≡ false → frozen_of p mask word ≡ symbol_count p
  unfolding frozen_of
  frozen-none word f = omega (arith, ltb-false (frozen_one (unpack mask) (frame_symbols p word)) (symbol_count p) f, frozen-le (unpack mask) (frame_symbols p word), bits-long)

  module _ (good : bad_mask mask ≡ false) where
    -- A payload has eight bits for each byte.
    fills : ones (unpack mask) ≡ 8 * (marked mask / 8)
    fills = sym (bytes-marked (byte_count p) mask n good) ∙ ap (λ k. 8 * k) (bytes-eighth (byte_count p) mask n good)

    -- Undo gives back the payload of every word that encode makes.
    pub undone-encoded : (payload : List ℕ) → Bytes payload → length payload ≡ marked mask / 8 → undone_payload p mask (encoded_frame p mask payload) ≡ payload
    unfolding undone_payload
    undone-encoded payload h e =
        ap (λ u. pack (marked mask / 8) (gather (unpack mask) u)) (symbols-encoded payload)
        ∙ ap (pack (marked mask / 8)) (gather-spread (unpack mask) (unpack payload) (fills ∙ ap (λ k. 8 * k) (sym e) ∙ sym (length-unpack payload)))
        ∙ packed payload (marked mask / 8) (unpack payload) e h refl

    -- Encode gives back every word whose symbols have no 1 at an unmarked phase.
    pub encoded-undone : (word : List ℕ) → Bytes word → length word ≡ byte_count p → frozen_of p mask word ≡ symbol_count p → encoded_frame p mask (undone_payload p mask word) ≡ word
    unfolding encoded_frame undone_payload frozen_of frame_symbols
    encoded-undone word h e f =
        let m = unpack mask in
        let u = frame_symbols p word in
        let C = plan_code p in
        ap (λ x. pack (byte_count p) (tabulate (symbol_count p) (C.word (spread m x)))) (unpack-pack (marked mask / 8) (gather m u) (length-gather m u ∙ fills))
        ∙ ap (λ u. pack (byte_count p) (tabulate (symbol_count p) (C.word u))) (spread-gather m u (length_symbols word ∙ sym bits-long) (f ∙ sym bits-long))
        ∙ ap (λ k. pack (byte_count p) (tabulate k (C.word u))) (sym (plan-size p))
        ∙ ap (pack (byte_count p)) (word-of-symbols C (unframe p) (undoes p) (redoes p) (unpack word) (length-unpack word ∙ ap (λ k. 8 * k) e ∙ bytes_bits p layered ∙ sym (plan-size p)))
        ∙ packed word (byte_count p) (unpack word) e h refl

    -- Two different payloads never give one word.
    pub one-payload : (x y : List ℕ) → Bytes x → Bytes y → length x ≡ marked mask / 8 → length y ≡ marked mask / 8
        → encoded_frame p mask x ≡ encoded_frame p mask y → x ≡ y
    one-payload x y hx hy ex ey e = sym (undone-encoded x hx ex) ∙ ap (undone_payload p mask) e ∙ undone-encoded y hy ey

-- Their lengths.
pub length-encoded : (p : Plan) (mask payload : List ℕ) → length (encoded_frame p mask payload) ≡ byte_count p
unfolding encoded_frame
length-encoded p mask payload = length-pack (byte_count p) _

pub length-undone : (p : Plan) (mask word : List ℕ) → length (undone_payload p mask word) ≡ marked mask / 8
unfolding undone_payload
length-undone p mask word = length-pack (marked mask / 8) _

-- ---- the jobs

-- What the two jobs leave where no check holds.
encode-leaves : (p : Plan) (mask payload out : List ℕ) → None (encode_checks p mask (length payload) (length out))
    → frame_encode p mask payload out ≡ (done, encoded_frame p mask payload ++ drop (byte_count p) out)
unfolding frame_encode encoded_frame
encode-leaves p mask payload out n =
    ap (λ (v : Verdict). (v, after v out (encoded_frame p mask payload))) (settle-none (encode_checks p mask (length payload) (length out)) done n)
    ∙ ap (λ k. (done, encoded_frame p mask payload ++ drop k out)) (length-pack (byte_count p) _)

undo-leaves : (p : Plan) (mask word out : List ℕ) → None (undo_checks p mask word (length out))
    → frame_undo p mask word out ≡ (done, undone_payload p mask word ++ drop (marked mask / 8) out)
unfolding frame_undo undone_payload
undo-leaves p mask word out n =
    ap (λ (v : Verdict). (v, after v out (undone_payload p mask word))) (settle-none (undo_checks p mask word (length out)) done n)
    ∙ ap (λ k. (done, undone_payload p mask word ++ drop k out)) (length-pack (marked mask / 8) _)

must : (b : Bool) → (b ≡ false → ⊥) → b ≡ true
must true n = refl
must false n = absurd (n refl)

both : (k m w : ℕ) → m ≡ k → w ≡ k → (not (eqb m k) || not (eqb w k)) ≡ false
both k m w em ew = ap₂ (λ a b. not a || not b) (eq-eqb m k em) (eq-eqb w k ew)

module _ (p : Plan) (mask : List ℕ) where
  -- Frame undo accepts every word of frame encode and hands back its payload.
  pub undo-encode : (payload out out' : List ℕ) → Bytes payload → is_accepted (frame_encode p mask payload out).0 ≡ true → length payload ≤ length out'
      → frame_undo p mask (take (byte_count p) (frame_encode p mask payload out).1) out' ≡ (done, payload ++ drop (length payload) out')
  unfolding frame_encode encode_checks request_checks undo_checks
  undo-encode payload out out' h ok room =
      let n = none_of (encode_checks p mask (length payload) (length out)) done ok in
      let layered : bad_layers p ≡ false = n.0 in
      let known : bad_kernels p ≡ false = n.1.0 in
      let e = eqb-true (length mask) (byte_count p) (not-false _ n.1.1.0) in
      let g = n.1.1.1.0 in
      let s = eqb-true (length payload) (marked mask / 8) (not-false _ n.1.1.1.1.0) in
      let w = encoded_frame p mask payload in
      let lw = length-encoded p mask payload in
      ap (λ (r : Verdict × List ℕ). frame_undo p mask (take (byte_count p) r.1) out') (encode-leaves p mask payload out n)
      ∙ ap (λ x. frame_undo p mask x out') (take_at w (drop (byte_count p) out) (byte_count p) lw)
      ∙ undo-leaves p mask w out' (
        layered,
        (
          known,
          (
            both (byte_count p) (length mask) (length w) e lw,
            (
              g,
              (
                le-ltb (length out') (marked mask / 8) (rw (← s) room),
                (ap (λ x. ltb x (symbol_count p)) (frozen-encoded p layered mask e payload) ∙ le-ltb (symbol_count p) (symbol_count p) (omega arith), tt),
              ),
            ),
          ),
        ),
      )
      ∙ ap₂ (λ x k. (done, x ++ drop k out')) (undone-encoded p layered mask e g payload h s) (sym s)

  -- Frame encode of the payload that frame undo hands back is the word.
  pub encode-undo : (word out out' : List ℕ) → Bytes word → is_accepted (frame_undo p mask word out).0 ≡ true → byte_count p ≤ length out'
      → frame_encode p mask (take (marked mask / 8) (frame_undo p mask word out).1) out' ≡ (done, word ++ drop (byte_count p) out')
  unfolding frame_undo encode_checks request_checks undo_checks
  encode-undo word out out' h ok room =
      let n = none_of (undo_checks p mask word (length out)) done ok in
      let d = or-eq-false _ _ n.1.1.0 in
      let e = eqb-true (length mask) (byte_count p) (not-false _ d.0) in
      let l = eqb-true (length word) (byte_count p) (not-false _ d.1) in
      let g = n.1.1.1.0 in
      let x = undone_payload p mask word in
      let lx = length-undone p mask word in
      let layered : bad_layers p ≡ false = n.0 in
      let known : bad_kernels p ≡ false = n.1.0 in
      ap (λ (r : Verdict × List ℕ). frame_encode p mask (take (marked mask / 8) r.1) out') (undo-leaves p mask word out n)
      ∙ ap (λ x. frame_encode p mask x out') (take_at x (drop (marked mask / 8) out) (marked mask / 8) lx)
      ∙ encode-leaves p mask x out' (layered, (known, (ap not (eq-eqb (length mask) (byte_count p) e), (g, (ap not (eq-eqb (length x) (marked mask / 8) lx), (le-ltb (length out') (byte_count p) room, tt))))))
      ∙ ap (λ w. (done, w ++ drop (byte_count p) out')) (encoded-undone p layered mask e g word h l (frozen-none p layered mask e word n.1.1.1.1.1.0))

  -- A word of no payload is refused by condition 9, where the request passes the other checks.
  pub undo-refuses : (word out : List ℕ) → Bytes word → None (request_checks p mask (length word) (length out))
      → ((payload : List ℕ) → Bytes payload → length payload ≡ marked mask / 8 → encoded_frame p mask payload ≡ word → ⊥)
      → (frame_undo p mask word out).0 ≡ refused 9 (frozen_of p mask word)
  unfolding frame_undo request_checks undo_checks undone_payload
  undo-refuses word out h n none =
      let d = or-eq-false _ _ n.1.1.0 in
      let e = eqb-true (length mask) (byte_count p) (not-false _ d.0) in
      let l = eqb-true (length word) (byte_count p) (not-false _ d.1) in
      let g = n.1.1.1.0 in
      let x = undone_payload p mask word in
      let f : ltb (frozen_of p mask word) (symbol_count p) ≡ true = must (ltb (frozen_of p mask word) (symbol_count p)) (λ z.
      none x (λ i _. pack-lt (marked mask / 8) _ i) (length-undone p mask word) (encoded-undone p n.0 mask e g word h l (frozen-none p n.0 mask e word z))) in
      rw (n.0, n.1.0, n.1.1.0, g, n.1.1.1.1.0, f) refl
