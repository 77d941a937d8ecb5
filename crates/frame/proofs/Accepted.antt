-- What the acceptance of the checks yields, and what the jobs leave. Assumes nothing.
use mathlib.Core.Path.{◌≡◌, refl, sym, ap, ◌∙◌}
use mathlib.Core.Bool.{Bool, true, false}
use mathlib.Core.List.{List, [], ◌∷◌, ◌++◌}
use Prim.Native.Nat.{ℕ, ◌*◌, ◌/◌, ◌≤◌, ◌<◌}
use borrow.Author.Tests.{not-false, eqb-true, ltb-false, lt-ltb, le-ltb}
use lib.Dec.{ltb}
use lib.ListN.{length, drop}
use Rattle.base.proofs.Bool.{or-eq-false}
use Rattle.bits.specs.Packed.{unpack, pack}
use Rattle.payload.specs.Payload.{ones, gather, frozen_one}
use Rattle.bits.proofs.Packed.{length-pack}
use Rattle.answer.specs.Verdict.{Verdict, done, refused, is_accepted, Check, condition_at, settle, after}
use Rattle.answer.proofs.Settle.{None, none_of, settle-none, settle-append, settle-stopped, after-refused}
use Rattle.mask.specs.Mask.{marked, bad_mask, payload_bytes}
use Rattle.mask.proofs.Mask.{bytes-marked, bytes-eighth}
use Rattle.plan.specs.declared.Plan.{Plan}
use Rattle.plan.specs.Plan.{bad_layers, bad_kernels, symbol_count, byte_count}
use Rattle.frame_checks.specs.Checks.{encode_checks, request_checks}
use Rattle.frame.specs.Jobs.{encoded_frame, frame_encode, frame_symbols, frozen_of, undo_checks, undone_payload, frame_undo}

-- ---- frame encode

-- Inputs that pass all checks of frame encode.
pub record EncodeAccepted (p : Plan) (mask : List ℕ) (payload_length room : ℕ) : Type 0 where
  pub layered : bad_layers p ≡ false
  pub known : bad_kernels p ≡ false
  pub count : length mask ≡ byte_count p
  pub good : bad_mask mask ≡ false
  pub filled : ones (unpack mask) ≡ 8 * payload_length
  pub room-enough : byte_count p ≤ room

encode-passes : (p : Plan) (mask : List ℕ) (payload_length room : ℕ) → None (encode_checks p mask payload_length room) → EncodeAccepted p mask payload_length room
unfolding encode_checks
encode-passes p mask payload_length room n =
    let layered : bad_layers p ≡ false = n.0 in
    let known : bad_kernels p ≡ false = n.1.0 in
    let e = eqb-true (length mask) (byte_count p) (not-false _ n.1.1.0) in
    let g = n.1.1.1.0 in
    let s = eqb-true payload_length (marked mask / 8) (not-false _ n.1.1.1.1.0) in
    record {
      layered = layered;
      known = known;
      count = e;
      good = g;
      filled = sym (bytes-marked (byte_count p) mask e g) ∙ ap (λ k. 8 * k) (bytes-eighth (byte_count p) mask e g ∙ sym s);
      room-enough = ltb-false room (byte_count p) n.1.1.1.1.1.0;
    }

pub encode-accepted : (p : Plan) (mask : List ℕ) (payload_length room : ℕ) → is_accepted (settle (encode_checks p mask payload_length room) done) ≡ true
    → EncodeAccepted p mask payload_length room
encode-accepted p mask payload_length room ok = encode-passes p mask payload_length room (none_of (encode_checks p mask payload_length room) done ok)

-- An accepted job leaves the word and what lies past it.
pub encode-done : (p : Plan) (mask payload out last : List ℕ) → is_accepted (settle (encode_checks p mask (length payload) (length out)) done) ≡ true
    → last ≡ encoded_frame p mask payload ++ drop (byte_count p) out → frame_encode p mask payload out ≡ (done, last)
unfolding frame_encode encoded_frame
encode-done p mask payload out last ok l =
    let cs = encode_checks p mask (length payload) (length out) in
    let new = encoded_frame p mask payload in
    ap (λ (x : Verdict). (x, after x out new)) (settle-none cs done (none_of cs done ok))
    ∙ ap (λ (l : List ℕ). (done, l)) (ap (λ n. new ++ drop n out) (length-pack (byte_count p) _) ∙ sym l)

-- ---- frame undo

-- Inputs that pass the checks before the word's symbols are looked at.
pub record RequestAccepted (p : Plan) (mask : List ℕ) (word_length room : ℕ) : Type 0 where
  pub layered : bad_layers p ≡ false
  pub known : bad_kernels p ≡ false
  pub count : length mask ≡ byte_count p
  pub long : word_length ≡ byte_count p
  pub good : bad_mask mask ≡ false
  pub room-enough : payload_bytes (byte_count p) mask ≤ room

request-passes : (p : Plan) (mask : List ℕ) (word_length room : ℕ) → None (request_checks p mask word_length room) → RequestAccepted p mask word_length room
unfolding request_checks
request-passes p mask word_length room n =
    let h = or-eq-false _ _ n.1.1.0 in
    let e = eqb-true (length mask) (byte_count p) (not-false _ h.0) in
    let g = n.1.1.1.0 in
    record {
      layered = n.0;
      known = n.1.0;
      count = e;
      long = eqb-true word_length (byte_count p) (not-false _ h.1);
      good = g;
      room-enough = rw (bytes-eighth (byte_count p) mask e g) (ltb-false room (marked mask / 8) n.1.1.1.1.0);
    }

pub request-accepted : (p : Plan) (mask : List ℕ) (word_length room : ℕ) → is_accepted (settle (request_checks p mask word_length room) done) ≡ true
    → RequestAccepted p mask word_length room
request-accepted p mask word_length room ok = request-passes p mask word_length room (none_of (request_checks p mask word_length room) done ok)

module _ (p : Plan) (mask word out : List ℕ) where
  request : List Check
  request = request_checks p mask (length word) (length out)

  last-check : Check
  last-check = condition_at 9 (frozen_of p mask word) (ltb (frozen_of p mask word) (symbol_count p))

  -- A request that is refused leaves its buffer.
  pub undo-refused : (v : Verdict) → v ≡ settle (request_checks p mask (length word) (length out)) done → is_accepted v ≡ false
      → frame_undo p mask word out ≡ (v, out)
  unfolding frame_undo undo_checks request last-check
  undo-refused v e r =
      let all : settle (undo_checks p mask word (length out)) done ≡ v =
      settle-append request (last-check ∷ []) done ∙ settle-stopped request done (settle (last-check ∷ []) done) refl (ap is_accepted (sym e) ∙ r) ∙ sym e in
      ap (λ (x : Verdict). (x, after x out (undone_payload p mask word))) all ∙ ap (λ (l : List ℕ). (v, l)) (after-refused v out (undone_payload p mask word) r)

  module _ (ok : is_accepted (settle (request_checks p mask (length word) (length out)) done) ≡ true)
      (u : List Bool) (is-u : u ≡ frame_symbols p word) (phase : ℕ) (is-phase : phase ≡ frozen_one (unpack mask) u) where
    place_is : frozen_of p mask word ≡ phase
    unfolding frozen_of
    place_is = ap (frozen_one (unpack mask)) (sym is-u) ∙ sym is-phase

    verdict-is : (t : Bool) → ltb phase (symbol_count p) ≡ t
        → settle (undo_checks p mask word (length out)) done ≡ elim t [ true ↦ refused 9 phase | false ↦ done ]
    unfolding undo_checks request last-check
    verdict-is t e =
        settle-append request (last-check ∷ []) done
        ∙ settle-none request (settle (last-check ∷ []) done) (none_of request done ok)
        ∙ rw (place_is, e) refl

    -- A symbol 1 at an unmarked phase is refused, and the buffer left.
    pub undo-frozen : phase < symbol_count p → frame_undo p mask word out ≡ (refused 9 phase, out)
    unfolding frame_undo
    undo-frozen l = ap (λ (x : Verdict). (x, after x out (undone_payload p mask word))) (verdict-is true (lt-ltb phase (symbol_count p) l))

    -- Any other word leaves its payload and what lies past it.
    pub undo-done : symbol_count p ≤ phase → (last : List ℕ)
        → last ≡ pack (ones (unpack mask) / 8) (gather (unpack mask) u) ++ drop (ones (unpack mask) / 8) out → frame_undo p mask word out ≡ (done, last)
    unfolding frame_undo undone_payload marked
    undo-done l last e =
        ap (λ (x : Verdict). (x, after x out (undone_payload p mask word))) (verdict-is false (le-ltb phase (symbol_count p) l))
        ∙ ap (λ (l : List ℕ). (done, l))
        (ap (λ n. undone_payload p mask word ++ drop n out) (length-pack (ones (unpack mask) / 8) _)
        ∙ ap (λ v. pack (ones (unpack mask) / 8) (gather (unpack mask) v) ++ drop (ones (unpack mask) / 8) out) (sym is-u)
        ∙ sym e)
