-- What the acceptance of the checks yields, and what frame follow and frame decode leave. Assumes nothing.
use mathlib.Core.Path.{◌≡◌, refl, sym, ap, ap₂, ◌∙◌, subst}
use mathlib.Core.Bool.{Bool, true, false}
use mathlib.Core.List.{List, ◌++◌}
use Prim.Native.Nat.{ℕ, ◌*◌, ◌/◌, ◌%◌, ◌≤◌, ◌<◌}
use native.Mathlib.Omega.{arith}
use borrow.Author.Tests.{not-false, eqb-true, ltb-false}
use lib.IntN.{ℤ}
use lib.ListN.{length, drop, take, replicate, get_or-replicate, get_or-append}
use lib.Seq.{length-take-le, get_or-take, take-append_seam}
use Rattle.base.specs.Bit.{bit}
use Rattle.base.proofs.Bool.{or-eq-false}
use Rattle.bits.specs.Packed.{bits, unpack, pack}
use Rattle.payload.specs.Payload.{ones, gather}
use Rattle.bits.proofs.Packed.{length-unpack, length-pack, unpack-pack, zero-at}
use Rattle.answer.specs.Verdict.{Verdict, done, is_accepted, settle, after}
use Rattle.answer.proofs.Settle.{None, none_of}
use Rattle.mask.specs.Mask.{marked, bad_mask, payload_bytes}
use Rattle.mask.proofs.Mask.{bytes-eighth}
use Rattle.polar.specs.Code.{channel, score}
use Rattle.polar.specs.Follow.{scores, penalties, choose}
use Rattle.polar.proofs.Follow.{length-scores, length-penalties, decode-only}
use Rattle.folds.specs.Range.{first_outside}
use Rattle.folds.proofs.Range.{outside-le}
use Rattle.plan.specs.declared.Plan.{Plan}
use Rattle.plan.specs.Plan.{bad_layers, bad_kernels, plan_code, symbol_count, byte_count}
use Rattle.plan.proofs.Layered.{plan-size, bytes_bits, bytes-rows, rows_few}
use Rattle.grid.specs.Grid.{rows_bits}
use Rattle.grid.proofs.Grid.{length-rows-bits, rows-bit-at, rows-bits-cong}
use Rattle.run.specs.Run.{symbol_by, SymbolsBy}
use Rattle.run.proofs.Symbols.{given-only}
use Rattle.frame_run.specs.Run.{row_count, Ready, FrameRun}
use Rattle.decode_checks.specs.Checks.{value_check, frame_follow_checks, frame_decode_checks}
use Rattle.decode.specs.Jobs.{frame_follow, decided, frame_decode}

-- Values that pass: none is outside.
inside-all : (n : ℕ) (values : List ℤ) → length values ≡ n → (value_check values).holds ≡ false → first_outside 127 values ≡ n
unfolding value_check
inside-all n values e h = omega (arith, ltb-false (first_outside 127 values) (length values) h, outside-le 127 values)

-- ---- rows of a plan with layers

module _ (p : Plan) (layered : bad_layers p ≡ false) where
  rows_whole : 16 * row_count p ≡ symbol_count p
  rows_whole = omega (arith, bytes_bits p layered, bytes-rows p layered)

  length_symbols : (rows : List ℕ) → length (rows_bits (row_count p) rows) ≡ symbol_count p
  length_symbols rows = length-rows-bits (row_count p) rows ∙ rows_whole

  -- Rows of zeros have no bit set.
  no_bits : (i : ℕ) → i < symbol_count p → bit (rows_bits (row_count p) (replicate 256 0)) i ≡ false
  no_bits i l =
      rows-bit-at (row_count p) (replicate 256 0) i (omega (arith, rows_whole))
      ∙ ap (λ x. bit (bits 16 x) (i % 16)) (get_or-replicate 256 (i / 16) 0 0 (omega (arith, rows_whole, rows_few p layered))) ∙ zero-at 16 (i % 16)

  module _ (r : ℕ) (er : r ≡ byte_count p) where
    half : r / 2 ≡ row_count p
    half = omega (arith, bytes-rows p layered)

    -- Rows that are made of bytes at the front of a buffer have their bits,
    pub rows-lent : (bytes made old : List ℕ) → length old ≡ 256 → length made ≡ length (take (r / 2) old)
        → rows_bits (length (take (r / 2) old)) made ≡ unpack bytes → rows_bits (row_count p) (made ++ drop (r / 2) old) ≡ unpack bytes
    rows-lent bytes made old lo lm em =
        let k : length (take (r / 2) old) ≡ row_count p = length-take-le (r / 2) old (omega (arith, half, rows_few p layered)) ∙ half in
        rows-bits-cong (row_count p) (made ++ drop (r / 2) old) made (λ q l. get_or-append made (drop (r / 2) old) 0 q (omega arith))
        ∙ ap (λ n. rows_bits n made) (sym k) ∙ em

    -- and the bytes that the front of rows is stored as have theirs.
    pub rows-stored : (rows old stored : List ℕ) → length rows ≡ 256
        → stored ≡ pack (2 * length (take (r / 2) rows)) (rows_bits (length (take (r / 2) rows)) (take (r / 2) rows)) ++ drop (2 * length (take (r / 2) rows)) old
        → unpack (take r stored) ≡ rows_bits (row_count p) rows
    rows-stored rows old stored lr es =
        let n : ℕ = row_count p in
        let k : length (take (r / 2) rows) ≡ n = length-take-le (r / 2) rows (omega (arith, half, rows_few p layered)) ∙ half in
        let whole : length (rows_bits n rows) ≡ 8 * r = length_symbols rows ∙ omega (arith, bytes_bits p layered) in
        let e : 2 * length (take (r / 2) rows) ≡ r = omega (arith, bytes-rows p layered) in
        let w : rows_bits (length (take (r / 2) rows)) (take (r / 2) rows) ≡ rows_bits n rows =
        ap (λ i. rows_bits i (take (r / 2) rows)) k ∙ rows-bits-cong n (take (r / 2) rows) rows (λ q l. get_or-take (r / 2) rows q 0 (omega (arith, half))) in
        let f : stored ≡ pack r (rows_bits n rows) ++ drop r old = es ∙ ap₂ (λ i v. pack i v ++ drop i old) e w in
        ap (λ s. unpack (take r s)) f ∙ ap unpack (ap (λ i. take i (pack r (rows_bits n rows) ++ drop r old)) (sym (length-pack r (rows_bits n rows))) ∙ take-append_seam (pack r (rows_bits n rows)) (drop r old)) ∙ unpack-pack r (rows_bits n rows) whole

-- ---- frame follow

-- Inputs that pass all checks of frame follow.
pub record FollowAccepted (p : Plan) (values : List ℤ) (symbol_bytes score_room penalty_room : ℕ) : Type 0 where
  pub ready : Ready p values score_room penalty_room
  pub long : symbol_bytes ≡ byte_count p

follow-passes : (p : Plan) (values : List ℤ) (symbol_bytes score_room penalty_room : ℕ) → None (frame_follow_checks p values symbol_bytes score_room penalty_room)
    → FollowAccepted p values symbol_bytes score_room penalty_room
unfolding frame_follow_checks
follow-passes p values symbol_bytes score_room penalty_room n =
    let layered : bad_layers p ≡ false = n.0 in
    let known : bad_kernels p ≡ false = n.1.0 in
    let h = or-eq-false _ _ n.1.1.0 in
    let e = eqb-true (length values) (symbol_count p) (not-false _ h.0) in
    let r = or-eq-false _ _ n.1.1.1.0 in
    record {
      ready = record {
        layered = layered;
        known = known;
        count = e;
        inside = inside-all (symbol_count p) values e n.1.1.1.1.0;
        score-room = ltb-false score_room (symbol_count p) r.0;
        penalty-room = ltb-false penalty_room (symbol_count p) r.1;
      };
      long = eqb-true symbol_bytes (byte_count p) (not-false _ h.1);
    }

module _ (p : Plan) (values : List ℤ) (symbols : List ℕ) (old_scores : List ℤ) (old_penalties : List ℕ) where
  module _ (ok : done ≡ settle (frame_follow_checks p values (length symbols) (length old_scores) (length old_penalties)) done) where
    pub follow-accepted : FollowAccepted p values (length symbols) (length old_scores) (length old_penalties)
    follow-accepted = follow-passes p values (length symbols) (length old_scores) (length old_penalties) (none_of (frame_follow_checks p values (length symbols) (length old_scores) (length old_penalties)) done (ap is_accepted (sym ok)))

    -- An accepted job leaves the scores and penalties of the given symbols, and what lies past them.
    pub follow-done : (given rows : List ℕ) (new_scores : List ℤ) (new_penalties : List ℕ) → rows_bits (row_count p) given ≡ unpack symbols
        → FrameRun p values (replicate 256 0) given rows new_scores old_scores new_penalties old_penalties → frame_follow p values symbols old_scores old_penalties ≡ (done, new_scores, new_penalties)
    unfolding frame_follow
    follow-done given rows new_scores new_penalties eg g =
        let C = plan_code p in
        let m = channel values in
        let u = unpack symbols in
        let n : ℕ = symbol_count p in
        let none = rows_bits (row_count p) (replicate 256 0) in
        let layered = follow-accepted.ready.layered in
        let lu : length u ≡ n = length-unpack symbols ∙ ap (λ n. 8 * n) follow-accepted.long ∙ bytes_bits p layered in
        let same : rows_bits (row_count p) rows ≡ u =
        given-only C m (bit none) (rows_bits (row_count p) rows) u n (length_symbols p layered rows) lu (no_bits p layered) (subst (λ w. SymbolsBy C m (bit none) (bit w) (rows_bits (row_count p) rows)) eg g.symbols-by) in
        ap (λ (x : Verdict). (x, after x old_scores (scores C m u), after x old_penalties (penalties C m u))) (sym ok)
        ∙ ap₂ (λ (x : List ℤ) (y : List ℕ). (done, x, y))
        (ap (λ n. scores C m u ++ drop n old_scores) (length-scores C m u ∙ lu) ∙ sym (g.scores-are ∙ ap (λ w. scores C m w ++ drop n old_scores) same))
        (ap (λ n. penalties C m u ++ drop n old_penalties) (length-penalties C m u ∙ lu) ∙ sym (g.penalties-are ∙ ap (λ w. penalties C m w ++ drop n old_penalties) same))

-- ---- frame decode

-- Inputs that pass all checks of frame decode.
pub record DecodeAccepted (p : Plan) (values : List ℤ) (mask : List ℕ) (score_room penalty_room payload_room : ℕ) : Type 0 where
  pub ready : Ready p values score_room penalty_room
  pub mask-count : length mask ≡ byte_count p
  pub good : bad_mask mask ≡ false
  pub payload-room : payload_bytes (byte_count p) mask ≤ payload_room

decode-passes : (p : Plan) (values : List ℤ) (mask : List ℕ) (score_room penalty_room payload_room : ℕ) → None (frame_decode_checks p values mask score_room penalty_room payload_room)
    → DecodeAccepted p values mask score_room penalty_room payload_room
unfolding frame_decode_checks
decode-passes p values mask score_room penalty_room payload_room n =
    let layered : bad_layers p ≡ false = n.0 in
    let known : bad_kernels p ≡ false = n.1.0 in
    let h = or-eq-false _ _ n.1.1.0 in
    let e = eqb-true (length values) (symbol_count p) (not-false _ h.0) in
    let l = eqb-true (length mask) (byte_count p) (not-false _ h.1) in
    let g = n.1.1.1.0 in
    let r = or-eq-false _ _ n.1.1.1.1.0 in
    let r' = or-eq-false _ _ r.0 in
    record {
      ready = record {
        layered = layered;
        known = known;
        count = e;
        inside = inside-all (symbol_count p) values e n.1.1.1.1.1.0;
        score-room = ltb-false score_room (symbol_count p) r'.0;
        penalty-room = ltb-false penalty_room (symbol_count p) r'.1;
      };
      mask-count = l;
      good = g;
      payload-room = rw (bytes-eighth (byte_count p) mask l g) (ltb-false payload_room (marked mask / 8) r.1);
    }

choose-is : (f : Bool) (s : ℤ) → symbol_by f false s ≡ choose f s
choose-is true s = refl
choose-is false s = refl

module _ (p : Plan) (values : List ℤ) (mask : List ℕ) (old_scores : List ℤ) (old_penalties payload : List ℕ) where
  module _ (ok : done ≡ settle (frame_decode_checks p values mask (length old_scores) (length old_penalties) (length payload)) done) where
    pub decode-accepted : DecodeAccepted p values mask (length old_scores) (length old_penalties) (length payload)
    decode-accepted = decode-passes p values mask (length old_scores) (length old_penalties) (length payload) (none_of (frame_decode_checks p values mask (length old_scores) (length old_penalties) (length payload)) done (ap is_accepted (sym ok)))

    -- Rows by free marks and no given symbols are the decoder's symbols.
    rows-decided : (free rows : List ℕ) (new_scores : List ℤ) (new_penalties : List ℕ) → rows_bits (row_count p) free ≡ unpack mask
        → FrameRun p values free (replicate 256 0) rows new_scores old_scores new_penalties old_penalties → rows_bits (row_count p) rows ≡ decided p values mask
    unfolding decided
    rows-decided free rows new_scores new_penalties ef g =
        let C = plan_code p in
        let m = channel values in
        let w = rows_bits (row_count p) rows in
        let layered = decode-accepted.ready.layered in
        let lw : length w ≡ C.size = length_symbols p layered rows ∙ sym (plan-size p) in
        decode-only C m (bit (unpack mask)) w lw (λ i l.
        g.symbols-by i (omega arith)
        ∙ ap₂ (λ f h. symbol_by f h (score C m (take i w))) (ap (λ w. bit w i) ef) (no_bits p layered i (omega (arith, plan-size p)))
        ∙ choose-is (bit (unpack mask) i) (score C m (take i w)))

    -- An accepted job leaves the scores and penalties of the decoder's symbols and its payload, and what lies past them.
    pub decode-done : (free rows : List ℕ) (new_scores : List ℤ) (new_penalties payload' : List ℕ) → rows_bits (row_count p) free ≡ unpack mask
        → FrameRun p values free (replicate 256 0) rows new_scores old_scores new_penalties old_penalties
        → payload' ≡ pack (ones (unpack mask) / 8) (gather (unpack mask) (rows_bits (row_count p) rows)) ++ drop (ones (unpack mask) / 8) payload
        → frame_decode p values mask old_scores old_penalties payload ≡ (done, new_scores, new_penalties, payload')
    unfolding frame_decode marked
    decode-done free rows new_scores new_penalties payload' ef g ep =
        let C = plan_code p in
        let m = channel values in
        let u = decided p values mask in
        let n : ℕ = symbol_count p in
        let same : rows_bits (row_count p) rows ≡ u = rows-decided free rows new_scores new_penalties ef g in
        let lu : length u ≡ n = ap length (sym same) ∙ length_symbols p decode-accepted.ready.layered rows in
        let k : ℕ = ones (unpack mask) / 8 in
        ap (λ (x : Verdict). (x, after x old_scores (scores C m u), after x old_penalties (penalties C m u), after x payload (pack k (gather (unpack mask) u)))) (sym ok)
        ∙ ap (λ (x : List ℤ). (done, x, penalties C m u ++ drop (length (penalties C m u)) old_penalties, pack k (gather (unpack mask) u) ++ drop (length (pack k (gather (unpack mask) u))) payload))
        (ap (λ n. scores C m u ++ drop n old_scores) (length-scores C m u ∙ lu) ∙ sym (g.scores-are ∙ ap (λ w. scores C m w ++ drop n old_scores) same))
        ∙ ap₂ (λ (x y : List ℕ). (done, new_scores, x, y))
        (ap (λ n. penalties C m u ++ drop n old_penalties) (length-penalties C m u ∙ lu) ∙ sym (g.penalties-are ∙ ap (λ w. penalties C m w ++ drop n old_penalties) same))
        (ap (λ n. pack k (gather (unpack mask) u) ++ drop n payload) (length-pack k _) ∙ sym (ep ∙ ap (λ w. pack k (gather (unpack mask) w) ++ drop k payload) same))
