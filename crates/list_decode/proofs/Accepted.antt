-- What the acceptance of the checks yields, and what list decoding leaves. Assumes nothing.
use mathlib.Core.Path.{◌≡◌, refl, sym, ap, ap₂, ◌∙◌, subst}
use mathlib.Core.Bool.{Bool, true, false, false≢true, not, ◌||◌}
use mathlib.Core.List.{List, [], ◌∷◌, ◌++◌, append-nil}
use Prim.Native.Nat.{ℕ, ◌-◌, ◌*◌, ◌/◌, ◌≤◌, ◌<◌}
use native.Mathlib.Decide.{dec_lt}
use native.Mathlib.Omega.{arith}
use borrow.Author.Tests.{not-false, eqb-true, ltb-false}
use lib.Dec.{eqb, ltb}
use lib.IntN.{ℤ}
use lib.ListN.{length, get_or, drop, replicate, length-replicate}
use lib.Seq.{drop-drop}
use Rattle.base.specs.Bit.{bit}
use Rattle.base.proofs.Bool.{or-eq-false}
use Rattle.bits.specs.Packed.{unpack}
use Rattle.bits.proofs.Packed.{length-pack}
use Rattle.answer.specs.Verdict.{Verdict, done, penalty, is_accepted, Check, settle, after}
use Rattle.answer.proofs.Settle.{None, none_of, settle-none, settle-stopped, after-refused}
use Rattle.mask.specs.Mask.{marked, payload_bytes}
use Rattle.mask.proofs.Mask.{bytes-eighth, bytes-marked}
use Rattle.polar.specs.Code.{channel}
use Rattle.list.specs.Best.{IsBestAt, BestFirst, begins, empty}
use Rattle.list.proofs.Paths.{paths-long}
use Rattle.list.proofs.Best.{best-first, best-only, best-cong}
use Rattle.folds.specs.Range.{first_outside}
use Rattle.folds.proofs.Range.{outside-le}
use Rattle.plan.specs.declared.Plan.{Plan}
use Rattle.plan.specs.Plan.{bad_kernels}
use Rattle.plan.proofs.Layered.{kernels-known}
use Rattle.grid.specs.Grid.{rows_bits}
use Rattle.plan.specs.Pairs.{frame_code}
use Rattle.path.specs.Path.{HasSymbols, path_at}
use Rattle.path.specs.declared.Path.{Path}
use Rattle.decode_checks.specs.Checks.{value_check}
use Rattle.list_checks.specs.Checks.{list_decode_checks}
use Rattle.list_run.specs.Run.{frame_paths, ListRun}
use Rattle.agreeing.specs.Agreeing.{payload_of, agrees_at}
use Rattle.list_decode.specs.Exact.{BestAgreeing}
use Rattle.list_decode.specs.Jobs.{final_paths, final_penalty, agreeing_paths, verdict_of, first_payload, list_decode}
use Rattle.list_decode.proofs.Two.{inner, outer, two-least, two-paths}
use Rattle.agreeing.specs.Found.{symbols_at, record_agrees, record_penalty, BestRecord, HandedOut}

-- Values that pass: none is outside.
inside-all : (values : List ℤ) → length values ≡ 256 → (value_check values).holds ≡ false → first_outside 127 values ≡ 256
unfolding value_check
inside-all values e h = omega (arith, ltb-false (first_outside 127 values) (length values) h, outside-le 127 values)

-- Inputs that pass all checks of list decoding.
pub record ListAccepted (p : Plan) (L : ℕ) (values : List ℤ) (mask : List ℕ) (scratch_room payload_room : ℕ) : Type 0 where
  pub two : p.layers ≡ 2
  pub inner-known : inner p < 3
  pub outer-known : outer p < 3
  pub some-paths : 1 ≤ L
  pub few-paths : L ≤ 8
  pub count : length values ≡ 256
  pub inside : first_outside 127 values ≡ 256
  pub mask-count : length mask ≡ 32
  pub bytes-are : 8 * payload_bytes 32 mask ≡ marked mask
  pub enough : 3 ≤ payload_bytes 32 mask
  pub payload-room : payload_bytes 32 mask ≤ payload_room
  pub scratch-room : 8192 ≤ scratch_room

pub list-passes : (p : Plan) (L : ℕ) (values : List ℤ) (mask : List ℕ) (scratch_room payload_room : ℕ) → None (list_decode_checks p L values mask scratch_room payload_room)
    → ListAccepted p L values mask scratch_room payload_room
unfolding list_decode_checks marked
list-passes p L values mask scratch_room payload_room n =
    let layered : not (eqb p.layers 2) ≡ false = n.0 in
    let known : bad_kernels p ≡ false = n.1.0 in
    let size : (ltb L 1 || ltb 8 L) ≡ false = n.1.1.0 in
    let few : ltb (marked mask) 24 ≡ false = n.1.1.1.1.1.0 in
    let room : (ltb payload_room (marked mask / 8) || ltb scratch_room 8192) ≡ false = n.1.1.1.1.1.1.0 in
    let t = eqb-true p.layers 2 (not-false _ layered) in
    let s = or-eq-false (ltb L 1) (ltb 8 L) size in
    let h = or-eq-false _ _ n.1.1.1.0 in
    let e = eqb-true (length values) 256 (not-false _ h.0) in
    let l = eqb-true (length mask) 32 (not-false _ h.1) in
    let g = n.1.1.1.1.0 in
    let k : 8 * payload_bytes 32 mask ≡ marked mask = bytes-marked 32 mask l g in
    let r = or-eq-false (ltb payload_room (marked mask / 8)) (ltb scratch_room 8192) room in
    record {
      two = t;
      inner-known = kernels-known p known 0 (omega (arith, t));
      outer-known = kernels-known p known 1 (omega (arith, t));
      some-paths = ltb-false L 1 s.0;
      few-paths = ltb-false 8 L s.1;
      count = e;
      inside = inside-all values e n.1.1.1.1.1.1.1.0;
      mask-count = l;
      bytes-are = k;
      enough = omega (arith, ltb-false (marked mask) 24 few);
      payload-room = rw (bytes-eighth 32 mask l g) (ltb-false payload_room (marked mask / 8) r.0);
      scratch-room = ltb-false scratch_room 8192 r.1;
    }

-- A record of a path of 256 symbols has them all.
whole : (p : List Bool) (path : Path) → length p ≡ 256 → HasSymbols p path → unpack path.symbols ≡ p
whole p path e h =
    let z : 256 - length p ≡ 0 = omega arith in
    h ∙ ap (λ k. p ++ replicate k false) z ∙ append-nil p

module _ (p : Plan) (L : ℕ) (values : List ℤ) (mask old_scratch old_payload : List ℕ) where
  abbrev checks : List Check
  checks = list_decode_checks p L values mask (length old_scratch) (length old_payload)

  abbrev finals : List (List Bool)
  finals = final_paths p L values mask

  abbrev total : List Bool → ℕ
  total = final_penalty p values

  abbrev agreeing : List (List Bool)
  agreeing = agreeing_paths p L values mask

  -- What the job promises of a verdict and of what the buffers hold then.
  abbrev Decoded : Verdict → List ℕ → List ℕ → Type 0
  Decoded v scratch payload = list_decode p L values mask old_scratch old_payload ≡ (v, scratch, payload)

  -- A job that is refused by a check leaves its buffers.
  pub list-refused : (v : Verdict) → v ≡ settle checks done → is_accepted v ≡ false → Decoded v old_scratch old_payload
  unfolding list_decode
  list-refused v e r =
      let zeros : List ℕ = replicate 8192 0 in
      let new = first_payload mask agreeing in
      ap (λ (x : Verdict). (x, after (settle checks done) old_scratch zeros, after x old_payload new)) (settle-stopped checks done (verdict_of total agreeing) refl (ap is_accepted (sym e) ∙ r))
      ∙ ap (λ (x : Verdict). (x, after x old_scratch zeros, after x old_payload new)) (sym e)
      ∙ ap₂ (λ (x y : List ℕ). (v, x, y)) (after-refused v old_scratch zeros r) (after-refused v old_payload new r)

  module _ (ok : is_accepted (settle checks done) ≡ true) where
    pub list-accepted : ListAccepted p L values mask (length old_scratch) (length old_payload)
    list-accepted = list-passes p L values mask (length old_scratch) (length old_payload) (none_of checks done ok)

    -- An accepted job answers the verdict of the agreeing paths and leaves zeros in scratch.
    pub answered : (us : List (List Bool)) → agreeing ≡ us → list_decode p L values mask old_scratch old_payload
        ≡ (verdict_of total us, replicate 8192 0 ++ drop 8192 old_scratch, after (verdict_of total us) old_payload (first_payload mask us))
    unfolding list_decode
    answered us e =
        let v = verdict_of total agreeing in
        let zeros : List ℕ = replicate 8192 0 in
        let new = first_payload mask agreeing in
        let n = none_of checks done ok in
        ap (λ (x : Verdict). (x, after (settle checks done) old_scratch zeros, after x old_payload new)) (settle-none checks v n)
        ∙ ap (λ (x : Verdict). (v, after x old_scratch zeros, after v old_payload new)) (settle-none checks done n)
        ∙ ap (λ k. (v, zeros ++ drop k old_scratch, after v old_payload new)) (length-replicate {A = ℕ} 8192 0)
        ∙ ap (λ (l : List (List Bool)). (verdict_of total l, replicate 8192 0 ++ drop 8192 old_scratch, after (verdict_of total l) old_payload (first_payload mask l))) e

    module _ (marks : List ℕ) (n r : ℕ) (ran : List ℕ) (em : rows_bits 16 marks ≡ unpack mask) (run : ListRun (inner p) (outer p) L values marks n ran) (best : BestRecord mask ran n n r) where
      two : p.layers ≡ 2
      two = list-accepted.two

      same-paths : frame_paths (inner p) (outer p) L values marks 256 ≡ finals
      same-paths = two-paths p two L values mask marks em

      final-count : length finals ≡ n
      final-count = ap (λ (l : List (List Bool)). length l) (sym same-paths) ∙ run.count-is

      symbols-are : (i : ℕ) → i < n → symbols_at ran i ≡ get_or finals i []
      symbols-are i l =
          let li : i < length (frame_paths (inner p) (outer p) L values marks 256) = omega (arith, run.count-is) in
          whole _ (path_at i ran) (paths-long (frame_code (inner p) (outer p)) (channel values) (bit (rows_bits 16 marks)) L 256 i li) (run.listed i li)
          ∙ ap (λ (l : List (List Bool)). get_or l i []) same-paths

      penalty-is : (i : ℕ) → i < n → (path_at i ran).penalty ≡ total (get_or finals i [])
      penalty-is i l = run.paid i (omega (arith, run.count-is)) ∙ sym (two-least p two values _) ∙ ap (λ (l : List (List Bool)). total (get_or l i [])) same-paths

      -- The record that was found is that of the first of the agreeing paths;
      first_found : r < n → (rest : List (List Bool)) × (agreeing ≡ get_or finals r [] ∷ rest)
      first_found l = go (best-first (agrees_at mask) total [] finals)
        where
          found : BestAgreeing p L values mask r
          found =
              subst (λ k. IsBestAt (λ j. agrees_at mask (get_or finals j [])) (λ j. total (get_or finals j [])) k r) (sym final-count)
              (best-cong (record_agrees mask ran) (λ j. agrees_at mask (get_or finals j [])) (record_penalty ran) (λ j. total (get_or finals j [])) n r (λ j k. ap (agrees_at mask) (symbols-are j k)) penalty-is (best.found l))

          go : BestFirst (agrees_at mask) total [] finals → (rest : List (List Bool)) × (agreeing ≡ get_or finals r [] ∷ rest)
          go (empty e h) = absurd (false≢true (sym (h r found.inside) ∙ found.passes))
          go (begins i rest b e) = (rest, e ∙ ap (λ k. get_or finals k [] ∷ rest) (best-only _ _ _ i r b found))

      -- where none was found, there are none.
      none_found : n ≤ r → agreeing ≡ []
      none_found l = go (best-first (agrees_at mask) total [] finals)
        where
          go : BestFirst (agrees_at mask) total [] finals → agreeing ≡ []
          go (empty e h) = e
          go (begins i rest b e) =
              let k : i < n = omega (arith, b.inside, final-count) in
              absurd (false≢true (sym (best.none l i k) ∙ ap (agrees_at mask) (symbols-are i k) ∙ b.passes))

      -- An accepted job hands out the path that was found, or 13, and clears the scratch.
      pub list_done : (v : Verdict) (scratch' payload' : List ℕ) → drop 4096 ran ≡ drop 4096 old_scratch
          → HandedOut mask ran r n old_payload v payload' → scratch' ≡ replicate 8192 0 ++ drop 8192 ran → Decoded v scratch' payload'
      list_done v scratch' payload' rest h e = go (dec_lt r n)
        where
          cleared : replicate 8192 0 ++ drop 8192 old_scratch ≡ scratch'
          cleared =
              ap (λ (l : List ℕ). replicate 8192 0 ++ l) (sym (drop-drop 4096 4096 old_scratch) ∙ ap (drop 4096) (sym rest) ∙ drop-drop 4096 4096 ran) ∙ sym e

          go : Dec (r < n) → Decoded v scratch' payload'
          go (yes l) =
              let new = payload_of mask (get_or finals r []) in
              let o = h.some l in
              answered _ (first_found l).1
              ∙ ap₂ (λ (x : Verdict) (y : List ℕ). (x, y, new ++ drop (length new) old_payload)) (ap penalty (sym (penalty-is r l)) ∙ sym o.0) cleared
              ∙ ap (λ (y : List ℕ). (v, scratch', y)) (ap (λ k. new ++ drop k old_payload) (length-pack _ _) ∙ ap (λ w. payload_of mask w ++ drop (marked mask / 8) old_payload) (sym (symbols-are r l)) ∙ sym o.1)
          go (no k) =
              let q : n ≤ r = omega (arith, k) in
              let o = h.no q in
              answered [] (none_found q)
              ∙ ap₂ (λ (x : Verdict) (y : List ℕ). (x, y, old_payload)) (sym o.0) cleared
              ∙ ap (λ (y : List ℕ). (v, scratch', y)) (sym o.1)
