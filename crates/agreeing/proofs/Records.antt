-- The payload that a record's bytes begin with, and the best record of one more. Assumes nothing.
use mathlib.Core.Path.{◌≡◌, refl, sym, ap, ◌∙◌}
use mathlib.Core.Bool.{Bool, true, false, false≢true, ◌||◌}
use mathlib.Core.List.{List, ◌++◌}
use Prim.Native.Nat.{ℕ, ◌+◌, ◌*◌, ◌/◌, ◌≤◌, ◌<◌}
use native.Mathlib.Decide.{dec_lt}
use native.Mathlib.Omega.{arith}
use borrow.Author.Tests.{eq-eqb, ne_eqb, ltb-true, ltb-false}
use lib.Dec.{ltb}
use lib.ListN.{length, take, drop}
use lib.Seq.{take_at}
use Rattle.std.specs.Prelude.{Option, None, Some}
use Rattle.bits.specs.Packed.{unpack}
use Rattle.bits.proofs.Packed.{length-pack}
use Rattle.payload.specs.Payload.{gather}
use Rattle.mask.specs.Mask.{marked}
use Rattle.list.proofs.Best.{best-stays, best-new}
use Rattle.agreeing.specs.Agreeing.{payload_of}
use Rattle.agreeing.specs.Found.{record_agrees, record_penalty, is_lower, BestRecord, Lower, BestFound}

-- A payload that was written to the front of 32 bytes is what their first bytes are,
pub front : (mask : List ℕ) (u : List Bool) (old new : List ℕ) (bytes : ℕ) → 8 * bytes ≡ marked mask → new ≡ payload_of mask u ++ drop (marked mask / 8) old
    → take bytes new ≡ payload_of mask u
front mask u old new bytes e f =
    let k : marked mask / 8 ≡ bytes = omega arith in
    ap (take bytes) f ∙ take_at (payload_of mask u) (drop (marked mask / 8) old) bytes (length-pack (marked mask / 8) (gather (unpack mask) u) ∙ k)

-- and there are so many of them.
pub front-count : (mask : List ℕ) (u : List Bool) (old new : List ℕ) (bytes : ℕ) → 8 * bytes ≡ marked mask → new ≡ payload_of mask u ++ drop (marked mask / 8) old
    → length (take bytes new) ≡ bytes
front-count mask u old new bytes e f =
    let k : marked mask / 8 ≡ bytes = omega arith in
    ap length (front mask u old new bytes e f) ∙ length-pack (marked mask / 8) (gather (unpack mask) u) ∙ k

module _ (scratch : List ℕ) (n r i : ℕ) where
  -- Any penalty is lower where there is no best record yet,
  pub lower-none : r ≡ n → is_lower scratch n r i ≡ true
  lower-none e = ap (λ (b : Bool). b || ltb (record_penalty scratch i) (record_penalty scratch r)) (eq-eqb r n e)

  -- and where there is one, that below its own.
  pub lower-some : (r ≡ n → ⊥) → is_lower scratch n r i ≡ ltb (record_penalty scratch i) (record_penalty scratch r)
  lower-some e = ap (λ (b : Bool). b || ltb (record_penalty scratch i) (record_penalty scratch r)) (ne_eqb r n e)

module _ (mask scratch : List ℕ) (n i r : ℕ) (h : BestRecord mask scratch n i r) where
  -- Whether record i is lower, where there is a best one before it.
  below-best : r < n → is_lower scratch n r i ≡ ltb (record_penalty scratch i) (record_penalty scratch r)
  below-best l = lower-some scratch n r i (λ q. omega (arith, q, l))

  -- One record more is passed over where its penalty is not lower,
  pub not_lower : is_lower scratch n r i ≡ false → BestRecord mask scratch n (i + 1) r
  not_lower e =
      record {
        within = h.within;
        found = λ l. best-stays (record_agrees mask scratch) (record_penalty scratch) i r (h.found l) (λ _. ltb-false (record_penalty scratch i) (record_penalty scratch r) (sym (below-best l) ∙ e));
        none = λ q. absurd (false≢true (sym e ∙ lower-none scratch n r i (omega (arith, q, h.within))));
      }

  -- or its checksum does not agree;
  pub not-agreeing : record_agrees mask scratch i ≡ false → BestRecord mask scratch n (i + 1) r
  not-agreeing e =
      record {
        within = h.within;
        found = λ l. best-stays (record_agrees mask scratch) (record_penalty scratch) i r (h.found l) (λ t. absurd (false≢true (sym e ∙ t)));
        none = λ q j l. at q j l (dec_lt j i);
      }
    where
      at : n ≤ r → (j : ℕ) → j < i + 1 → Dec (j < i) → record_agrees mask scratch j ≡ false
      at q j l (yes k) = h.none q j k
      at q j l (no k) = let m : j ≡ i = omega (arith, k) in ap (record_agrees mask scratch) m ∙ e

  -- else it is the best.
  pub lower-agreeing : i < n → is_lower scratch n r i ≡ true → record_agrees mask scratch i ≡ true → BestRecord mask scratch n (i + 1) i
  lower-agreeing li e a =
      record {
        within = omega (arith, li);
        found = λ _. best-new (record_agrees mask scratch) (record_penalty scratch) i a (below (dec_lt r n));
        none = λ q. absurd (omega (arith, q, li));
      }
    where
      below : Dec (r < n) → (j : ℕ) → j < i → record_agrees mask scratch j ≡ true → record_penalty scratch i < record_penalty scratch j
      below (yes k) j l t = omega (arith, ltb-true (record_penalty scratch i) (record_penalty scratch r) (sym (below-best k) ∙ e), (h.found k).least j l t)
      below (no k) j l t = absurd (false≢true (sym (h.none (omega (arith, k)) j l) ∙ t))

-- ---- the best so far, if there is one
module _ (mask scratch : List ℕ) (n i : ℕ) where
  -- One record more is passed over where its penalty is not lower,
  pub found_stays : (best : Option ℕ) → BestFound mask scratch n i best → Lower scratch i best false → BestFound mask scratch n (i + 1) best
  found_stays None h e = absurd (false≢true e)
  found_stays (Some r) h e = (h.0, not_lower mask scratch n i r h.1 (lower-some scratch n r i (λ q. omega (arith, q, h.0)) ∙ sym e))

  -- or its checksum does not agree;
  pub found_passes : (best : Option ℕ) → BestFound mask scratch n i best → record_agrees mask scratch i ≡ false → BestFound mask scratch n (i + 1) best
  found_passes None h e = not-agreeing mask scratch n i n h e
  found_passes (Some r) h e = (h.0, not-agreeing mask scratch n i r h.1 e)

  -- else it is the best.
  pub found_new : (best : Option ℕ) → BestFound mask scratch n i best → i < n → Lower scratch i best true → record_agrees mask scratch i ≡ true
      → BestFound mask scratch n (i + 1) (Some i)
  found_new None h l e a = (l, lower-agreeing mask scratch n i n h l (lower-none scratch n n i refl) a)
  found_new (Some r) h l e a = (l, lower-agreeing mask scratch n i r h.1 l (lower-some scratch n r i (λ q. omega (arith, q, h.0)) ∙ sym e) a)
