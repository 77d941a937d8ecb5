-- The information mask for p bytes of payload marks 8p phases, so it takes p bytes. Assumes nothing.
use mathlib.Core.Path.{◌≡◌, refl, sym, ap, ◌∙◌}
use mathlib.Core.Bool.{Bool, true, false, not, false≢true}
use mathlib.Core.List.{List, [], ◌∷◌}
use Prim.Native.Nat.{ℕ, zero, suc, ◌*◌, ◌≤◌, ◌<◌}
use native.Mathlib.Numerals.{add-one}
use native.Mathlib.Omega.{arith}
use borrow.Author.Tests.{not-true, ltb-false}
use lib.Dec.{ltb}
use lib.ListN.{length, get_or, set, take, drop}
use lib.Seq.{take_at}
use Rattle.base.specs.Bit.{bit, tabulate, every}
use Rattle.base.proofs.Bool.{every-at, or-eq-false}
use Rattle.base.proofs.List.{length-tabulate, tabulate-at}
use Rattle.bits.specs.Packed.{pack}
use Rattle.payload.specs.Payload.{ones}
use Rattle.bits.proofs.Packed.{length-pack, unpack-pack}
use Rattle.answer.specs.Verdict.{done, is_accepted}
use Rattle.answer.proofs.Settle.{none_of}
use Rattle.answer.proofs.Written.{after_front}
use Rattle.mask.specs.Mask.{marked, bad_mask, payload_bytes}
use Rattle.mask.proofs.Mask.{whole-bytes, bytes-accepted}
use Rattle.order.specs.Order.{order, among, information_bits}
use Rattle.order.specs.Jobs.{information_checks, information_mask}
use Rattle.order.proofs.Order.{order-count, order-phase}
use Rattle.order.proofs.Marks.{marks, marks-next}
use Rattle.order.proofs.Accepted.{length-information}

-- No phase stands twice in the order.
new-test : every 256 (λ i. not (among (get_or order i 0) (take i order))) ≡ true
unfolding every among order
new-test = refl

-- One bit more is set.
ones-set : (l : List Bool) (i : ℕ) → i < length l → bit l i ≡ false → ones (set l i true) ≡ suc (ones l)
unfolding ones
ones-set [] i h e = absurd (omega arith)
ones-set (true ∷ l) zero h e = absurd (false≢true (sym e))
ones-set (false ∷ l) zero h e = refl
ones-set (true ∷ l) (suc i) h e = ap suc (ones-set l i (omega arith) e)
ones-set (false ∷ l) (suc i) h e = ones-set l i (omega arith) e

-- The first n phases of the order are n marked phases.
marks-count : (n : ℕ) → n ≤ 256 → ones (marks order n) ≡ n
unfolding ones among tabulate
marks-count zero l = refl
marks-count (suc n) l =
    let x : ℕ = get_or order n 0 in
    let free : bit (marks order n) x ≡ false =
    tabulate-at 256 (λ x. among x (take n order)) x false (order-phase n (omega arith))
    ∙ not-true _ (every-at 256 (λ i. not (among (get_or order i 0) (take i order))) new-test n (omega arith)) in
    ap ones (ap (marks order) (sym (add-one n)) ∙ sym (marks-next order n (omega (arith, order-count))))
    ∙ ones-set (marks order n) x (omega (arith, order-phase n (omega arith), length-tabulate 256 (λ x. among x (take n order)))) free
    ∙ ap suc (marks-count n (omega arith))

-- The mask for p bytes takes p bytes of payload.
pub information-bytes : (p : ℕ) → p ≤ 32 → payload_bytes 32 (pack 32 (information_bits p)) ≡ p
unfolding marked information_bits
information-bytes p l =
    let mask = pack 32 (information_bits p) in
    let e : marked mask ≡ 8 * p = ap ones (unpack-pack 32 (information_bits p) (length-information p)) ∙ marks-count (8 * p) (omega arith) in
    omega (arith, whole-bytes 32 mask (length-pack 32 (information_bits p)) (omega arith))

-- Where the job information mask is accepted for p bytes, what it leaves begins with a mask of 32 bytes that takes p bytes of
-- payload, and that no job refuses with a plan of two layers.
pub mask-takes : (p : ℕ) (out : List ℕ) → (information_mask p out).0 ≡ done
    → let mask = take 32 (information_mask p out).1 in (length mask ≡ 32) × (payload_bytes 32 mask ≡ p) × (bad_mask mask ≡ false)
unfolding information_mask information_checks
mask-takes p out ok =
    let new = pack 32 (information_bits p) in
    let n = none_of (information_checks p (length out)) done (ap is_accepted ok) in
    let h = or-eq-false (ltb p 1) (ltb 32 p) (search n) in
    let small : p ≤ 32 = ltb-false 32 p h.1 in
    let some : 1 ≤ p = ltb-false p 1 h.0 in
    let front : take 32 (information_mask p out).1 ≡ new =
    ap (take 32) (after_front _ out new 32 (length-pack 32 (information_bits p)) ok) ∙ take_at new (drop 32 out) 32 (length-pack 32 (information_bits p)) in
    let e = information-bytes p small in
    rw front (length-pack 32 (information_bits p), e, (bytes-accepted 32 new (omega arith)).1)
