-- Rows of symbols, sixteen at a time. Assumes nothing.
use mathlib.Core.Path.{◌≡◌, refl, sym, ap, ap₂, ◌∙◌}
use mathlib.Core.List.{List, ◌++◌, append_assoc, append-nil}
use Prim.Native.Nat.{ℕ, zero, suc, ◌+◌, ◌*◌, ◌/◌, ◌%◌, ◌≤◌, ◌<◌}
use native.Mathlib.Nat.{add-zero}
use native.Mathlib.Omega.{arith}
use lib.ListN.{length, get_or}
use lib.Seq.{paste}
use Rattle.base.specs.Bit.{bit}
use Rattle.bits.specs.Packed.{bits}
use Rattle.pair_run.specs.Run.{front}
use Rattle.pair_run.proofs.Prefixes.{front_at}
use Rattle.layer_turns.proofs.Pasted.{paste-before, paste-within}

-- Only the first rows matter.
pub front-cong : (n : ℕ) (a b : List ℕ) → ((i : ℕ) → i < n → get_or a i 0 ≡ get_or b i 0) → front n a ≡ front n b
unfolding front
front-cong zero a b h = refl
front-cong (suc n) a b h = ap₂ (λ u y. u ++ bits 16 y) (front-cong n a b (λ i l. h i (omega arith))) (h n (omega arith))

-- Rows and further ones, which another list has.
pub front-more : (n k : ℕ) (rows more : List ℕ) → ((i : ℕ) → i < k → get_or rows (n + i) 0 ≡ get_or more i 0) → front (n + k) rows ≡ front n rows ++ front k more
unfolding front
front-more n zero rows more h = ap (λ z. front z rows) (add-zero n) ∙ sym (append-nil (front n rows))
front-more n (suc k) rows more h =
    ap (λ z. front z rows) (let e : n + suc k ≡ suc (n + k) = omega arith in e)
    ∙ ap₂ (λ u y. u ++ bits 16 y) (front-more n k rows more (λ i l. h i (omega arith))) (h k (omega arith))
    ∙ append_assoc (front n rows) (front k more) (bits 16 (get_or more k 0))

-- Sixteen rows stored after the first n.
pub front-pasted : (n : ℕ) (rows found : List ℕ) → n + 16 ≤ length rows → length found ≡ 16 → front (n + 16) (paste rows n found 16) ≡ front n rows ++ front 16 found
front-pasted n rows found l e =
    front-more n 16 (paste rows n found 16) found (λ i li. paste-within rows found n 16 0 (omega arith) (omega arith) i li)
    ∙ ap (λ u. u ++ front 16 found) (front-cong n (paste rows n found 16) rows (λ i li. paste-before rows found n 16 0 (omega arith) (omega arith) i li))

-- Rows 16r to 16r + 15 taken out.
pub front-taken : (rows found : List ℕ) (r : ℕ) → r < 16 → ((i : ℕ) → i < 16 → get_or found i 0 ≡ get_or rows (16 * r + i) 0)
    → (i : ℕ) → i < 256 → bit (front 16 found) i ≡ bit (front 256 rows) (r * 256 + i)
front-taken rows found r lr h i l =
    let q : ℕ = i / 16 in
    let s : ℕ = i % 16 in
    let e : i ≡ 16 * q + s = omega arith in
    let f : r * 256 + i ≡ 16 * (16 * r + q) + s = omega arith in
    ap (bit (front 16 found)) e ∙ front_at 16 found q s (omega arith) (omega arith)
    ∙ ap (λ x. bit (bits 16 x) s) (h q (omega arith))
    ∙ sym (ap (bit (front 256 rows)) f ∙ front_at 256 rows (16 * r + q) s (omega arith) (omega arith))
