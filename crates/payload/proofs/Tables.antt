-- The tables of four phases, and eight phases as two fours. Assumes nothing.
use mathlib.Core.Path.{◌≡◌, sym, ap, ap₂, ◌∙◌}
use mathlib.Core.Bool.{Bool}
use mathlib.Core.List.{List, [], ◌++◌}
use Prim.Native.Nat.{ℕ, ◌+◌, ◌*◌, ◌/◌, ◌%◌, ◌^◌, ◌≤◌, ◌<◌}
use native.Mathlib.Nat.{lt_of_lt_of_le}
use native.Mathlib.Omega.{arith}
use lib.ListN.{get_or}
use lib.Pow.{pow_mono, shl_exact}
use Rattle.base.specs.Bit.{tabulate}
use Rattle.base.proofs.List.{tabulate-at}
use Rattle.bits.specs.Packed.{bits, number}
use Rattle.payload.specs.Payload.{ones, gather}
use Rattle.payload.specs.Tables.{ones_table, gather_table}
use Rattle.bits.proofs.Packed.{length-bits, bits-mod, bits-split, number_lt, number_append}
use Rattle.payload.proofs.Payload.{ones-append, ones-le, length-gather, gather_append}

-- ---- the entries

-- No more phases are marked than there are.
pub marks-le : (n m : ℕ) → ones (bits n m) ≤ n
marks-le n m = omega (arith, ones-le (bits n m), length-bits n m)

-- How many of four phases are marked.
ones-at : (m : ℕ) → m < 16 → get_or ones_table m 0 ≡ ones (bits 4 m)
unfolding ones_table
ones-at m h = tabulate-at 16 (λ m. ones (bits 4 m)) m 0 h

-- They are no more than four.
pub ones-four : (m : ℕ) → m < 16 → get_or ones_table m 0 ≤ 4
ones-four m h = omega (arith, ones-at m h, marks-le 4 m)

-- An entry of a table with two indices.
entry : (f : ℕ → ℕ → ℕ) (m x : ℕ) → m < 16 → x < 16 → get_or (get_or (tabulate 16 (λ m. tabulate 16 (f m))) m []) x 0 ≡ f m x
entry f m x h g = ap (λ r. get_or r x 0) (tabulate-at 16 (λ m. tabulate 16 (f m)) m [] h) ∙ tabulate-at 16 (f m) x 0 g

-- The symbols at the marked ones of four phases.
gather-at : (m u : ℕ) → m < 16 → u < 16 → get_or (get_or gather_table m []) u 0 ≡ number (gather (bits 4 m) (bits 4 u))
unfolding gather_table
gather-at m u h g = entry (λ m u. number (gather (bits 4 m) (bits 4 u))) m u h g

-- ---- eight phases

-- The marked ones have as many bits as there are marks.
gather-lt : (n m : ℕ) (u : List Bool) → number (gather (bits n m) u) < 2 ^ ones (bits n m)
gather-lt n m u = rw length-gather at (number_lt (gather (bits n m) u))

-- They make a byte.
pub gather-byte-lt : (m : ℕ) (u : List Bool) → number (gather (bits 8 m) u) < 256
gather-byte-lt m u = lt_of_lt_of_le (gather-lt 8 m u) (pow_mono (marks-le 8 m))

-- The bits of a byte are those of its halves.
halves : (x : ℕ) → bits 8 x ≡ bits 4 (x / 16) ++ bits 4 (x % 16)
halves x = bits-split 4 4 x ∙ ap (λ l. bits 4 (x / 16) ++ l) (sym (bits-mod 4 x))

gather-halves : (m u : ℕ) → number (gather (bits 8 m) (bits 8 u))
    ≡ number (gather (bits 4 (m / 16)) (bits 4 (u / 16))) * 2 ^ ones (bits 4 (m % 16)) + number (gather (bits 4 (m % 16)) (bits 4 (u % 16)))
gather-halves m u =
    let a = bits 4 (m / 16) in
    let b = bits 4 (m % 16) in
    let x = bits 4 (u / 16) in
    let y = bits 4 (u % 16) in
    ap₂ (λ l t. number (gather l t)) (halves m) (halves u)
    ∙ ap number (gather_append a b x y (length-bits 4 (u / 16) ∙ sym (length-bits 4 (m / 16))))
    ∙ number_append (gather a x) (gather b y)
    ∙ ap (λ k. number (gather a x) * 2 ^ k + number (gather b y)) (length-gather b y)

-- By the tables, as the code looks them up.
module _ (m : ℕ) (h : m < 256) where
  pub marks-made : get_or ones_table (m / 16) 0 + get_or ones_table (m % 16) 0 ≡ ones (bits 8 m)
  marks-made =
      ap₂ ◌+◌ (ones-at (m / 16) (omega arith)) (ones-at (m % 16) (omega arith))
      ∙ sym (ap ones (halves m) ∙ ones-append (bits 4 (m / 16)) (bits 4 (m % 16)))

  pub gather-made : (u : ℕ) → u < 256
      → get_or (get_or gather_table (m / 16) []) (u / 16) 0 * 2 ^ get_or ones_table (m % 16) 0 % 256 + get_or (get_or gather_table (m % 16) []) (u % 16) 0
      ≡ number (gather (bits 8 m) (bits 8 u))
  gather-made u g =
      let a : ℕ = number (gather (bits 4 (m / 16)) (bits 4 (u / 16))) in
      let k = ones (bits 4 (m % 16)) in
      let la : a < 2 ^ 4 = lt_of_lt_of_le (gather-lt 4 (m / 16) (bits 4 (u / 16))) (pow_mono (marks-le 4 (m / 16))) in
      ap₂ (λ x y. x % 256 + y)
      (ap₂ (λ x n. x * 2 ^ n) (gather-at (m / 16) (u / 16) (omega arith) (omega arith)) (ones-at (m % 16) (omega arith)))
      (gather-at (m % 16) (u % 16) (omega arith) (omega arith))
      ∙ ap (λ x. x + number (gather (bits 4 (m % 16)) (bits 4 (u % 16))))
      (shl_exact {a = a} 4 k 8 la (omega (arith, marks-le 4 (m % 16))))
      ∙ sym (gather-halves m u)
