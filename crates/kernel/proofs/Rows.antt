-- The sum of rows as a loop makes it, row after row. Assumes nothing.
use mathlib.Core.Path.{◌≡◌, sym, ap, ◌∙◌}
use mathlib.Core.Bool.{Bool, true, false, ◌&&◌}
use mathlib.Core.List.{List}
use Prim.Native.Nat.{ℕ, ◌+◌, ◌^◌, ◌<◌}
use native.Mathlib.Numerals.{add-one}
use lib.Bits.{bit_xor}
use lib.ListN.{get_or}
use Rattle.base.specs.Bit.{◌⊕◌, bit, parity, tabulate}
use Rattle.base.proofs.Bool.{⊕-false, parity-last}
use Rattle.base.proofs.List.{length-tabulate, tabulate-at, tabulate-cong, tabulate-bits}
use Rattle.bits.specs.Packed.{bits, number}
use Rattle.bits.proofs.Packed.{length-bits, xor-at, zero-at, number_lt, bits-number, number-bits-fit}
use Rattle.kernel.specs.Rows.{row_bit, chosen_bit, chosen_sum, row_sum}

-- c is the sum of the first n of the rows that f chooses.
abbrev pub Summed : List ℕ → (ℕ → Bool) → ℕ → ℕ → Type 0
Summed rows f c n = (j : ℕ) → bit (bits 16 c) j ≡ chosen_bit rows f n j

pub summed-none : (rows : List ℕ) (f : ℕ → Bool) → Summed rows f 0 0
unfolding parity
summed-none rows f j = zero-at 16 j

next : (rows : List ℕ) (f : ℕ → Bool) (n j : ℕ) (b : Bool) → f n ≡ b → chosen_bit rows f (n + 1) j ≡ chosen_bit rows f n j ⊕ (b && row_bit rows n j)
next rows f n j b e =
    ap (λ m. chosen_bit rows f m j) (add-one n) ∙ parity-last n _ ∙ ap (λ b. chosen_bit rows f n j ⊕ (b && row_bit rows n j)) e

-- A chosen row is added,
pub summed-row : (rows : List ℕ) (f : ℕ → Bool) (c d n : ℕ) → f n ≡ true → d ≡ bit_xor c (get_or rows n 0) → Summed rows f c n → Summed rows f d (n + 1)
summed-row rows f c d n e x h j =
    ap (λ c. bit (bits 16 c) j) x ∙ xor-at 16 c (get_or rows n 0) j ∙ ap (λ b. b ⊕ row_bit rows n j) (h j) ∙ sym (next rows f n j true e)

-- and another is not.
pub summed-skip : (rows : List ℕ) (f : ℕ → Bool) (c d n : ℕ) → f n ≡ false → d ≡ c → Summed rows f c n → Summed rows f d (n + 1)
summed-skip rows f c d n e x h j =
    ap (λ c. bit (bits 16 c) j) x ∙ h j ∙ sym (next rows f n j false e ∙ ⊕-false (chosen_bit rows f n j))

pub summed-all : (rows : List ℕ) (f : ℕ → Bool) (c n : ℕ) → n ≡ 16 → c < 2 ^ 16 → Summed rows f c n → c ≡ chosen_sum rows f
unfolding chosen_sum
summed-all rows f c n e l h =
    sym (number-bits-fit 16 c l)
    ∙ ap number
    (sym (tabulate-bits (bits 16 c)) ∙ ap (λ m. tabulate m (bit (bits 16 c))) (length-bits 16 c)
    ∙ tabulate-cong 16 (λ j _. h j ∙ ap (λ m. chosen_bit rows f m j) e))

-- The bits of the sum.
pub chosen-sum-at : (rows : List ℕ) (f : ℕ → Bool) (j : ℕ) → j < 16 → bit (bits 16 (chosen_sum rows f)) j ≡ chosen_bit rows f 16 j
unfolding chosen_sum
chosen-sum-at rows f j l =
    let t = tabulate 16 (chosen_bit rows f 16) in
    ap (λ n. bit (bits n (number t)) j) (sym (length-tabulate 16 (chosen_bit rows f 16)))
    ∙ ap (λ u. bit u j) (bits-number t) ∙ tabulate-at 16 (chosen_bit rows f 16) j false l

pub chosen-sum-lt : (rows : List ℕ) (f : ℕ → Bool) → chosen_sum rows f < 2 ^ 16
unfolding chosen_sum
chosen-sum-lt rows f = rw (length-tabulate 16 (chosen_bit rows f 16)) at (number_lt (tabulate 16 (chosen_bit rows f 16)))

-- The same of the rows that the bits of x choose.
pub row-sum-at : (rows : List ℕ) (x j : ℕ) → j < 16 → bit (bits 16 (row_sum rows x)) j ≡ chosen_bit rows (bit (bits 16 x)) 16 j
row-sum-at rows x = chosen-sum-at rows (bit (bits 16 x))

pub row-sum-lt : (rows : List ℕ) (x : ℕ) → row_sum rows x < 2 ^ 16
row-sum-lt rows x = chosen-sum-lt rows (bit (bits 16 x))
