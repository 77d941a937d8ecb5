-- The constant tables hold the kernels' rows and those of their inverses, each by one computed test over the whole table. Assumes nothing.
use mathlib.Core.Path.{◌≡◌, refl, sym, ap, ◌∙◌}
use mathlib.Core.Bool.{Bool, true, false, ◌&&◌}
use mathlib.Core.List.{List, []}
use Prim.Native.Nat.{ℕ, ◌<◌}
use lib.ListN.{length, get_or}
use Rattle.base.specs.Bit.{bit, parity, tabulate, every, same}
use Rattle.base.proofs.Bool.{parity-cong, every-at, same_table, same-table}
use Rattle.base.proofs.List.{length-tabulate, tabulate-at, tabulate-cong, tabulate-bits, same-eq}
use Rattle.bits.specs.Packed.{bits, number}
use Rattle.bits.proofs.Packed.{length-bits}
use Rattle.polar.specs.Kernel.{arikan, product}
use Rattle.polar.specs.Relation.{sum_of, symbols, unit, row}
use Rattle.polar.proofs.Undo.{length-symbols-in}
use Rattle.polar.proofs.Matrix.{inverse-undoes}
use Rattle.polar.proofs.Relation.{names, uses, word-symbols, word_rows, symbols-product}
use Rattle.kernel.specs.Kernels.{F, relations, word_bit, kernel_code, word_symbols}
use Rattle.kernel.specs.Rows.{row_bit, chosen_sum, row_sum, table, inverse_table}
use Rattle.kernel.specs.Jobs.{encoded_word, undone_symbols}
use Rattle.kernel.proofs.Solved.{F-inverse, solved, solution, invertible}

-- ---- the kernels' rows

-- The v of row s: the row times F. F is its own inverse, so the row is vF.
unfoldable row_v : List ℕ → ℕ → List Bool
row_v rows s = tabulate 16 (λ i. parity 16 (λ j. row_bit rows s j && F j i))

-- The test of the whole table against the relations: of the v of row s, only symbol s is 1.
rows-checked : every 3 (λ k. every 16 (λ s. same (symbols (relations k) (row_v (get_or table k []) s)) (unit 16 s))) ≡ true
unfolding row_v relations symbols sum_of same bits arikan every parity tabulate
rows-checked = refl

module _ (k s : ℕ) (lk : k < 3) (ls : s < 16) where
  abbrev v : List Bool
  v = row_v (get_or table k []) s

  -- Only symbol s of this v is 1,
  row-symbols : symbols (relations k) v ≡ unit 16 s
  row-symbols =
      same-eq (symbols (relations k) v) (unit 16 s)
      (every-at 16 (λ s. same (symbols (relations k) (row_v (get_or table k []) s)) (unit 16 s))
      (every-at 3 (λ k. every 16 (λ s. same (symbols (relations k) (row_v (get_or table k []) s)) (unit 16 s))) rows-checked k lk) s ls)

  -- and vF is the row.
  row_word : (j : ℕ) → j < 16 → parity 16 (λ i. bit v i && F i j) ≡ row_bit (get_or table k []) s j
  unfolding row_v
  row_word j lj =
      parity-cong 16 (λ i li. ap (λ b. b && F i j) (tabulate-at 16 (λ i. parity 16 (λ j. row_bit (get_or table k []) s j && F j i)) i false li))
      ∙ inverse-undoes 16 F F F-inverse (row_bit (get_or table k []) s) j lj

  row-length : length v ≡ 16
  unfolding row_v
  row-length = length-tabulate 16 _

-- Row s of the table is the word with only symbol s set.
pub table-row : (k s j : ℕ) → k < 3 → s < 16 → j < 16 → row_bit (get_or table k []) s j ≡ row F (relations k) s j
table-row k s j lk ls lj =
    sym
    (ap (λ n. word_bit k (unit n s) j) (solution k).solves.count
    ∙ ap (λ u. word_bit k u j) (sym (row-symbols k s lk ls))
    ∙ word-symbols 16 F F (relations k) (solved k) (solution k) (row_v (get_or table k []) s) (row-length k s lk ls) j
    ∙ row_word k s lk ls j lj)

-- A word is the sum of the table's rows.
pub encoded-rows : (k u : ℕ) → k < 3 → row_sum (get_or table k []) u ≡ encoded_word k u
unfolding chosen_sum encoded_word
encoded-rows k u lk =
    ap number (tabulate-cong 16 (λ j lj.
    parity-cong 16 (λ s ls. ap (λ b. bit (bits 16 u) s && b) (table-row k s j lk ls lj))
    ∙ sym (word_rows 16 F F (relations k) (solved k) (solution k) (bits 16 u) (length-bits 16 u) j)))

-- ---- the inverses' rows

inverse-checked : every 3 (λ k. same_table 16 16 (row_bit (get_or inverse_table k [])) (product 16 F (uses (relations k)))) ≡ true
unfolding same_table bits arikan relations uses names every parity
inverse-checked = refl

-- Row s of the inverse table is that of the inverse kernel.
pub inverse-row : (k s j : ℕ) → k < 3 → s < 16 → j < 16 → row_bit (get_or inverse_table k []) s j ≡ (invertible k).inverse s j
unfolding invertible
inverse-row k s j lk ls lj =
    same-table 16 16 (row_bit (get_or inverse_table k [])) (product 16 F (uses (relations k)))
    (every-at 3 (λ k. same_table 16 16 (row_bit (get_or inverse_table k [])) (product 16 F (uses (relations k)))) inverse-checked k lk) s j ls lj

-- The symbols of a word are the sum of the inverse table's rows.
pub undone-rows : (k c : ℕ) → k < 3 → row_sum (get_or inverse_table k []) c ≡ undone_symbols k c
unfolding chosen_sum undone_symbols invertible
undone-rows k c lk =
    ap number (tabulate-cong 16 (λ s ls.
    parity-cong 16 (λ j lj. ap (λ b. bit (bits 16 c) j && b) (inverse-row k j s lk lj ls))
    ∙ sym (symbols-product 16 F F (relations k) (solved k) (solution k) (bits 16 c) (length-bits 16 c) s ls))
    ∙ ap (λ n. tabulate n (bit (word_symbols k (bits 16 c)))) (sym (length-symbols-in (kernel_code k) (bits 16 c)))
    ∙ tabulate-bits (word_symbols k (bits 16 c)))
