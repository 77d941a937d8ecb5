-- The bits of rows, and the sums of rows as a layer's stage has them. Assumes nothing.
use mathlib.Core.Path.{◌≡◌, sym, ap, ap₂, ◌∙◌}
use mathlib.Core.Bool.{Bool, false, ◌&&◌}
use mathlib.Core.List.{List}
use Prim.Native.Nat.{ℕ, ◌+◌, ◌*◌, ◌/◌, ◌%◌, ◌<◌}
use native.Mathlib.Nat.{mul_comm, mul_assoc, div-div-eq-div-mul}
use native.Mathlib.Omega.{arith}
use lib.Arith.{mod-mul}
use lib.ListN.{get_or, length, take}
use Rattle.std.proofs.lemmas.List.{get_or-take}
use lib.Seq.{ext_get_or}
use Rattle.base.specs.Bit.{bit, tabulate}
use Rattle.base.proofs.Bool.{parity-cong}
use Rattle.base.proofs.List.{length-tabulate, tabulate-at, tabulate-cong}
use Rattle.bits.specs.Packed.{bits, number}
use Rattle.polar.specs.Encoding.{stage}
use Rattle.polar.proofs.Minima.{quot, rest}
use Rattle.kernel.specs.Rows.{row_bit, chosen_sum, row_sum}
use Rattle.kernel.proofs.Rows.{chosen-sum-at}
use Rattle.grid.specs.Grid.{column_sum, column_sums, rows_bit, rows_bits, staged_bits}

-- A list is what its entries make.
pub tabulated : (n : ℕ) (f : ℕ → ℕ) (l : List ℕ) → length l ≡ n → ((i : ℕ) → i < n → get_or l i 0 ≡ f i) → l ≡ tabulate n f
tabulated n f l e h =
    ext_get_or 0 l (tabulate n f) (e ∙ sym (length-tabulate n f)) (λ i li.
    let ln : i < n = omega arith in
    h i ln ∙ sym (tabulate-at n f i 0 ln))

-- ---- the bits of rows

pub length-rows-bits : (n : ℕ) (rows : List ℕ) → length (rows_bits n rows) ≡ 16 * n
unfolding rows_bits
length-rows-bits n rows = length-tabulate (16 * n) _

pub rows-bit-at : (n : ℕ) (rows : List ℕ) (i : ℕ) → i < 16 * n → bit (rows_bits n rows) i ≡ rows_bit rows i
unfolding rows_bits
rows-bit-at n rows i l = tabulate-at (16 * n) (rows_bit rows) i false l

pub rows-bits-at : (n : ℕ) (rows : List ℕ) (r s : ℕ) → r < n → s < 16 → bit (rows_bits n rows) (16 * r + s) ≡ row_bit rows r s
rows-bits-at n rows r s lr ls = rows-bit-at n rows (16 * r + s) (omega arith) ∙ ap₂ (row_bit rows) (quot 16 r s ls) (rest 16 r s ls)

-- They come from the first n rows.
pub rows-bits-cong : (n : ℕ) (a b : List ℕ) → ((q : ℕ) → q < n → get_or a q 0 ≡ get_or b q 0) → rows_bits n a ≡ rows_bits n b
unfolding rows_bits
rows-bits-cong n a b h = tabulate-cong (16 * n) (λ i l. ap (λ x. bit (bits 16 x) (i % 16)) (h (i / 16) (omega arith)))

pub rows-taken : (n : ℕ) (rows : List ℕ) → rows_bits n (take n rows) ≡ rows_bits n rows
rows-taken n rows = rows-bits-cong n (take n rows) rows (λ q l. get_or-take n rows q 0 l)

-- ---- a stage over rows

-- Row q of a stage in frames of e bits: the sum of the kernel's rows that a column of the block chooses.
abbrev pub turned : List ℕ → ℕ → List ℕ → ℕ → ℕ
turned table e from q = chosen_sum table (λ r. rows_bit from (16 * e * (q / e) + (e * r + q % e)))

-- Rows so made have the bits of the stage.
turned-stage : (table : List ℕ) (e : ℕ) (from out : List ℕ) (p : ℕ) → get_or out (p / 16) 0 ≡ turned table e from (p / 16)
    → rows_bit out p ≡ stage e 16 (row_bit table) (rows_bit from) p
turned-stage table e from out p h =
    ap (λ x. bit (bits 16 x) (p % 16)) h
    ∙ chosen-sum-at table (λ r. rows_bit from (16 * e * (p / 16 / e) + (e * r + p / 16 % e))) (p % 16) (omega arith)
    ∙ parity-cong 16 (λ r _. ap (λ q. rows_bit from (16 * e * q + (e * r + p / 16 % e)) && row_bit table r (p % 16)) (div-div-eq-div-mul p 16 e))

pub staged-rows : (table : List ℕ) (e : ℕ) (from out : List ℕ) → ((q : ℕ) → q < length from → get_or out q 0 ≡ turned table e from q)
    → rows_bits (length from) out ≡ staged_bits table e from
unfolding rows_bits staged_bits
staged-rows table e from out h = tabulate-cong (16 * length from) (λ p l. turned-stage table e from out p (h (p / 16) (omega arith)))

chosen-cong : (rows : List ℕ) (f g : ℕ → Bool) → ((r : ℕ) → r < 16 → f r ≡ g r) → chosen_sum rows f ≡ chosen_sum rows g
unfolding chosen_sum
chosen-cong rows f g h = ap number (tabulate-cong 16 (λ j _. parity-cong 16 (λ r l. ap (λ b. b && row_bit rows r j) (h r l))))

-- In the innermost layer a row chooses by its own bits,
pub row-turned : (table from : List ℕ) (q : ℕ) → row_sum table (get_or from q 0) ≡ turned table 1 from q
row-turned table from q = chosen-cong table _ _ (λ r l.
    let a : (16 * 1 * (q / 1) + (1 * r + q % 1)) / 16 ≡ q = omega arith in
    let b : (16 * 1 * (q / 1) + (1 * r + q % 1)) % 16 ≡ r = omega arith in
    sym (ap₂ (row_bit from) a b))

module _ (s g j : ℕ) (pos : 0 < s) (l : j < 16) where
  block-is : (16 * g + j) / (16 * s) ≡ g / s
  block-is = sym (div-div-eq-div-mul (16 * g + j) 16 s) ∙ ap (λ q. q / s) (quot 16 g j l)

  within : (16 * g + j) % (16 * s) ≡ 16 * (g % s) + j
  within =
      let e : (16 * g + j) % (s * 16) ≡ (16 * g + j) / 16 % s * 16 + (16 * g + j) % 16 = mod-mul (16 * g + j) pos (omega arith) in
      ap (λ n. (16 * g + j) % n) (mul_comm 16 s) ∙ e
      ∙ ap₂ (λ a b. a % s * 16 + b) (quot 16 g j l) (rest 16 g j l) ∙ ap (λ x. x + j) (mul_comm (g % s) 16)

  place : (r : ℕ) → 16 * (16 * s) * ((16 * g + j) / (16 * s)) + (16 * s * r + (16 * g + j) % (16 * s)) ≡ 16 * (16 * s * (g / s) + g % s + s * r) + j
  place r =
      ap₂ (λ a b. 16 * (16 * s) * a + (16 * s * r + b)) block-is within
      ∙ omega (arith, mul_assoc 16 (16 * s) (g / s), mul_assoc 16 s r)

-- and in a layer around frames of s rows by the bits of a column of sixteen rows, s apart.
column-turned : (table from choosing : List ℕ) (s g j : ℕ) → 0 < s → j < 16
    → choosing ≡ tabulate 16 (λ r. get_or from (16 * s * (g / s) + g % s + s * r) 0) → column_sum table choosing j ≡ turned table (16 * s) from (16 * g + j)
column-turned table from choosing s g j pos l e = chosen-cong table _ _ (λ r lr.
    let i : ℕ = 16 * s * (g / s) + g % s + s * r in
    ap (λ x. bit (bits 16 x) j) (ap (λ c. get_or c r 0) e ∙ tabulate-at 16 (λ r. get_or from (16 * s * (g / s) + g % s + s * r) 0) r 0 lr)
    ∙ sym (ap₂ (row_bit from) (quot 16 i j l) (rest 16 i j l))
    ∙ sym (ap (rows_bit from) (place s g j pos l r)))

pub columns-turned : (table from choosing : List ℕ) (s g : ℕ) → 0 < s → choosing ≡ tabulate 16 (λ r. get_or from (16 * s * (g / s) + g % s + s * r) 0)
    → column_sums table choosing ≡ tabulate 16 (λ j. turned table (16 * s) from (16 * g + j))
unfolding column_sums
columns-turned table from choosing s g pos e = tabulate-cong 16 (λ j l. column-turned table from choosing s g j pos l e)
