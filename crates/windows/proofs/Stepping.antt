-- A step as the code takes it: with the shape and the table of its phase at hand. Assumes nothing.
use mathlib.Core.Path.{◌≡◌, ap, subst⁻¹}
use mathlib.Core.Bool.{Bool, false}
use mathlib.Core.List.{List, []}
use Prim.Native.Nat.{ℕ, zero, suc, ◌-◌, ◌^◌, ◌≤◌, ◌<◌}
use native.Mathlib.Nat.{lt_of_lt_of_le}
use native.Mathlib.Omega.{arith}
use lib.IntN.{ℤ, pos, neg_ℤ}
use lib.ListN.{length, take, get_or}
use lib.Seq.{length-take-le}
use Rattle.bits.specs.Packed.{bits}
use Rattle.bits.proofs.Packed.{length-bits}
use Rattle.polar.specs.Window.{height}
use Rattle.folds.specs.Rows.{cell, costs_of}
use Rattle.kernel.specs.Kernels.{relations}
use Rattle.windows.specs.Windows.{window}
use Rattle.windows.specs.Tables.{shape_table, shape_at, path_rows}
use Rattle.windows.specs.Paths.{Kept, Held, path_word_of, path_least}
use Rattle.windows.proofs.Windows.{widest, window-size}
use Rattle.windows.proofs.Tables.{shaped, again}
use Rattle.windows.proofs.Words.{pow-le}
use Rattle.windows.proofs.Steps.{fresh-held, again-small, again-held}

widest-le : (k : ℕ) → widest k ≤ 4
widest-le zero = omega arith
widest-le (suc zero) = omega arith
widest-le (suc (suc k)) = omega arith

-- Before any symbol no relation reaches anywhere, so phase 0 reads no row of the phase before.
pub started : (k s n : ℕ) → height (take s (relations k)) ≡ suc n → 0 < s
unfolding height
started k zero n h = absurd (omega arith)
started k (suc s) n h = omega arith

module _ (k s : ℕ) (lk : k < 3) (ls : s < 16) (symbols : ℕ) where
  us : List Bool
  us = take s (bits 16 symbols)

  long : length us ≡ s
  unfolding us
  long = length-take-le s (bits 16 symbols) (omega (arith, length-bits 16 symbols))

  -- The numbers of a phase are in range.
  pub in-range : (shape : List ℕ) → shape ≡ get_or (get_or shape_table k []) s [] → (s ≤ get_or shape 0 0) × (get_or shape 0 0 < 16) × (get_or shape 0 0 - s ≤ 4)
  in-range shape e =
      let t = shaped k s lk ls in
      let n : get_or shape 0 0 ≡ shape_at k s 0 = ap (λ l. get_or l 0 0) e in
      (omega (arith, t.reached), omega (arith, t.low), omega (arith, t.wide, window-size k (suc s) (omega arith), widest-le k))

  pub fresh_step : (shape table : List ℕ) → shape ≡ get_or (get_or shape_table k []) s [] → table ≡ path_rows k s → (costs : List (List ℕ)) (rows : List (List ℤ))
      → get_or shape 1 0 ≡ 0
      → ((w : ℕ) (b : Bool) → w < 2 ^ (get_or shape 0 0 - s)
      → cell (pos 0) rows w b ≡ neg_ℤ (pos (path_least costs (get_or shape 0 0) (path_word_of table symbols s (get_or shape 0 0) false w) b)))
      → Held k (costs_of costs) (take s (bits 16 symbols)) rows
  unfolding us
  fresh_step shape table es et costs rows =
      subst⁻¹ (λ sh. get_or sh 1 0 ≡ 0
      → ((w : ℕ) (b : Bool) → w < 2 ^ (get_or sh 0 0 - s) → cell (pos 0) rows w b ≡ neg_ℤ (pos (path_least costs (get_or sh 0 0) (path_word_of table symbols s (get_or sh 0 0) false w) b)))
      → Held k (costs_of costs) (take s (bits 16 symbols)) rows) es
      (subst⁻¹ (λ t. shape_at k s 1 ≡ 0
      → ((w : ℕ) (b : Bool) → w < 2 ^ (shape_at k s 0 - s) → cell (pos 0) rows w b ≡ neg_ℤ (pos (path_least costs (shape_at k s 0) (path_word_of t symbols s (shape_at k s 0) false w) b)))
      → Held k (costs_of costs) (take s (bits 16 symbols)) rows) et
      (λ f h. fresh-held k s lk ls (costs_of costs) (take s (bits 16 symbols)) long f rows h))

  pub small-step : (shape table : List ℕ) → shape ≡ get_or (get_or shape_table k []) s [] → table ≡ path_rows k s → (get_or shape 1 0 ≡ 0 → ⊥)
      → (w : ℕ) (b : Bool) → w < 2 ^ (get_or shape 0 0 - s) → path_word_of table symbols s (get_or shape 0 0) b w < 16
  unfolding us
  small-step shape table es et =
      subst⁻¹ (λ sh. (get_or sh 1 0 ≡ 0 → ⊥) → (w : ℕ) (b : Bool) → w < 2 ^ (get_or sh 0 0 - s) → path_word_of table symbols s (get_or sh 0 0) b w < 16) es
      (subst⁻¹ (λ t. (shape_at k s 1 ≡ 0 → ⊥) → (w : ℕ) (b : Bool) → w < 2 ^ (shape_at k s 0 - s) → path_word_of t symbols s (shape_at k s 0) b w < 16) et
      (λ f w b l. lt_of_lt_of_le (again-small k s lk ls (costs_of []) (take s (bits 16 symbols)) long f w b) (pow-le (length (window k s)) (again k s lk ls f).few)))

  pub again-step : (shape table : List ℕ) → shape ≡ get_or (get_or shape_table k []) s [] → table ≡ path_rows k s → (costs : List (List ℕ)) (kept : List ℤ) (rows : List (List ℤ))
      → (get_or shape 1 0 ≡ 0 → ⊥) → (0 < s → Kept k (costs_of costs) (take s (bits 16 symbols)) kept)
      → ((w : ℕ) (b : Bool) → w < 2 ^ (get_or shape 0 0 - s) → cell (pos 0) rows w b ≡ get_or kept (path_word_of table symbols s (get_or shape 0 0) b w) (pos 0))
      → Held k (costs_of costs) (take s (bits 16 symbols)) rows
  unfolding us
  again-step shape table es et costs kept rows =
      subst⁻¹ (λ sh. (get_or sh 1 0 ≡ 0 → ⊥) → (0 < s → Kept k (costs_of costs) (take s (bits 16 symbols)) kept)
      → ((w : ℕ) (b : Bool) → w < 2 ^ (get_or sh 0 0 - s) → cell (pos 0) rows w b ≡ get_or kept (path_word_of table symbols s (get_or sh 0 0) b w) (pos 0))
      → Held k (costs_of costs) (take s (bits 16 symbols)) rows) es
      (subst⁻¹ (λ t. (shape_at k s 1 ≡ 0 → ⊥) → (0 < s → Kept k (costs_of costs) (take s (bits 16 symbols)) kept)
      → ((w : ℕ) (b : Bool) → w < 2 ^ (shape_at k s 0 - s) → cell (pos 0) rows w b ≡ get_or kept (path_word_of t symbols s (shape_at k s 0) b w) (pos 0))
      → Held k (costs_of costs) (take s (bits 16 symbols)) rows) et
      (λ f h e. again-held k s lk ls (costs_of costs) (take s (bits 16 symbols)) long f kept (h (started k s (shape_at k s 0) (again k s lk ls f).same-height)) rows e))
