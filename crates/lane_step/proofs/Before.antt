-- The paths of a phase whose relations reach no further, as the code finds them in the rows before. Assumes nothing.
use mathlib.Core.Path.{◌≡◌, sym, ap, ap₂, ◌∙◌}
use mathlib.Core.Bool.{Bool, true, false}
use mathlib.Core.List.{List, [], ◌∷◌}
use Prim.Native.Nat.{ℕ, ◌+◌, ◌-◌, ◌%◌, ◌≤◌, ◌<◌}
use native.Mathlib.Omega.{arith}
use lib.Bits.{bit_xor}
use lib.ListN.{get_or}
use Rattle.base.specs.Bit.{◌⊕◌, bit}
use Rattle.base.proofs.List.{same_bits}
use Rattle.bits.specs.Packed.{bits, number}
use Rattle.bits.proofs.Packed.{length-bits, bits-mod, xor-at, number-bits-fit}
use Rattle.folds.specs.Rows.{cell}
use Rattle.kernel.specs.Rows.{chosen_bit}
use Rattle.windows.proofs.Paths.{low_bit}
use Rattle.lane.specs.Lanes.{lane_bit, word_at, lane_costs}
use Rattle.lane_words.specs.Words.{window_bit}
use Rattle.lane_phases.proofs.Words.{path-bit}
use Rattle.lane_step.specs.Step.{number_before}

module _ (table planes words : List ℕ) (phase high : ℕ) (ls : phase ≤ high) (lh : high < 16)
    (made : (j l : ℕ) → j < 16 → word_at words l j ≡ chosen_bit table (λ s. lane_bit (get_or planes s 0) l) phase j)
    (w l : ℕ) (b : Bool) (c : ℕ) (adds : (j : ℕ) → j < 16 → lane_bit c j ≡ window_bit table phase b (bits (high - phase) w) j) where
  before-bit : (j : ℕ) → j < 16 → lane_bit (number_before table phase high planes w l b) j ≡ word_at words l j ⊕ lane_bit c j
  before-bit j lj =
      path-bit table planes phase l b (bits (high - phase) w) j (omega (arith, length-bits (high - phase) w)) lj
      ∙ ap₂ ◌⊕◌ (sym (made j l lj)) (sym (adds j lj))

  -- A lane's number and what a path adds are the number of the path before.
  pub number_is : (n : ℕ) → ((i : ℕ) → i < 4 → bit (bits 4 n) i ≡ word_at words l (12 + i)) → number_before table phase high planes w l b < 16
      → bit_xor n c % 16 ≡ number_before table phase high planes w l b
  number_is n low small =
      let lx : bit_xor n c % 16 < 16 = omega arith in
      sym (number-bits-fit 4 (bit_xor n c % 16) lx)
      ∙ ap number (same_bits 4 (bits 4 (bit_xor n c % 16)) (bits 4 (number_before table phase high planes w l b)) (length-bits 4 _) (length-bits 4 _) (λ i li.
      ap (λ u. bit u i) (bits-mod 4 (bit_xor n c))
      ∙ xor-at 4 n c i
      ∙ ap₂ ◌⊕◌ (low i li) (low_bit 16 4 c i (omega arith) li)
      ∙ sym (before-bit (12 + i) (omega arith))
      ∙ sym (low_bit 16 4 (number_before table phase high planes w l b) i (omega arith) li)))
      ∙ number-bits-fit 4 (number_before table phase high planes w l b) small

  -- So the entry that is gathered is that path's.
  pub entry-is : (n : ℕ) (kept : List (List ℕ)) (rows : List (List (List ℕ))) (most : ℕ) (d : Bool)
      → ((i : ℕ) → i < 4 → bit (bits 4 n) i ≡ word_at words l (12 + i)) → most ≤ 16
      → number_before table phase high planes w l b < most → ((v : ℕ) → v < most → get_or (get_or kept v []) l 0 ≡ lane_costs rows l v d)
      → get_or (get_or kept (bit_xor n c % 16) []) l 0 ≡ lane_costs rows l (number_before table phase high planes w l b) d
  entry-is n kept rows most d low lm small has =
      ap (λ v. get_or (get_or kept v []) l 0) (number_is n low (omega arith))
      ∙ has (number_before table phase high planes w l b) small

-- Two rows of lanes, one for each symbol.
pub pair_is : (x y : List ℕ) (l : ℕ) (f : Bool → ℕ) → get_or x l 0 ≡ f false → get_or y l 0 ≡ f true → (b : Bool) → cell 0 (x ∷ y ∷ []) l b ≡ f b
pair_is x y l f p q false = p
pair_is x y l f p q true = q
