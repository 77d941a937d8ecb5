-- The paths of a phase whose relations reach further, as the code folds them. Assumes nothing.
use mathlib.Core.Path.{◌≡◌, refl, sym, ap, ap₂, ◌∙◌}
use mathlib.Core.Bool.{Bool, true, false, not, ◌&&◌, and-true, true≢false}
use mathlib.Core.List.{List, []}
use mathlib.Core.Logic.{◌⊎◌, inl, inr}
use Prim.Native.Nat.{ℕ, ◌+◌, ◌-◌, ◌*◌, ◌/◌, ◌%◌, ◌≤◌, ◌<◌}
use native.Mathlib.Decide.{dec_lt}
use native.Mathlib.Omega.{arith}
use borrow.Author.Tests.{le-leb, lt-leb}
use lib.Dec.{leb}
use lib.ListN.{get_or}
use Rattle.base.specs.Bit.{◌⊕◌, bit, digit, parity}
use Rattle.base.proofs.Bool.{⊕-false}
use Rattle.bits.specs.Packed.{bits}
use Rattle.bits.proofs.Packed.{length-bits, zero-at}
use Rattle.polar.specs.Code.{Costs}
use Rattle.polar.specs.Fold.{known_fold, level, folded}
use Rattle.polar.proofs.Folded.{folded-costs, folded-words}
use Rattle.folds.specs.Rows.{cell}
use Rattle.kernel.specs.Rows.{chosen_bit, row_sum}
use Rattle.windows.specs.Paths.{choice_number}
use Rattle.windows.proofs.Levels.{known-level, free-level}
use Rattle.lane.specs.Lanes.{lane_bit, word_at, lane_costs, node_costs}
use Rattle.lane.proofs.Planes.{all_lanes}
use Rattle.lane_words.specs.Words.{window_bit}
use Rattle.lane_phases.specs.Rows.{column}
use Rattle.lane_phases.proofs.Words.{path-bit}
use Rattle.lane_phases.proofs.Phases.{four-rounds}
use Rattle.lane_step.specs.Step.{path_adds, path_bit, path_total, Halves}

-- Which node a path chooses: its own bits choose where the first half is known.
pub other-is : (high c other : ℕ) → ((high < 8) × (other ≡ 0)) ⊎ ((8 ≤ high) × (other ≡ c)) → (j : ℕ) → lane_bit other j ≡ leb 8 high && lane_bit c j
other-is high c other (inl p) j = ap (λ x. lane_bit x j) p.1 ∙ zero-at 16 j ∙ sym (ap (λ b. b && lane_bit c j) (lt-leb 8 high p.0))
other-is high c other (inr p) j = ap (λ x. lane_bit x j) p.1 ∙ sym (ap (λ b. b && lane_bit c j) (le-leb 8 high p.0))

-- What the code finds for a path, whose words have the window's bits added in all lanes.
module _ (table words : List ℕ) (nodes : List (List (List ℕ))) (phase high w c other : ℕ) (lh : high < 16)
    (adds : (j : ℕ) → j < 16 → lane_bit c j ≡ window_bit table phase false (bits (high - phase) w) j)
    (mine : List ℕ) (is-mine : (j l : ℕ) → j < 16 → word_at mine l j ≡ word_at words l j ⊕ (lane_bit c j && lane_bit 65535 l))
    (is-other : (j : ℕ) → lane_bit other j ≡ leb 8 high && lane_bit c j) where
  mine-bit : (l j : ℕ) → l < 16 → j < 16 → word_at mine l j ≡ path_bit table phase high words w l j
  mine-bit l j ll lj =
      is-mine j l lj
      ∙ ap₂ (λ a b. word_at words l j ⊕ (a && b)) (adds j lj) (all_lanes l ll)
      ∙ ap (λ a. word_at words l j ⊕ a) (and-true (path_adds table phase high w j))

  node-same : (l j : ℕ) (b : Bool) → j < 8 → node_costs nodes (bit (bits 16 other)) l j b ≡ node_costs nodes (λ j. leb 8 high && path_adds table phase high w j) l j b
  node-same l j b lj =
      ap (λ o. cell 0 (get_or nodes (8 * digit o + j) []) l b) (is-other j ∙ ap (λ a. leb 8 high && a) (adds j (omega arith)))

  pub total-is : (l : ℕ) (b : Bool) → l < 16
      → folded 3 (high % 8) (λ j. word_at mine l (high / 8 * 8 + j)) (node_costs nodes (bit (bits 16 other)) l) 0 (word_at mine l high ⊕ b)
      ≡ path_total table phase high words nodes w l b
  total-is l b ll =
      ap (λ a. folded 3 (high % 8) (λ j. word_at mine l (high / 8 * 8 + j)) (node_costs nodes (bit (bits 16 other)) l) 0 (a ⊕ b)) (mine-bit l high ll lh)
      ∙ folded-words 3 (high % 8) (λ j lj. mine-bit l (high / 8 * 8 + j) ll (omega arith)) (node_costs nodes (bit (bits 16 other)) l) _
      ∙ folded-costs 3 (high % 8) (λ j. path_bit table phase high words w l (high / 8 * 8 + j)) (λ j lj d. node-same l j d lj) _

-- ---- the nodes are those of the first round of folds

zero-plus : (j : ℕ) → 8 * 0 + j ≡ j
zero-plus j = omega arith

-- Without a window nothing is added.
no-window : (table : List ℕ) (phase high w j : ℕ) → phase ≡ high → path_adds table phase high w j ≡ false
unfolding bits parity
no-window table phase high w j e =
    let z : high - phase ≡ 0 = omega arith in
    ap (λ n. window_bit table phase false (bits n w) j) z

module _ (table planes words : List ℕ) (costs : List (List (List ℕ))) (phase high : ℕ) (ls : phase ≤ high) (lh : high < 16)
    (made : (j l : ℕ) → j < 16 → word_at words l j ≡ chosen_bit table (λ s. lane_bit (get_or planes s 0) l) phase j) (w l : ℕ) (ll : l < 16) where
  word-is : (j : ℕ) → j < 16 → path_bit table phase high words w l j ≡ lane_bit (row_sum table (choice_number (column planes phase l) false (bits (high - phase) w))) j
  word-is j lj =
      sym
      (path-bit table planes phase l false (bits (high - phase) w) j (omega (arith, length-bits (high - phase) w)) lj
      ∙ ap (λ a. a ⊕ path_adds table phase high w j) (sym (made j l lj)))

  -- A path's least total from the nodes is that of all four rounds.
  rounds : (nodes : List (List (List ℕ)))
      → ((j : ℕ) (b : Bool) → j < 8
      → node_costs nodes (λ j. leb 8 high && path_adds table phase high w j) l j b
      ≡ level 8 high (bit (bits 16 (row_sum table (choice_number (column planes phase l) false (bits (high - phase) w))))) (lane_costs costs l) j b)
      → (b : Bool) → path_total table phase high words nodes w l b
      ≡ folded 4 high (bit (bits 16 (row_sum table (choice_number (column planes phase l) false (bits (high - phase) w))))) (lane_costs costs l) 0
      (bit (bits 16 (row_sum table (choice_number (column planes phase l) false (bits (high - phase) w)))) high ⊕ b)
  rounds nodes is b =
      four-rounds high (bit (bits 16 (row_sum table (choice_number (column planes phase l) false (bits (high - phase) w))))) (path_bit table phase high words w l) (lane_costs costs l)
      (node_costs nodes (λ j. leb 8 high && path_adds table phase high w j) l) word-is lh is b

  -- The first half free,
  pub free-rounds : (halves : List (List (List ℕ))) → Halves costs halves → high < 8 → (b : Bool) → path_total table phase high words halves w l b
      ≡ folded 4 high (bit (bits 16 (row_sum table (choice_number (column planes phase l) false (bits (high - phase) w))))) (lane_costs costs l) 0
      (bit (bits 16 (row_sum table (choice_number (column planes phase l) false (bits (high - phase) w)))) high ⊕ b)
  free-rounds halves is l8 =
      rounds halves (λ j b lj.
      ap (λ o. cell 0 (get_or halves (8 * digit (o && path_adds table phase high w j) + j) []) l b) (lt-leb 8 high l8)
      ∙ ap (λ n. cell 0 (get_or halves n []) l b) (zero-plus j)
      ∙ is j l b lj ll
      ∙ ap (λ (m : Costs). m j b) (free-level 8 high (bit (bits 16 (row_sum table (choice_number (column planes phase l) false (bits (high - phase) w))))) (lane_costs costs l) l8))

  -- or known.
  pub known-rounds : (nodes : List (List (List ℕ)))
      → ((j l : ℕ) (b : Bool) → j < 8 → l < 16 → lane_costs nodes l j b ≡ known_fold 8 (word_at words l) (lane_costs costs l) j b)
      → (phase < high → (j l : ℕ) (b : Bool) → j < 8 → l < 16 → lane_costs nodes l (8 + j) b ≡ known_fold 8 (λ i. not (word_at words l i)) (lane_costs costs l) j b)
      → 8 ≤ high → (b : Bool) → path_total table phase high words nodes w l b
      ≡ folded 4 high (bit (bits 16 (row_sum table (choice_number (column planes phase l) false (bits (high - phase) w))))) (lane_costs costs l) 0
      (bit (bits 16 (row_sum table (choice_number (column planes phase l) false (bits (high - phase) w)))) high ⊕ b)
  known-rounds nodes first second l8 =
      rounds nodes (λ j b lj.
      ap (λ o. cell 0 (get_or nodes (8 * digit (o && path_adds table phase high w j) + j) []) l b) (le-leb 8 high l8)
      ∙ go j b lj (path_adds table phase high w j) refl (dec_lt phase high)
      ∙ ap (λ (m : Costs). m j b) (known-level 8 high (bit (bits 16 (row_sum table (choice_number (column planes phase l) false (bits (high - phase) w))))) (lane_costs costs l) l8))
    where
      bit-so : (j : ℕ) → j < 16 → (a : Bool) → path_adds table phase high w j ≡ a → word_at words l j ⊕ a ≡ lane_bit (row_sum table (choice_number (column planes phase l) false (bits (high - phase) w))) j
      bit-so j lj a e = ap (λ a. word_at words l j ⊕ a) (sym e) ∙ word-is j lj

      go : (j : ℕ) (b : Bool) → j < 8 → (a : Bool) → path_adds table phase high w j ≡ a → Dec (phase < high)
          → cell 0 (get_or nodes (8 * digit a + j) []) l b
          ≡ known_fold 8 (bit (bits 16 (row_sum table (choice_number (column planes phase l) false (bits (high - phase) w))))) (lane_costs costs l) j b
      go j b lj false e d =
          ap (λ n. cell 0 (get_or nodes n []) l b) (zero-plus j)
          ∙ first j l b lj ll
          ∙ ap (λ x. lane_costs costs l j (x ⊕ b) + lane_costs costs l (8 + j) b) (sym (⊕-false (word_at words l j)) ∙ bit-so j (omega arith) false e)
      go j b lj true e (yes d) =
          second d j l b lj ll
          ∙ ap (λ x. lane_costs costs l j (x ⊕ b) + lane_costs costs l (8 + j) b) (flip (word_at words l j) ∙ bit-so j (omega arith) true e)
        where
          flip : (a : Bool) → not a ≡ a ⊕ true
          flip true = refl
          flip false = refl
      go j b lj true e (no d) = absurd (true≢false (sym e ∙ no-window table phase high w j (omega arith)))
