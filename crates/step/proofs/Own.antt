-- What a phase's own symbol adds to the number of a path. Assumes nothing.
use mathlib.Core.Path.{◌≡◌, refl, sym, ap, ap₂, ◌∙◌}
use mathlib.Core.Bool.{Bool, true, false, ◌&&◌}
use mathlib.Core.List.{List, ◌∷◌, ◌++◌}
use Prim.Native.Nat.{ℕ, suc, ◌+◌, ◌-◌, ◌^◌, ◌≤◌, ◌<◌}
use native.Mathlib.Nat.{add-zero}
use native.Mathlib.Omega.{arith}
use lib.Bits.{bit_xor, xor_lt}
use lib.ListN.{length, get_or, take, get_or-append}
use lib.Seq.{get_or-append-add, length-take-le}
use Rattle.base.specs.Bit.{◌⊕◌, bit, parity}
use Rattle.base.proofs.Bool.{parity-cong, parity-append}
use Rattle.base.proofs.List.{same_bits}
use Rattle.bits.specs.Packed.{bits, number}
use Rattle.bits.proofs.Packed.{length-bits, xor-at, number-bits-fit}
use Rattle.kernel.specs.Rows.{row_bit, row_sum}
use Rattle.kernel.proofs.Rows.{row-sum-lt}
use Rattle.windows.specs.Paths.{choice_number, path_word_of}
use Rattle.windows.proofs.Paths.{choice-word}
use Rattle.windows.proofs.Steps.{chosen-bits}

flip : (p q r : Bool) → (p ⊕ ((false && r) ⊕ q)) ⊕ r ≡ p ⊕ ((true && r) ⊕ q)
flip true true true = refl
flip true true false = refl
flip true false true = refl
flip true false false = refl
flip false true true = refl
flip false true false = refl
flip false false true = refl
flip false false false = refl

module _ (table : List ℕ) (us ws : List Bool) (fits : length us + (1 + length ws) ≤ 16) where
  -- A bit of the sum, with the own symbol's part between those of the symbols before it and of the window.
  by_parts : (b : Bool) (j : ℕ) → j < 16 → bit (bits 16 (row_sum table (choice_number us b ws))) j
      ≡ parity (length us) (λ i. bit us i && row_bit table i j) ⊕ ((b && row_bit table (length us) j) ⊕ parity (length ws) (λ t. bit ws t && row_bit table (length us + suc t) j))
  unfolding parity
  by_parts b j lj =
      let one : 1 + length ws ≡ suc (length ws) = omega arith in
      choice-word table us b ws (choice_number us b ws) j fits (chosen-bits us b ws fits) lj
      ∙ parity-append (length us) (1 + length ws) (λ i. bit (us ++ (b ∷ ws)) i && row_bit table i j)
      ∙ ap₂ ◌⊕◌
      (parity-cong (length us) (λ i li. ap (λ c. c && row_bit table i j) (get_or-append us (b ∷ ws) false i li)))
      (ap (λ n. parity n (λ t. bit (us ++ (b ∷ ws)) (length us + t) && row_bit table (length us + t) j)) one
      ∙ parity-cong (suc (length ws)) (λ t _. ap (λ c. c && row_bit table (length us + t) j) (get_or-append-add us (b ∷ ws) t false))
      ∙ ap (λ n. (b && row_bit table n j) ⊕ parity (length ws) (λ t. bit ws t && row_bit table (length us + suc t) j)) (add-zero (length us)))

  pub own-adds : (row : ℕ) → row ≡ get_or table (length us) 0 → row < 2 ^ 16 → bit_xor (row_sum table (choice_number us false ws)) row ≡ row_sum table (choice_number us true ws)
  own-adds row e l =
      let zero = row_sum table (choice_number us false ws) in
      let one = row_sum table (choice_number us true ws) in
      sym (number-bits-fit 16 (bit_xor zero row) (xor_lt 16 zero row (row-sum-lt table (choice_number us false ws)) l))
      ∙ ap number (same_bits 16 (bits 16 (bit_xor zero row)) (bits 16 one) (length-bits 16 _) (length-bits 16 _) (λ j lj.
      xor-at 16 zero row j ∙ ap₂ ◌⊕◌ (by_parts false j lj) (ap (λ x. bit (bits 16 x) j) e) ∙ flip (parity (length us) (λ i. bit us i && row_bit table i j)) (parity (length ws) (λ t. bit ws t && row_bit table (length us + suc t) j)) (row_bit table (length us) j) ∙ sym (by_parts true j lj)))
      ∙ number-bits-fit 16 one (row-sum-lt table (choice_number us true ws))

-- The same of the path of a phase.
pub own-word : (table : List ℕ) (symbols phase high w word row x : ℕ) → phase ≤ high → high < 16 → word ≡ path_word_of table symbols phase high false w → row ≡ get_or table phase 0
    → (x ≡ bit_xor word row) × (row < 2 ^ 16) → x ≡ path_word_of table symbols phase high true w
own-word table symbols phase high w word row x lp lh is e k =
    let us = take phase (bits 16 symbols) in
    let lu : length us ≡ phase = length-take-le phase (bits 16 symbols) (omega (arith, length-bits 16 symbols)) in
    k.0 ∙ ap (λ n. bit_xor n row) is
    ∙ own-adds table us (bits (high - phase) w) (omega (arith, lu, length-bits (high - phase) w)) row (e ∙ ap (λ n. get_or table n 0) (sym lu)) k.1
