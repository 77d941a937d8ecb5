-- The words of a path in one lane: the planes of its symbols, and what its own symbol and the window's bits add. Assumes nothing.
use mathlib.Core.Path.{◌≡◌, ap, ap₂, ◌∙◌}
use mathlib.Core.Bool.{Bool, false, ◌&&◌}
use mathlib.Core.List.{List, ◌∷◌, ◌++◌}
use Prim.Native.Nat.{ℕ, suc, ◌+◌, ◌≤◌, ◌<◌}
use native.Mathlib.Omega.{arith}
use lib.ListN.{length, get_or, get_or-append}
use lib.Seq.{get_or-append-add}
use Rattle.base.specs.Bit.{◌⊕◌, bit, parity}
use Rattle.base.proofs.Bool.{parity-cong, parity-append}
use Rattle.base.proofs.List.{length-tabulate, tabulate-at}
use Rattle.bits.specs.Packed.{bits}
use Rattle.kernel.specs.Rows.{row_bit, chosen_bit, row_sum}
use Rattle.windows.specs.Paths.{choice_number}
use Rattle.windows.proofs.Paths.{choice-word}
use Rattle.windows.proofs.Steps.{chosen-bits}
use Rattle.lane.specs.Lanes.{lane_bit}
use Rattle.lane_phases.specs.Rows.{column}

-- What a table makes of the symbols of a lane, a phase's own and the window's bits, by parts.
pub path-bit : (table planes : List ℕ) (s l : ℕ) (b : Bool) (ws : List Bool) (j : ℕ) → s + suc (length ws) ≤ 16 → j < 16
    → bit (bits 16 (row_sum table (choice_number (column planes s l) b ws))) j
    ≡ chosen_bit table (λ i. lane_bit (get_or planes i 0) l) s j ⊕ parity (suc (length ws)) (λ t. bit (b ∷ ws) t && row_bit table (s + t) j)
path-bit table planes s l b ws j most lj =
    let us = column planes s l in
    let f : ℕ → Bool = λ i. lane_bit (get_or planes i 0) l in
    let lu : length us ≡ s = length-tabulate s f in
    let one : 1 + length ws ≡ suc (length ws) = omega arith in
    let fits : length us + (1 + length ws) ≤ 16 = omega arith in
    choice-word table us b ws (choice_number us b ws) j fits (chosen-bits us b ws fits) lj
    ∙ parity-append (length us) (1 + length ws) (λ i. bit (us ++ (b ∷ ws)) i && row_bit table i j)
    ∙ ap₂ ◌⊕◌
    (ap (λ n. parity n (λ i. bit (us ++ (b ∷ ws)) i && row_bit table i j)) lu
    ∙ parity-cong s (λ i li. ap (λ c. c && row_bit table i j) (get_or-append us (b ∷ ws) false i (omega arith) ∙ tabulate-at s f i false li)))
    (ap (λ n. parity n (λ t. bit (us ++ (b ∷ ws)) (length us + t) && row_bit table (length us + t) j)) one
    ∙ parity-cong (suc (length ws)) (λ t _. ap₂ (λ c n. c && row_bit table n j) (get_or-append-add us (b ∷ ws) t false) (ap (λ n. n + t) lu)))
