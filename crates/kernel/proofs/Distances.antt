-- The words that partial distances count are the rows plus sums of later rows. Assumes nothing.
use mathlib.Core.Path.{◌≡◌, sym, ap, ◌∙◌}
use mathlib.Core.Bool.{Bool, true, false}
use mathlib.Core.List.{List, [], ◌∷◌, ◌++◌, append_assoc}
use Prim.Native.Nat.{ℕ, suc, ◌+◌, ◌≤◌, ◌<◌}
use native.Mathlib.Omega.{arith}
use lib.ListN.{length, replicate, length-append, length-replicate}
use Rattle.base.specs.Bit.{digit}
use Rattle.polar.specs.Code.{sum, total}
use Rattle.polar.specs.Distance.{weight, partial_distance, Zero}
use Rattle.polar.proofs.Minima.{sum-cong}
use Rattle.polar.proofs.Least.{least-le, least_at}
use Rattle.polar.proofs.Distance.{later_rows, matrix-zero}
use Rattle.kernel.specs.Kernels.{kernel, kernel_code, word_bit}
use Rattle.kernel.specs.Distances.{row_plus}
use Rattle.kernel.proofs.Undoing.{code-word}

module _ (k : ℕ) where
  -- All symbols 0 make the word 0.
  pub kernel-zero : Zero (kernel_code k)
  kernel-zero j l = sym (code-word k (replicate 16 false) (length-replicate 16 false) j) ∙ matrix-zero 16 16 (kernel k).entry j l

  -- The word of s zeros, a one and the symbols t is row s plus the sum of the later rows that t chooses.
  pub word-later : (s : ℕ) (t : List Bool) → length (replicate s false ++ (true ∷ t)) ≡ 16
      → (j : ℕ) → word_bit k (replicate s false ++ (true ∷ t)) j ≡ row_plus k s t j
  word-later s t e j = sym (code-word k (replicate s false ++ (true ∷ t)) e j) ∙ later_rows 16 16 (kernel k).entry s t e j

  first_one : (s : ℕ) (t : List Bool) → length (replicate s false ++ (true ∷ t)) ≡ s + suc (length t)
  first_one s t = length-append (replicate s false) (true ∷ t) ∙ ap (λ n. n + suc (length t)) (length-replicate s false)

  count : (s : ℕ) (t : List Bool) → s + suc (length t) ≡ 16
      → total (kernel_code k) weight (replicate s false ++ (true ∷ []) ++ t) ≡ sum 16 (λ j. digit (row_plus k s t j))
  unfolding total
  count s t e =
      ap (total (kernel_code k) weight) (append_assoc (replicate s false) (true ∷ []) t)
      ∙ sum-cong 16 (λ j _. ap digit (word-later s t (first_one s t ∙ e) j))

  -- No sum of row s and later rows has fewer ones than the partial distance,
  pub distance-le : (s : ℕ) (t : List Bool) → s + suc (length t) ≡ 16 → partial_distance (kernel_code k) s ≤ sum 16 (λ j. digit (row_plus k s t j))
  unfolding partial_distance
  distance-le s t e =
      let p = replicate s false ++ (true ∷ []) in
      rw (← (count s t e)) (least-le (kernel_code k) weight p t (ap length (append_assoc (replicate s false) (true ∷ []) t) ∙ first_one s t ∙ e))

  -- and one of them has as many.
  pub distance-at : (s : ℕ) → s < 16 → (t : List Bool) × (s + suc (length t) ≡ 16) × (sum 16 (λ j. digit (row_plus k s t j)) ≡ partial_distance (kernel_code k) s)
  unfolding partial_distance
  distance-at s l =
      let p = replicate s false ++ (true ∷ []) in
      let a = least_at (kernel_code k) weight p (omega (arith, first_one s [])) in
      let e : s + suc (length a.0) ≡ 16 = sym (first_one s a.0) ∙ ap length (sym (append_assoc (replicate s false) (true ∷ []) a.0)) ∙ a.1 in
      (a.0, e, sym (count s a.0 e) ∙ a.2)
