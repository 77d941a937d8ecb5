-- The score of a kernel's next symbol, by the best scores of the paths of its window. Assumes nothing.
use mathlib.Core.Path.{◌≡◌, refl, sym, ap, ap₂, ◌∙◌}
use mathlib.Core.Bool.{Bool, true, false}
use mathlib.Core.List.{List, [], ◌∷◌, ◌++◌}
use Prim.Native.Nat.{ℕ, suc, ◌≤◌, ◌<◌}
use native.Mathlib.Numerals.{add-one}
use native.Mathlib.Omega.{arith}
use lib.IntN.{ℤ, pos, neg_ℤ, ◌-ℤ◌}
use lib.ListN.{length, take, length-append}
use lib.Seq.{take_all}
use Rattle.polar.specs.Code.{Costs, least, best_score, score}
use Rattle.polar.specs.Window.{height, path_of}
use Rattle.polar.proofs.Fold.{arikan_code}
use Rattle.polar.proofs.Window.{window-least}
use Rattle.kernel.specs.Kernels.{relations, kernel_code}
use Rattle.kernel.proofs.Solved as kernels
use Rattle.kernel.proofs.Undoing.{word-of-v, some-v}
use Rattle.windows.specs.Windows.{window, solution}
use Rattle.windows.proofs.Windows.{windowed}
use Rattle.windows.proofs.Tables.{height_at, shaped}
use Rattle.values.specs.Value.{best_of}
use Rattle.values.proofs.Best.{best-neg}

-- The best score of the paths that the symbols us leave.
abbrev pub best_path : ℕ → Costs → ℕ → List Bool → ℤ
best_path k m s us = best_of (length (window k s)) (λ x. best_score (arikan_code 4) m (path_of (solution k s) us x))

module _ (k : ℕ) (lk : k < 3) (m : Costs) where
  -- It is that of the kernel's words which agree with them.
  pub kernel-best : (s : ℕ) → s ≤ 16 → (us : List Bool) → length us ≡ s → best_score (kernel_code k) m us ≡ best_path k m s us
  kernel-best s ls us e =
      let rs = relations k in
      let count : length rs ≡ 16 = (kernels.solution k).solves.count in
      let last = shaped k 15 lk (omega arith) in
      let all : take 16 rs ≡ rs = take_all 16 rs (omega arith) in
      let most : height_at k 16 ≤ 16 = omega (arith, last.high, last.low) in
      let fits : height rs ≤ 16 = rw all at most in
      ap (λ x. neg_ℤ (pos x))
      (window-least (kernel_code k) (arikan_code 4) 16 rs refl refl refl count (λ v e j _. word-of-v k v e j) (some-v k) fits m s ls
      (window k s) (solution k s) (windowed k s ls) us e)
      ∙ sym (best-neg (length (window k s)) (λ x. least (arikan_code 4) m (path_of (solution k s) us x)))

  -- So the score is the difference of two of these.
  pub kernel-score : (s : ℕ) → s < 16 → (us : List Bool) → length us ≡ s
      → score (kernel_code k) m us ≡ best_path k m (suc s) (us ++ (false ∷ [])) -ℤ best_path k m (suc s) (us ++ (true ∷ []))
  unfolding score
  kernel-score s ls us e = ap₂ ◌-ℤ◌ (kernel-best (suc s) (omega arith) (us ++ (false ∷ [])) (next false)) (kernel-best (suc s) (omega arith) (us ++ (true ∷ [])) (next true))
    where
      next : (b : Bool) → length (us ++ (b ∷ [])) ≡ suc s
      next b = length-append us (b ∷ []) ∙ add-one (length us) ∙ ap suc e
