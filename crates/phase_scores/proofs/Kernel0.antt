-- The phases of kernel 0, which has no window: each score is the value of its v. Assumes nothing.
use mathlib.Core.Path.{◌≡◌, refl, sym, ap, ap₂, ◌∙◌}
use mathlib.Core.Bool.{Bool}
use mathlib.Core.List.{List, [], ◌∷◌, ◌++◌, append-nil}
use Prim.Native.Nat.{ℕ, zero, suc, ◌≤◌, ◌<◌}
use native.Mathlib.Numerals.{add-one}
use native.Mathlib.Omega.{arith}
use lib.IntN.{ℤ}
use lib.ListN.{length, length-append}
use Rattle.base.specs.Bit.{bit, tabulate}
use Rattle.base.proofs.Bool.{⊕-false}
use Rattle.base.proofs.List.{tabulate-at, tabulate-bits}
use Rattle.polar.specs.Code.{channel, score}
use Rattle.polar.specs.Relation.{sum_of, symbols}
use Rattle.polar.specs.Window.{path_of}
use Rattle.kernel.specs.Kernels.{kernel_code}
use Rattle.windows.specs.Windows.{windows, solutions, solution}
use Rattle.values.specs.Arikan.{arikan_score}
use Rattle.phase_scores.specs.Quarter.{at}
use Rattle.phase_scores.proofs.Paths.{single-score}

-- Symbols that are single v.
single-symbols : (n : ℕ) (f : ℕ → ℕ) (v : List Bool) → symbols (tabulate n (λ j. f j ∷ [])) v ≡ tabulate n (λ j. bit v (f j))
unfolding symbols sum_of tabulate
single-symbols zero f v = refl
single-symbols (suc n) f v = ap₂ (λ b (l : List Bool). b ∷ l) (⊕-false (bit v (f zero))) (single-symbols n (λ j. f (suc j)) v)

-- The path of kernel 0 is the symbols.
path0 : (n : ℕ) → n ≤ 16 → (v : List Bool) → length v ≡ n → path_of (solution 0 n) v [] ≡ v
unfolding solutions
path0 n l v e =
    ap₂ symbols (tabulate-at 17 (λ i. tabulate i (λ j. j ∷ [])) n [] (omega arith)) (append-nil v)
    ∙ single-symbols n (λ j. j) v
    ∙ ap (λ n. tabulate n (bit v)) (sym e)
    ∙ tabulate-bits v

pub score0 : (ys : List ℤ) (us : List Bool) → length us < 16 → score (kernel_code 0) (channel ys) us ≡ arikan_score 4 (at ys) us
unfolding windows
score0 ys us l =
    single-score 0 (omega arith) ys (length us) l us refl refl us l
    (λ b. path0 (suc (length us)) (omega arith) (us ++ (b ∷ [])) (length-append us (b ∷ []) ∙ add-one (length us)))
