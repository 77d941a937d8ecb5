-- Least totals and scores of the kernels as closed terms, by the folds of a window's paths. Assumes nothing.
use mathlib.Core.Path.{◌≡◌, refl, ap, ap₂, ◌∙◌, fun_ext}
use mathlib.Core.Bool.{Bool, true, false, ◌&&◌}
use mathlib.Core.List.{List, [], ◌∷◌, ◌++◌}
use Prim.Native.Nat.{ℕ, suc, ◌-◌, ◌^◌, ◌≤◌, ◌<◌}
use native.Mathlib.Omega.{arith}
use lib.IntN.{ℤ, sub_ℕ}
use lib.ListN.{length, take}
use lib.Seq.{length-take-le}
use Rattle.base.specs.Bit.{bit, tabulate, parity}
use Rattle.base.proofs.List.{tabulate-at, tabulate-cong}
use Rattle.bits.specs.Packed.{bits}
use Rattle.bits.proofs.Packed.{length-bits}
use Rattle.polar.specs.Code.{Costs, least}
use Rattle.polar.specs.Follow.{scores}
use Rattle.polar.specs.Window.{path_of}
use Rattle.polar.specs.Fold.{folded, blocks}
use Rattle.polar.proofs.Least.{score-least}
use Rattle.polar.proofs.Folded.{least-folded}
use Rattle.folds.specs.Rows.{least_to}
use Rattle.kernel.specs.Kernels.{kernel_code}
use Rattle.windows.specs.Windows.{window, solution}
use Rattle.windows.specs.Tables.{shape_at}
use Rattle.windows.proofs.Tables.{shaped}
use Rattle.windows.proofs.Paths.{path-long}
use Rattle.windows.proofs.Steps.{by-paths}

-- The words of the known halves of the path q, and last its last bit: n are known before it.
abbrev pub halves : ℕ → List Bool → List Bool
halves n q = tabulate (suc n) (λ j. parity (suc n) (λ a. bit q a && blocks 4 n a j))

-- The least total of the words whose v begin with q, by four folds.
unfoldable pub path_by : ℕ → Costs → List Bool → ℕ
path_by n m q = let h = halves n q in folded 4 n (bit h) m 0 (bit h n)

-- The least total of kernel k's words that begin with us and b: the least over the paths of the window.
unfoldable pub least_by_paths : ℕ → Costs → List Bool → Bool → ℕ
least_by_paths k m us b =
    let s : ℕ = length us in
    let d : ℕ = length (window k (suc s)) in
    least_to (λ w. path_by (shape_at k s 0) m (path_of (solution k (suc s)) (us ++ (b ∷ [])) (bits d w))) (2 ^ d - 1)

-- It is the least total.
pub least_by : (k : ℕ) → k < 3 → (m : Costs) (us : List Bool) → length us < 16 → (b : Bool) → least (kernel_code k) m (us ++ (b ∷ [])) ≡ least_by_paths k m us b
unfolding least_by_paths path_by
least_by k lk m us lu b =
    let s : ℕ = length us in
    let d : ℕ = length (window k (suc (length us))) in
    let t = shaped k (length us) lk lu in
    let q : ℕ → List Bool = λ w. path_of (solution k (suc s)) (us ++ (b ∷ [])) (bits d w) in
    by-paths k s lk lu m us refl b
    ∙ ap (λ (f : ℕ → ℕ). least_to f (2 ^ d - 1)) (fun_ext (λ w.
    least-folded 4 (shape_at k s 0) m (q w) (bit (halves (shape_at k s 0) (q w)))
    (path-long k s (shape_at k s 0) us (bits d w) refl (length-bits d w ∙ t.wide) (omega (arith, t.low)) t.reached t.high t.wide lu b)
    (omega (arith, t.low)) (λ j lj. tabulate-at (suc (shape_at k s 0)) _ j false (omega arith))))

-- The score of each phase of the symbols u, by these.
unfoldable pub scores_by : ℕ → Costs → List Bool → List ℤ
scores_by k m u = tabulate (length u) (λ i. sub_ℕ (least_by_paths k m (take i u) true) (least_by_paths k m (take i u) false))

-- They are the scores.
pub scores-by : (k : ℕ) → k < 3 → (m : Costs) (u : List Bool) → length u ≤ 16 → scores (kernel_code k) m u ≡ scores_by k m u
unfolding scores scores_by
scores-by k lk m u lu =
    tabulate-cong (length u) (λ i l.
    let p = take i u in
    let few : length p < 16 = omega (arith, length-take-le i u (omega arith)) in
    score-least (kernel_code k) m p ∙ ap₂ sub_ℕ (least_by k lk m p few true) (least_by k lk m p few false))
