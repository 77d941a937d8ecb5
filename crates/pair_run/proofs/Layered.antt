-- A frame's least totals in a row, by the inner kernel over those of the outer ones; a kernel as a matrix and by its relations. Assumes nothing.
use mathlib.Core.Path.{◌≡◌, sym, ap, ap₂, ◌∙◌}
use mathlib.Core.Bool.{Bool, true, false}
use mathlib.Core.List.{List, [], ◌∷◌, ◌++◌}
use Prim.Native.Nat.{ℕ, ◌+◌, ◌-◌, ◌*◌, ◌≤◌, ◌<◌}
use native.Mathlib.Omega.{arith}
use lib.IntN.{ℤ, pos, neg_ℤ, ◌-ℤ◌}
use lib.ListN.{length, length-append}
use Rattle.polar.specs.Code.{Costs, channel, total, least, score}
use Rattle.polar.specs.Kernel.{code}
use Rattle.polar.specs.Stages.{rows, column, block, pairs}
use Rattle.polar.proofs.Minima.{sum-cong, minimum-cong}
use Rattle.polar.proofs.Least.{least-cong}
use Rattle.polar.proofs.Frame.{frame-least}
use Rattle.kernel.specs.Kernels.{kernel, kernel_code}
use Rattle.kernel.proofs.Solved.{invertible}
use Rattle.kernel.proofs.Undoing.{code-word}
use Rattle.plan.specs.Pairs.{frame_code}
use Rattle.lane.specs.Lanes.{lane_costs}

-- A kernel as a matrix and by its relations has the same leasts,
pub code-least : (k : ℕ) (m : Costs) (p : List Bool) → length p ≤ 16 → least (code (kernel k)) m p ≡ least (kernel_code k) m p
unfolding least total
code-least k m p l = minimum-cong (16 - length p) (λ t e. sum-cong 16 (λ i _. ap (m i) (code-word k (p ++ t) (length-append p t ∙ omega arith) i)))

-- and the same scores.
pub code-score : (k : ℕ) (m : Costs) (p : List Bool) → length p < 16 → score (code (kernel k)) m p ≡ score (kernel_code k) m p
unfolding score
code-score k m p l =
    ap₂ (λ x y. neg_ℤ (pos x) -ℤ neg_ℤ (pos y))
    (code-least k m (p ++ (false ∷ [])) (omega (arith, length-append p (false ∷ []))))
    (code-least k m (p ++ (true ∷ [])) (omega (arith, length-append p (true ∷ []))))

module _ (a b : ℕ) (ys : List ℤ) (costs : List (List (List ℕ)))
    (agree : (j t : ℕ) (c : Bool) → j < 16 → t < 16 → lane_costs costs j t c ≡ channel ys (16 * j + t) c)
    (r : ℕ) (lr : r < 16) (u : List Bool) (lu : length u ≡ r * 16) where
  U : List (List Bool)
  U = rows 16 r u

  -- The least totals of outer kernel j after its column, with either bit next.
  pub pair_is : (j : ℕ) → j < 16 → (col : List Bool) → length col < 16 → col ≡ column (code (kernel a)) (rows 16 r u) j
      → (c : Bool) → least (kernel_code b) (lane_costs costs j) (col ++ (c ∷ [])) ≡ pairs (code (kernel a)) (code (kernel b)) (channel ys) (rows 16 r u) j c
  unfolding pairs
  pair_is j lj col lc e c =
      least-cong (kernel_code b) (λ t lt d. agree j t d lj lt) (col ++ (c ∷ []))
      ∙ sym (code-least b (block 16 (channel ys) j) (col ++ (c ∷ [])) (omega (arith, length-append col (c ∷ []))))
      ∙ ap (λ (l : List Bool). least (code (kernel b)) (block 16 (channel ys) j) (l ++ (c ∷ []))) e

  -- Least totals in the row: the inner kernel over those pairs.
  pub row-least : (m : Costs) → ((j : ℕ) → j < 16 → (c : Bool) → m j c ≡ pairs (code (kernel a)) (code (kernel b)) (channel ys) (rows 16 r u) j c)
      → (p : List Bool) → length p ≤ 16 → least (kernel_code a) m p ≡ least (frame_code a b) (channel ys) (u ++ p)
  row-least m is p lp =
      sym (code-least a m p lp)
      ∙ least-cong (code (kernel a)) is p
      ∙ sym (frame-least (kernel a) (kernel b) (invertible a) (channel ys) r u p lu lr lp)
