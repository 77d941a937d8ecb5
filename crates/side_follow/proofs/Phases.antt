-- Sixteen kernels followed side by side, phase after phase: what holds after s of them. Assumes nothing.
use mathlib.Core.Path.{◌≡◌, refl, ◌∙◌}
use mathlib.Core.List.{List, []}
use Prim.Native.Nat.{ℕ, ◌+◌, ◌≤◌, ◌<◌}
use native.Mathlib.Omega.{arith}
use lib.IntN.{ℤ, pos}
use lib.ListN.{length, get_or, set, length-set}
use Rattle.base.proofs.List.{each_next}
use Rattle.polar.specs.Code.{score}
use Rattle.kernel.specs.Kernels.{kernel_code}
use Rattle.lane.specs.Lanes.{lane_costs}
use Rattle.lane_phases.specs.Rows.{column, HeldLanes, KeptLanes}
use Rattle.lane_phases.proofs.Phases.{held_kept}

module _ (k : ℕ) (costs : List (List (List ℕ))) (planes : List ℕ) where
  -- After s phases: the rows of the last one are kept, and the scores of all of them written.
  pub record AfterSide (s : ℕ) (rows : List (List (List ℕ))) (out : List (List ℤ)) : Type 0 where
    pub within : s ≤ 16
    pub row_room : length rows ≡ 16
    pub room : length out ≡ 16
    pub kept-so : 0 < s → KeptLanes k costs planes s rows
    pub scores-so : (i : ℕ) → i < s → (l : ℕ) → l < 16 → get_or (get_or out i []) l (pos 0) ≡ score (kernel_code k) (lane_costs costs l) (column planes i l)

  -- Before the first phase.
  pub no-phase : (rows : List (List (List ℕ))) (out : List (List ℤ)) → length rows ≡ 16 → length out ≡ 16 → AfterSide 0 rows out
  no-phase rows out lr lo = record {
    within = omega arith;
    row_room = lr;
    room = lo;
    kept-so = λ l. absurd (omega arith);
    scores-so = λ i l. absurd (omega arith);
  }

  -- One phase more.
  pub phase-next : (s : ℕ) → s < 16 → (rows₀ : List (List (List ℕ))) (out : List (List ℤ)) → AfterSide s rows₀ out
      → (rows : List (List (List ℕ))) → length rows ≡ 16 → HeldLanes k costs planes s rows
      → (row : List ℤ) → ((l : ℕ) → l < 16 → get_or row l (pos 0) ≡ score (kernel_code k) (lane_costs costs l) (column planes s l))
      → AfterSide (s + 1) rows (set out s row)
  phase-next s ls rows₀ out g rows lr h row is = record {
    within = omega arith;
    row_room = lr;
    room = length-set out s row ∙ g.room;
    kept-so = λ _. held_kept k costs planes planes s rows (λ i _. refl) h;
    scores-so = each_next (λ i (x : List ℤ). (l : ℕ) → l < 16 → get_or x l (pos 0) ≡ score (kernel_code k) (lane_costs costs l) (column planes i l)) out s [] row
        (omega (arith, g.room)) g.scores-so is;
  }
