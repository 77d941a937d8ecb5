-- What an accepted request has, and what is left by one that is accepted and by one that is refused. Assumes nothing.
use mathlib.Core.Path.{◌≡◌, sym, ap, ◌∙◌}
use mathlib.Core.Bool.{true, false, and-eq-true_iff}
use mathlib.Core.List.{List, [], ◌++◌}
use Prim.Native.Nat.{ℕ, ◌/◌, ◌%◌, ◌≤◌, ◌<◌}
use native.Mathlib.Omega.{arith}
use borrow.Author.Tests.{not-true, eqb-true, ltb-false}
use lib.Dec.{eqb}
use lib.IntN.{ℤ, pos}
use lib.ListN.{length, get_or, drop}
use Rattle.base.specs.Bit.{tabulate}
use Rattle.base.proofs.List.{filled, tabulate-cong}
use Rattle.polar.specs.Code.{score}
use Rattle.folds.specs.Range.{first_outside}
use Rattle.kernel.specs.Kernels.{kernel_code}
use Rattle.kernel.specs.Jobs.{is_kernel}
use Rattle.kernel.proofs.Checks.{kernel-lt}
use Rattle.run.proofs.Phases.{score-cong}
use Rattle.lane.specs.Lanes.{lane_costs}
use Rattle.lane_phases.specs.Rows.{column}
use Rattle.side_follow.specs.Follow.{side_accepted, side_score, side_follow}
use Rattle.side_follow.specs.Rows.{phase_major}
use Rattle.side_follow.proofs.Values.{PaysLanes, lane-pays}

pub record Fitting (k : ℕ) (values : List ℤ) (planes room : ℕ) : Type 0 where
  pub known : k < 3
  pub count : length values ≡ 256
  pub inside : first_outside 2047 values ≡ 256
  pub plane-count : planes ≡ 16
  pub room-enough : 256 ≤ room

pub fitting : (k : ℕ) (values : List ℤ) (planes room : ℕ) → side_accepted k values planes room ≡ true → Fitting k values planes room
unfolding side_accepted
fitting k values planes room e =
    let a = (and-eq-true_iff (is_kernel k) _).0 e in
    let b = (and-eq-true_iff (eqb (length values) 256) _).0 a.1 in
    let c = (and-eq-true_iff (eqb (first_outside 2047 values) 256) _).0 b.1 in
    let d = (and-eq-true_iff (eqb planes 16) _).0 c.1 in
    record {
      known = kernel-lt k a.0;
      count = eqb-true (length values) 256 b.0;
      inside = eqb-true (first_outside 2047 values) 256 c.0;
      plane-count = eqb-true planes 16 d.0;
      room-enough = ltb-false room 256 (not-true _ d.1);
    }

-- A refused request leaves its buffer.
pub refused : (k : ℕ) (values : List ℤ) (planes : List ℕ) (out : List ℤ) → side_accepted k values (length planes) (length out) ≡ false
    → side_follow k values planes out ≡ (false, out)
unfolding side_follow
refused k values planes out e =
    ap (λ c. elim c [ true ↦ (true, tabulate 256 (side_score k values planes) ++ drop 256 out) | false ↦ (false, out) ]) e

-- An accepted one leaves the scores and what lies past them.
pub followed : (k : ℕ) (values : List ℤ) (planes : List ℕ) (out : List ℤ) → side_accepted k values (length planes) (length out) ≡ true
    → (costs : List (List (List ℕ))) → PaysLanes values costs → (given : List ℕ) → given ≡ planes → (found : List (List ℤ))
    → ((s l : ℕ) → s < 16 → l < 16 → get_or (get_or found s []) l (pos 0) ≡ score (kernel_code k) (lane_costs costs l) (column given s l))
    → (last : List ℤ) → last ≡ filled (phase_major found) 256 out → side_follow k values planes out ≡ (true, last)
unfolding side_follow
followed k values planes out e costs pays given eg found are last el =
    ap (λ c. elim c [ true ↦ (true, tabulate 256 (side_score k values planes) ++ drop 256 out) | false ↦ (false, out) ]) e
    ∙ ap (λ (l : List ℤ). (true, l)) (ap (λ (l : List ℤ). l ++ drop 256 out) (sym (tabulate-cong 256 same)) ∙ sym el)
  where
    same : (i : ℕ) → i < 256 → phase_major found i ≡ side_score k values planes i
    same i l =
        are (i / 16) (i % 16) (omega arith) (omega arith)
        ∙ ap (λ (p : List ℕ). score (kernel_code k) (lane_costs costs (i % 16)) (column p (i / 16) (i % 16))) eg
        ∙ score-cong (kernel_code k) (λ t lt b. lane-pays values costs pays (i % 16) (omega arith) t lt b) (column planes (i / 16) (i % 16))
