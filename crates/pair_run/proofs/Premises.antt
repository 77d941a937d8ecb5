-- What each row asks for: numbers in range. Assumes nothing.
use mathlib.Core.Path.{◌≡◌, ap, ◌∙◌}
use mathlib.Core.Bool.{Bool, ◌&&◌}
use mathlib.Core.List.{List, []}
use Prim.Native.Nat.{ℕ, ◌*◌, ◌≤◌, ◌<◌, min}
use native.Mathlib.Nat.{le_trans}
use native.Mathlib.Omega.{arith}
use lib.IntN.{ℤ, pos, nat_abs}
use lib.ListN.{length, get_or}
use Rattle.base.specs.Bit.{bit}
use Rattle.base.proofs.Bool.{parity-cong}
use Rattle.bits.specs.Packed.{bits}
use Rattle.polar.specs.Code.{Costs, channel, least, score}
use Rattle.polar.specs.Kernel.{code}
use Rattle.polar.proofs.Least.{least-bound}
use Rattle.polar.proofs.Values.{score-bound}
use Rattle.folds.specs.Range.{value_limit, first_outside}
use Rattle.folds.proofs.Range.{outside-all}
use Rattle.folds.proofs.Signs.{channel-most}
use Rattle.kernel.specs.Kernels.{kernel, kernel_code}
use Rattle.kernel.specs.Rows.{row_sum, table}
use Rattle.kernel.proofs.Rows.{row-sum-at}
use Rattle.kernel.proofs.Table.{table-row}
use Rattle.run.proofs.Phases.{score-cong}
use Rattle.plan.specs.Pairs.{frame_code}
use Rattle.lane.specs.Lanes.{lane_costs, LanesWithin}
use Rattle.lane_phases.specs.Rows.{column}

-- The word of sixteen symbols, by the rows of the table.
pub word_of : (a x j : ℕ) → a < 3 → j < 16 → bit (bits 16 (row_sum (get_or table a []) x)) j ≡ (code (kernel a)).word (bits 16 x) j
word_of a x j la lj =
    row-sum-at (get_or table a []) x j lj ∙ parity-cong 16 (λ s ls. ap (λ c. bit (bits 16 x) s && c) (table-row a s j la ls lj))

-- The penalty of a frame is small.
pub penalty-small : (a b : ℕ) (ys : List ℤ) → first_outside 127 ys ≡ length ys → (u : List Bool) → least (frame_code a b) (channel ys) u ≤ 256 * 127
penalty-small a b ys e u = least-bound (frame_code a b) (channel ys) 127 (channel-most 127 ys e) u

-- Lanes within a bound are within a wider one.
pub lanes-wider : (m n : ℕ) (costs : List (List (List ℕ))) → m ≤ n → LanesWithin m costs → LanesWithin n costs
lanes-wider m n costs l h j lj i b li = le_trans (h j lj i b li) l

-- The scores of a kernel in a lane are small,
pub lane-small : (k n : ℕ) (costs : List (List (List ℕ))) → LanesWithin n costs → (j : ℕ) → j < 16 → (col : List Bool) → nat_abs (score (kernel_code k) (lane_costs costs j) col) ≤ 16 * n
lane-small k n costs within j l col =
    rw (score-cong (kernel_code k) {m = lane_costs costs j} {m' = cut} (λ t lt b. omega (arith, within t lt j b l)) col)
    (score-bound (kernel_code k) cut n (λ t b. omega arith) col)
  where
    cut : Costs
    cut t b = min n (lane_costs costs j t b)

-- so in range of the inner kernel.
pub outer-inside : (k n : ℕ) (costs : List (List (List ℕ))) → LanesWithin n costs → (planes : List ℕ) (r : ℕ) (found : List ℤ)
    → ((j : ℕ) → j < 16 → get_or found j (pos 0) ≡ score (kernel_code k) (lane_costs costs j) (column planes r j)) → length found ≡ 16
    → first_outside (16 * n) found ≡ length found
outer-inside k n costs within planes r found is lf =
    outside-all (16 * n) found (λ i l. let li : i < 16 = omega arith in rw (is i li) (lane-small k n costs within i li (column planes r i)))

-- A kernel's run has room for them, also where the values are the scores of a layer around: those are at most 2,032.
pub lanes-inside : 16 * 2032 ≤ value_limit
unfolding value_limit
lanes-inside = omega arith
