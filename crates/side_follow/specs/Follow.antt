-- What sixteen kernels followed side by side answer and write, from their inputs alone. Assumes nothing.
use Rattle.std.specs.Prelude.{Bool, true, false, not, ◌&&◌, List, ◌++◌, ℕ, ◌+◌, ◌*◌, ◌/◌, ◌%◌, ltb, eqb, ℤ, pos, length, get_or, drop}
use Rattle.base.specs.Bit.{tabulate}
use Rattle.polar.specs.Code.{channel, score}
use Rattle.folds.specs.Range.{first_outside}
use Rattle.kernel.specs.Kernels.{kernel_code}
use Rattle.kernel.specs.Jobs.{is_kernel}
use Rattle.lane_phases.specs.Rows.{column}

-- What is accepted: a kernel, 256 values of at most 2047 in size, 16 planes, and room for 256 scores.
unfoldable pub side_accepted : ℕ → List ℤ → ℕ → ℕ → Bool
side_accepted k values planes room = is_kernel k && (eqb (length values) 256 && (eqb (first_outside 2047 values) 256 && (eqb planes 16 && not (ltb room 256))))

-- The sixteen values of lane l: place t has its own at 16 * t + l.
abbrev pub lane_values : List ℤ → ℕ → List ℤ
lane_values values l = tabulate 16 (λ t. get_or values (16 * t + l) (pos 0))

-- Score i is that of phase i / 16 in lane i % 16: of one kernel alone, over the lane's values and after its symbols before the
-- phase. Plane s has symbol s of every lane, lane 0 in the most significant bit.
abbrev pub side_score : ℕ → List ℤ → List ℕ → ℕ → ℤ
side_score k values planes i = score (kernel_code k) (channel (lane_values values (i % 16))) (column planes (i / 16) (i % 16))

-- Kernel number, values, planes and buffer to whether it was accepted, and the buffer afterwards: the first 256 scores are
-- written and what lies past them stays, or all stays.
unfoldable pub side_follow : ℕ → List ℤ → List ℕ → List ℤ → Bool × List ℤ
side_follow k values planes out =
    elim (side_accepted k values (length planes) (length out)) [ true ↦ (true, tabulate 256 (side_score k values planes) ++ drop 256 out) | false ↦ (false, out) ]
