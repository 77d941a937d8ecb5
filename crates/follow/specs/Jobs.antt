-- What kernel follow answers and writes, from its inputs alone. Assumes nothing.
use Rattle.std.specs.Prelude.{not, List, [], ◌∷◌, ℕ, ltb, eqb, ℤ, length}
use Rattle.bits.specs.Packed.{bits}
use Rattle.answer.specs.Verdict.{Verdict, done, Check, condition, condition_at, settle, after}
use Rattle.polar.specs.Code.{channel}
use Rattle.polar.specs.Follow.{scores}
use Rattle.kernel.specs.Kernels.{kernel_code}
use Rattle.kernel.specs.Jobs.{is_kernel}
use Rattle.folds.specs.Range.{value_limit, first_outside}

-- The checks of kernel follow, in checking order: the kernel number, the length of the values, the room for the scores,
-- and a value outside minus `value_limit` to `value_limit`, the lowest such index being the place.
unfoldable pub kernel_follow_checks : ℕ → List ℤ → ℕ → List Check
kernel_follow_checks k values room =
    condition 1 (not (is_kernel k))
    ∷ condition 2 (not (eqb (length values) 16))
    ∷ condition 5 (ltb room 16)
    ∷ condition_at 6 (first_outside value_limit values) (ltb (first_outside value_limit values) (length values))
    ∷ []

-- Kernel follow: kernel number, sixteen values and sixteen symbols to sixteen scores. All of them are those of the kernel's code
-- over the costs of the channel values and the whole list of symbols.
unfoldable pub kernel_follow : ℕ → List ℤ → ℕ → List ℤ → Verdict × List ℤ
kernel_follow k values symbols out =
    let v = settle (kernel_follow_checks k values (length out)) done in
    (v, after v out (scores (kernel_code k) (channel values) (bits 16 symbols)))
