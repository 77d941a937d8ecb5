-- Demand 3 for kernel follow: what is true of the scores that it leaves. Assumes nothing.
use Rattle.std.specs.Prelude.{◌≡◌, List, ℕ, ◌≤◌, ◌<◌, ℤ, pos, length, get_or, drop}
use Rattle.bits.specs.Packed.{bits}
use Rattle.polar.specs.Code.{channel}
use Rattle.polar.specs.Exact.{ExactScore}
use Rattle.kernel.specs.Kernels.{kernel_code}

-- The buffer old became new by following the sixteen symbols: at every phase the score written there is exact, over all words of
-- the kernel. There is room for sixteen scores, and what lies past them stays.
pub record KernelExact (k : ℕ) (values : List ℤ) (symbols : ℕ) (old new : List ℤ) : Type 0 where
  pub score-exact : (i : ℕ) → i < 16 → ExactScore (kernel_code k) (channel values) (bits 16 symbols) i (get_or new i (pos 0))
  pub room : 16 ≤ length new
  pub rest : drop 16 new ≡ drop 16 old
