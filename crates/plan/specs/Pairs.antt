-- Proof side: the frame of two layers by the numbers of its kernels. Assumes nothing.
use Rattle.std.specs.Prelude.{ℕ}
use Rattle.polar.specs.Code.{Code}
use Rattle.polar.specs.Frame.{frame}
use Rattle.kernel.specs.Kernels.{kernel}

-- Inner kernel a, outer kernel b: c[16j+t] is the sum over r, s of u[16r+s] × A[s][j] × B[r][t], modulo 2.
abbrev pub frame_code : ℕ → ℕ → Code
frame_code a b = frame (kernel a) (kernel b)
