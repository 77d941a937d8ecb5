-- Proof side: a frame's word by one stage for each layer, innermost first, and the kernels that undo it. Assumes nothing.
use Rattle.std.specs.Prelude.{Bool, ◌&&◌, ℕ, zero, suc, ◌+◌, ◌*◌, ◌/◌, ◌%◌}
use Rattle.base.specs.Bit.{parity}
use Rattle.polar.specs.Kernel.{Kernel, Invertible, inverted}
use Rattle.polar.specs.Frame.{extent}

-- One layer, in blocks of w × n bits: bit j of the w words of n bits chooses rows of B, and their sum stands at w places from wj on.
abbrev pub stage : ℕ → ℕ → (ℕ → ℕ → Bool) → (ℕ → Bool) → ℕ → Bool
stage n w B x p = parity w (λ r. x (w * n * (p / (w * n)) + (n * r + p / w % n)) && B r (p % w))

-- The stages of m layers.
unfoldable pub stages : (ℕ → Kernel) → ℕ → (ℕ → Bool) → ℕ → Bool
stages K zero x = x
stages K (suc m) x = stage (extent K m) (K m).dim (K m).entry (stages K m x)

-- The inverse kernels in the other order.
abbrev pub backward : (K : ℕ → Kernel) → ((i : ℕ) → Invertible (K i)) → ℕ → ℕ → Kernel
backward K v zero i = inverted (K i) (v i)
backward K v (suc m) zero = inverted (K m) (v m)
backward K v (suc m) (suc i) = backward K v m i
