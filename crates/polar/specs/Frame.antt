-- Frames of two layers and of any number, their words by one sum over the symbols. Assumes nothing.
use Rattle.std.specs.Prelude.{Bool, true, ◌&&◌, ℕ, zero, suc, ◌+◌, ◌*◌, ◌/◌, ◌%◌}
use Rattle.base.specs.Bit.{bit, parity}
use Rattle.polar.specs.Code.{Code}
use Rattle.polar.specs.Kernel.{Kernel}

-- The frame of an inner kernel A of n symbols and an outer kernel B of w:
-- c[wj+t] is the sum over r, s of u[nr+s] × A[s][j] × B[r][t].
abbrev pub frame : Kernel → Kernel → Code
frame A B = record {
  size = B.dim * A.dim;
  places = A.dim * B.dim;
  word = λ u p.
      parity B.dim (λ r. parity A.dim (λ s. bit u (A.dim * r + s) && A.entry s (p / B.dim) && B.entry r (p % B.dim)));
}

-- How many symbols a frame of the kernels K 0 to K (m - 1) has, K 0 being the innermost.
abbrev pub extent : (ℕ → Kernel) → ℕ → ℕ
extent K zero = 1
extent K (suc m) = (K m).dim * extent K m

-- The factor of symbol i at place p: a product over the layers.
-- The most significant digit of i and the least significant of p belong to the outermost layer.
abbrev pub factor : (ℕ → Kernel) → ℕ → ℕ → ℕ → Bool
factor K zero i p = true
factor K (suc m) i p = factor K m (i % extent K m) (p / (K m).dim) && (K m).entry (i / extent K m) (p % (K m).dim)

-- The frame of m layers: the bit at place p is the sum over i of u[i] × factor i p. Of no layer it is the symbol itself.
abbrev pub layers : (ℕ → Kernel) → ℕ → Code
layers K m = record { size = extent K m; places = extent K m; word = λ u p. parity (extent K m) (λ i. bit u i && factor K m i p) }
