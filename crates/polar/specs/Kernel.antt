-- Kernels: square matrices of bits, their codes, and what makes them invertible. Assumes nothing.
use Rattle.std.specs.Prelude.{◌≡◌, Bool, not, ◌&&◌, ◌||◌, ℕ, ◌/◌, ◌^◌, ◌<◌, eqb}
use Rattle.base.specs.Bit.{odd, bit, parity, every}
use Rattle.polar.specs.Code.{Code}

-- The code of a matrix with n rows and w columns: place j of the word of u is the sum over s of u[s] × M[s][j].
abbrev pub matrix : ℕ → ℕ → (ℕ → ℕ → Bool) → Code
matrix n w M = record { size = n; places = w; word = λ u j. parity n (λ s. bit u s && M s j) }

-- Entry s, j of the product of two matrices, the first with n columns.
abbrev pub product : ℕ → (ℕ → ℕ → Bool) → (ℕ → ℕ → Bool) → ℕ → ℕ → Bool
product n M N s j = parity n (λ k. M s k && N k j)

-- The product of the n × n matrices M and N is the unit matrix.
abbrev pub Inverse : ℕ → (ℕ → ℕ → Bool) → (ℕ → ℕ → Bool) → Type 0
Inverse n M N = (s j : ℕ) → s < n → j < n → product n M N s j ≡ eqb s j

-- Arikan's matrix of 2 ^ t rows: entry i, j is 1 exactly if every set bit of j is set in i. The paper's F for t = 4.
unfoldable pub arikan : ℕ → ℕ → ℕ → Bool
arikan t i j = every t (λ b. not (odd (j / 2 ^ b)) || odd (i / 2 ^ b))

-- A kernel: a square matrix; entry s, j is bit j of row s.
pub record Kernel : Type 0 where
  pub dim : ℕ
  pub entry : ℕ → ℕ → Bool

-- The kernel's words: sums of its rows.
abbrev pub code : Kernel → Code
code K = matrix K.dim K.dim K.entry

-- What makes a kernel invertible: a matrix that inverts it on both sides.
pub record Invertible (K : Kernel) : Type 0 where
  pub inverse : ℕ → ℕ → Bool
  pub right : Inverse K.dim K.entry inverse
  pub left : Inverse K.dim inverse K.entry

-- The kernel that undoes it.
abbrev pub inverted : (K : Kernel) → Invertible K → Kernel
inverted K i = record { dim = K.dim; entry = i.inverse }
