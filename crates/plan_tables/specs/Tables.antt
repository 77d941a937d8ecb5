-- Proof side: the tables of rows of a plan's layers. Assumes nothing.
use Rattle.std.specs.Prelude.{◌≡◌, List, [], ℕ, ◌-◌, ◌<◌, get_or}
use Rattle.kernel.specs.Rows.{table, inverse_table}
use Rattle.plan.specs.declared.Plan.{Plan}

-- The rows of the kernel of layer i,
abbrev pub layer_table : Plan → ℕ → List ℕ
layer_table p i = get_or table (get_or p.kernels i 0) []

-- and those of the inverse kernels, in the other order.
abbrev pub undoing_table : Plan → ℕ → List ℕ
undoing_table p i = get_or inverse_table (get_or p.kernels (p.layers - 1 - i) 0) []

-- The first m tables are those of f.
abbrev pub Tables : ℕ → (ℕ → List ℕ) → List (List ℕ) → Type 0
Tables m f tables = (i : ℕ) → i < m → get_or tables i [] ≡ f i
