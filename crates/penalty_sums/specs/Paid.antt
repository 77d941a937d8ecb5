-- Proof side: what a phase pays, and the sums of it. Assumes nothing.
use Rattle.std.specs.Prelude.{◌≡◌, List, ◌++◌, ℕ, suc, ◌+◌, ◌*◌, ◌/◌, ◌%◌, ◌≤◌, ◌<◌, ℤ, pos, length, get_or, drop}
use Rattle.base.specs.Bit.{tabulate}
use Rattle.polar.specs.Code.{pay, sum}
use Rattle.kernel.specs.Rows.{row_bit}

-- What the score of phase i pays for its symbol, by rows of sixteen symbols.
abbrev pub paid_at : List ℤ → List ℕ → ℕ → ℕ
paid_at scores symbols i = pay (get_or scores i (pos 0)) (row_bit symbols (i / 16) (i % 16))

-- A list has what the phases of row r pay.
abbrev pub RowPaid : List ℤ → List ℕ → ℕ → List ℕ → Type 0
RowPaid scores symbols r paid = (j : ℕ) → j < 16 → get_or paid j 0 ≡ paid_at scores symbols (r * 16 + j)

-- The sums of n rows, and behind them what was there.
abbrev pub summed : (ℕ → ℕ) → ℕ → List ℕ → List ℕ
summed f n old = tabulate (n * 16) (λ i. sum (suc i) f) ++ drop (n * 16) old

-- There are n rows from the first on and room for their sums, start is the sum before them, and all sums fit.
abbrev pub Addable : ℕ → ℕ → ℕ → List ℤ → List ℕ → ℕ → Type 0
Addable n first start scores symbols room =
    (first + n ≤ 256) × ((first + n) * 16 ≤ length scores) × ((first + n) * 16 ≤ room)
    × (start ≡ sum (first * 16) (paid_at scores symbols)) × (sum ((first + n) * 16) (paid_at scores symbols) < 4294967296)

-- Where the sums of the rows before them stood, those of n rows more do.
abbrev pub Added : ℕ → ℕ → List ℤ → List ℕ → List ℕ → List ℕ → Type 0
Added n first scores symbols before after =
    (old : List ℕ) → before ≡ summed (paid_at scores symbols) first old → after ≡ summed (paid_at scores symbols) (first + n) old
