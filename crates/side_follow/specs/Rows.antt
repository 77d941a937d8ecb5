-- Proof side: rows of scores, one after another. Assumes nothing.
use Rattle.std.specs.Prelude.{List, [], ℕ, ◌/◌, ◌%◌, ℤ, pos, get_or}

-- Entry i % 16 of row i / 16.
abbrev pub phase_major : List (List ℤ) → ℕ → ℤ
phase_major rows i = get_or (get_or rows (i / 16) []) (i % 16) (pos 0)
