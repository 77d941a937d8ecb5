-- Proof side: two places in each lane, as four rows. Assumes nothing.
use Rattle.std.specs.Prelude.{List, [], ℕ, ◌+◌, ◌*◌, get_or}
use Rattle.base.specs.Bit.{digit}
use Rattle.polar.specs.Code.{Costs}

-- What the two pay in lane l: rows 0 and 1 are the first one's for bit 0 and bit 1, rows 2 and 3 the second one's.
abbrev pub two_costs : List (List ℕ) → ℕ → Costs
two_costs rows l i b = get_or (get_or rows (2 * i + digit b) []) l 0
