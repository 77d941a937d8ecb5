-- Partial distances, the paper's profile numbers: the least count of ones in a row plus any sum of later rows. Assumes nothing.
use Rattle.std.specs.Prelude.{◌≡◌, true, false, [], ◌∷◌, ◌++◌, ℕ, ◌<◌, replicate}
use Rattle.base.specs.Bit.{digit}
use Rattle.polar.specs.Code.{Code, Costs, least}

-- A word pays 1 for each of its ones: its weight.
abbrev pub weight : Costs
weight i b = digit b

-- The partial distance of row s: the least count of ones in row s plus any sum of later rows. Row s is the word with only
-- symbol s set, so these are the words whose symbols begin with s zeros and a one. The paper's profile number D.
unfoldable pub partial_distance : Code → ℕ → ℕ
partial_distance C s = least C weight (replicate s false ++ (true ∷ []))

-- All symbols 0 make the word whose bits are all 0.
abbrev pub Zero : Code → Type 0
Zero C = (j : ℕ) → j < C.places → C.word (replicate C.size false) j ≡ false
