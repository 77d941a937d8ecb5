-- The entries of the next list: candidates of a marked phase, and paths after unmarked ones. Assumes nothing.
use Rattle.std.specs.Prelude.{◌≡◌, Bool, false, List, [], ◌∷◌, ◌++◌, ℕ, ◌+◌, ◌/◌, ◌≤◌, length, replicate}
use Rattle.base.specs.Bit.{odd}
use Rattle.path.specs.Path.{HasSymbols, path_at}
use Rattle.path.specs.declared.Path.{Path}

-- A path is candidate c of the records s at phase `at`: path c / 2 with the symbol 1 where c is odd, and with a penalty.
abbrev pub Candidate : ℕ → ℕ → ℕ → List ℕ → Path → Type 0
Candidate at c penalty s path =
    ((p : List Bool) → length p ≡ at → HasSymbols p (path_at (c / 2) s) → HasSymbols (p ++ (odd c ∷ [])) path) × (path.penalty ≡ penalty)

-- A path is another one after unmarked phases: their symbols are 0, and it has a penalty.
abbrev pub Frozen : ℕ → Path → Path → Type 0
Frozen penalty old new =
    ((p : List Bool) (d : ℕ) → length p + d ≤ 256 → HasSymbols p old → HasSymbols (p ++ replicate d false) new) × (new.penalty ≡ penalty)

-- What is read past the end of a list of paths.
abbrev pub no_path : Path
no_path = record { symbols = []; penalty = 0 }
