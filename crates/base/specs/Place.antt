-- What a search answers whose definition gives a place below n, or n where there is none. Assumes nothing.
use Rattle.std.specs.Prelude.{◌≡◌, ℕ, ◌<◌, Option, MatchOption}

-- The answer is the place where it lies below n, and else none.
abbrev pub FoundBelow : ℕ → ℕ → Option ℕ → Type 0
FoundBelow n place result = MatchOption result (place ≡ n) (λ i. (i < n) × (place ≡ i))
