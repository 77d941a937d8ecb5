-- Proof side: what the parts that write into a buffer leave. Assumes nothing.
use Rattle.std.specs.Prelude.{◌≡◌, List, ◌++◌, ℕ, ◌+◌, length, take, drop}

-- A buffer with the bytes of xs from an index on, and all else as before.
abbrev pub stored : List ℕ → ℕ → List ℕ → List ℕ
stored xs at old = take at old ++ xs ++ drop (at + length xs) old

-- The bytes of xs were put at an index, and end at another.
abbrev pub Put : List ℕ → ℕ → ℕ → List ℕ → List ℕ → Type 0
Put xs at end old new = (end ≡ at + length xs) × (new ≡ stored xs at old)
