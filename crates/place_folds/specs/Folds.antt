-- Proof side: one fold, where the bit of the first half may be known. Assumes nothing.
use Rattle.std.specs.Prelude.{Bool, ℕ, Option, Some, None}
use Rattle.polar.specs.Code.{Costs}
use Rattle.polar.specs.Fold.{free_fold, known_fold}

-- What a fold of costs leaves at a place where the bit of its first half is known, or is not.
abbrev pub bit_fold : Option Bool → ℕ → Costs → Costs
bit_fold (Some b) n c = known_fold n (λ _. b) c
bit_fold None n c = free_fold n c
