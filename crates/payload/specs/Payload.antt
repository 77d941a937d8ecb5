-- Payload bits and the marked phases of a mask: the phases of the information set. The others are frozen. Assumes nothing.
use Rattle.std.specs.Prelude.{Bool, true, false, List, [], ◌∷◌, ℕ, suc}

-- How many bits are set.
unfoldable pub ones : List Bool → ℕ
ones [] = 0
ones (true ∷ l) = suc (ones l)
ones (false ∷ l) = ones l

-- The symbols: the payload's bits at the marked phases in rising order, 0 at all others.
unfoldable pub spread : List Bool → List Bool → List Bool
spread [] p = []
spread (false ∷ m) p = false ∷ spread m p
spread (true ∷ m) [] = false ∷ spread m []
spread (true ∷ m) (b ∷ p) = b ∷ spread m p

-- The symbols at the marked phases, in rising order.
unfoldable pub gather : List Bool → List Bool → List Bool
gather [] u = []
gather (false ∷ m) [] = gather m []
gather (false ∷ m) (b ∷ u) = gather m u
gather (true ∷ m) [] = false ∷ gather m []
gather (true ∷ m) (b ∷ u) = b ∷ gather m u

-- The lowest unmarked phase whose symbol is 1, or the number of phases where there is none.
unfoldable pub frozen_one : List Bool → List Bool → ℕ
frozen_one [] u = 0
frozen_one (true ∷ m) [] = suc (frozen_one m [])
frozen_one (true ∷ m) (b ∷ u) = suc (frozen_one m u)
frozen_one (false ∷ m) [] = suc (frozen_one m [])
frozen_one (false ∷ m) (true ∷ u) = 0
frozen_one (false ∷ m) (false ∷ u) = suc (frozen_one m u)
