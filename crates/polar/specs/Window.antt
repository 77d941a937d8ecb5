-- Decoding windows of a kernel given by relations. Assumes nothing.
use Rattle.std.specs.Prelude.{◌≡◌, Bool, List, [], ◌∷◌, ◌++◌, map, ℕ, suc, ◌≤◌, ◌<◌, max, length, get_or}
use Rattle.base.specs.Bit.{bit}
use Rattle.polar.specs.Relation.{Relation, symbols}

-- How far a relation reaches: one more than the highest v that it uses.
unfoldable pub reach : Relation → ℕ
reach [] = 0
reach (i ∷ r) = max (suc i) (reach r)

-- How far some relations reach.
unfoldable pub height : List Relation → ℕ
height [] = 0
height (r ∷ rs) = max (reach r) (height rs)

-- What v has at some places.
unfoldable pub read_at : List ℕ → List Bool → List Bool
read_at places v = map (λ i. bit v i) places

-- A set of the v fixes the symbols of some relations: two v that agree on it and on these symbols agree up to the highest v that the relations use.
abbrev pub Fixes : List Relation → List ℕ → Type 0
Fixes rs set =
    (v w : List Bool) → read_at set v ≡ read_at set w → symbols rs v ≡ symbols rs w → (i : ℕ) → i < height rs → bit v i ≡ bit w i

-- A decoding window: a set up to the highest v that the relations use which fixes their symbols, such that no smaller set does.
pub record IsWindow (rs : List Relation) (window : List ℕ) : Type 0 where
  pub inside : (i : ℕ) → i < length window → get_or window i 0 < height rs
  pub fixes : Fixes rs window
  pub smallest : (set : List ℕ) → Fixes rs set → length window ≤ length set

-- Proof side: the path that the symbols us and the bits x at the window's places choose, by relations that give each v from both.
abbrev pub path_of : List Relation → List Bool → List Bool → List Bool
path_of sol us x = symbols sol (us ++ x)
