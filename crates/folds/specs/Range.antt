-- The range of channel values. Assumes nothing.
use Rattle.std.specs.Prelude.{true, false, List, [], ◌∷◌, ℕ, suc, leb, ℤ, nat_abs}

-- The limit of a value: a kernel's channel values go from minus this to this.
unfoldable pub value_limit : ℕ
value_limit = 32767

-- The lowest index whose value lies outside -limit to limit, or the number of values where there is none.
unfoldable pub first_outside : ℕ → List ℤ → ℕ
first_outside limit [] = 0
first_outside limit (y ∷ ys) = elim (leb (nat_abs y) limit) [ true ↦ suc (first_outside limit ys) | false ↦ 0 ]
