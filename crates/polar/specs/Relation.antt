-- Kernels given by relations: each symbol is a sum of the v, and the word is v times a matrix. Assumes nothing.
use Rattle.std.specs.Prelude.{Bool, false, ◌&&◌, List, [], ◌∷◌, map, ℕ, eqb, length}
use Rattle.base.specs.Bit.{◌⊕◌, bit, parity, tabulate, same, find}

-- A relation names the v whose sum is a symbol: v5+v6+v10 is 5 ∷ 6 ∷ 10 ∷ [].
abbrev pub Relation : Type 0
Relation = List ℕ

-- The sum of the v that a relation names.
unfoldable pub sum_of : Relation → List Bool → Bool
sum_of [] v = false
sum_of (i ∷ r) v = bit v i ⊕ sum_of r v

-- The symbols u of v, one for each relation.
unfoldable pub symbols : List Relation → List Bool → List Bool
symbols rs v = map (λ r. sum_of r v) rs

-- The v that the relations tie to the symbols u: the one whose symbols are u.
unfoldable pub tied : List Relation → List Bool → List Bool
tied rs u = find (length rs) (λ v. same (symbols rs v) u)

-- Bit j of the word of the symbols u: of vF, for that v.
unfoldable pub word_by : (ℕ → ℕ → Bool) → List Relation → List Bool → ℕ → Bool
word_by F rs u j = parity (length rs) (λ i. bit (tied rs u) i && F i j)

-- n symbols of which only symbol s is 1.
abbrev pub unit : ℕ → ℕ → List Bool
unit n s = tabulate n (λ i. eqb i s)

-- Row s of the kernel: the word with only symbol s set.
abbrev pub row : (ℕ → ℕ → Bool) → List Relation → ℕ → ℕ → Bool
row F rs s j = word_by F rs (unit (length rs) s) j
