-- Proof side: paths of a wide window, by their numbers, and the values that they have in common. Assumes nothing.
use Rattle.std.specs.Prelude.{◌≡◌, Bool, true, false, List, ℕ, zero, suc, ◌+◌, ◌-◌, ◌*◌, leb, ℤ, pos, get_or}
use Rattle.base.specs.Bit.{◌⊕◌, bit, digit}
use Rattle.values.specs.Value.{greater, turned, free_value, known_value, best_of}

-- The number of a path, from d = v6, g = v5 and a = v5 + v6 + v7 (and v3, where that is free).
abbrev pub path_number : Bool → Bool → Bool → ℕ
path_number d g a = 4 * digit d + 2 * digit g + digit a

-- What a path adds to the word at place i of four.
abbrev pub path_bit : Bool → Bool → Bool → ℕ → Bool
path_bit d g a zero = a
path_bit d g a (suc zero) = a ⊕ d
path_bit d g a (suc (suc zero)) = a ⊕ g
path_bit d g a (suc (suc (suc i))) = (a ⊕ d) ⊕ g

-- The same at place i of eight, where v3 adds o.
abbrev pub path_bits : Bool → Bool → Bool → Bool → ℕ → Bool
path_bits o d g a i = elim (leb 4 i) [ true ↦ path_bit d g a (i - 4) ⊕ o | false ↦ path_bit d g a i ]

-- Place i of four, under bit b.
abbrev pub place_at : List ℤ → ℕ → Bool → ℤ
place_at x i b = get_or x (4 * digit b + i) (pos 0)

-- Places 0 and 2, and places 1 and 3, of a path, folded free.
abbrev pub even_free : List ℤ → Bool → Bool → ℤ
even_free x g a = free_value (place_at x 0 a) (place_at x 2 (a ⊕ g))

abbrev pub odd_free : List ℤ → Bool → Bool → ℤ
odd_free x g a = free_value (place_at x 1 a) (place_at x 3 (a ⊕ g))

-- The same with the bits of the first ones known.
abbrev pub even_known : List ℤ → Bool → Bool → Bool → ℤ
even_known x c g a = known_value c (place_at x 0 a) (place_at x 2 (a ⊕ g))

abbrev pub odd_known : List ℤ → Bool → Bool → Bool → ℤ
odd_known x c g a = known_value c (place_at x 1 a) (place_at x 3 (a ⊕ g))

-- The value of v8 for a path,
abbrev pub value8 : List ℤ → Bool → Bool → Bool → ℤ
value8 x d g a = free_value (even_free x g a) (odd_free x g (a ⊕ d))

-- of v6 + v9 after v8,
abbrev pub value9 : List ℤ → Bool → Bool → Bool → Bool → ℤ
value9 x v8 d g a = turned d (known_value v8 (even_free x g a) (odd_free x g (a ⊕ d)))

-- of v5 + v6 + v10 after v8 and u = v6 + v9,
abbrev pub value10 : List ℤ → Bool → Bool → Bool → Bool → Bool → ℤ
value10 x v8 u d g a = turned (g ⊕ d) (free_value (even_known x ((v8 ⊕ u) ⊕ d) g a) (odd_known x (u ⊕ d) g (a ⊕ d)))

-- of v11 after these and t = v5 + v6 + v10,
abbrev pub value11 : List ℤ → Bool → Bool → Bool → Bool → Bool → Bool → ℤ
value11 x v8 u t d g a = known_value (t ⊕ (g ⊕ d)) (even_known x ((v8 ⊕ u) ⊕ d) g a) (odd_known x (u ⊕ d) g (a ⊕ d))

-- Place i of four under bit b of the first half's word and bit c of the next word,
abbrev pub after_at : List ℤ → ℕ → Bool → Bool → ℤ
after_at t i c b = get_or t (8 * digit c + (4 * digit b + i)) (pos 0)

-- and the value of v12.
abbrev pub value12 : List ℤ → Bool → Bool → Bool → ℤ
value12 t d g a =
    free_value
    (free_value (after_at t 0 g a) (after_at t 2 (g ⊕ d) (a ⊕ g)))
    (free_value (after_at t 1 d (a ⊕ d)) (after_at t 3 false ((a ⊕ d) ⊕ g)))

-- The greatest of a row of eight.
abbrev pub row_best : List ℤ → ℤ
row_best row = best_of 3 (λ t. get_or row (path_number (bit t 0) (bit t 1) (bit t 2)) (pos 0))

-- The entry of a path in a row of eight.
abbrev pub entry : List ℤ → Bool → Bool → Bool → ℤ
entry row d g a = get_or row (path_number d g a) (pos 0)

-- A row by a function of v5, v6 and v7, where a is the sum of them and o.
abbrev pub RowOf : Bool → (Bool → Bool → Bool → ℤ) → List ℤ → Type 0
RowOf o F row = (d g a : Bool) → entry row d g a ≡ F g d (((a ⊕ d) ⊕ g) ⊕ o)

-- The greatest of the two entries with this v6 and this v5, and of the four with this v6.
abbrev pub pair_best : List ℤ → Bool → Bool → ℤ
pair_best row d g = greater (entry row d g false) (entry row d g true)

abbrev pub four_best : List ℤ → Bool → ℤ
four_best row d = greater (pair_best row d false) (pair_best row d true)
