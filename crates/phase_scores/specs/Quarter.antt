-- Channel values, their folds by halves and by quarters, and the places of a wide window's block. Assumes nothing.
use Rattle.std.specs.Prelude.{◌≡◌, Bool, List, ℕ, ◌+◌, ◌<◌, ℤ, pos, get_or}
use Rattle.base.specs.Bit.{◌⊕◌}
use Rattle.values.specs.Value.{free_value, known_value}
use Rattle.values.specs.Path.{place_at}

-- Channel value i.
abbrev pub at : List ℤ → ℕ → ℤ
at ys i = get_or ys i (pos 0)

-- x has the places of a block under both bits, by the word w of the known v; o: the bit of the second of two places is the other one.
abbrev pub PlacesOf : List ℤ → (ℕ → Bool) → Bool → List ℤ → Type 0
PlacesOf ys w o x =
    (b : Bool) (i : ℕ) → i < 4
    → place_at x i b ≡ free_value (known_value (w i ⊕ b) (at ys i) (at ys (8 + i))) (known_value (w (4 + i) ⊕ (b ⊕ o)) (at ys (4 + i)) (at ys (12 + i)))

-- e has the free folds of sixteen values, or those by the word of the first eight v.
abbrev pub FreeHalf : List ℤ → List ℤ → Type 0
FreeHalf ys e = (i : ℕ) → i < 8 → at e i ≡ free_value (at ys i) (at ys (8 + i))

abbrev pub KnownHalf : List ℤ → (ℕ → Bool) → List ℤ → Type 0
KnownHalf ys w e = (i : ℕ) → i < 8 → at e i ≡ known_value (w i) (at ys i) (at ys (8 + i))

-- t has the free folds of eight values, or those by the word of four v.
abbrev pub FreeQuarter : List ℤ → List ℤ → Type 0
FreeQuarter e t = (i : ℕ) → i < 4 → at t i ≡ free_value (at e i) (at e (4 + i))

abbrev pub KnownQuarter : List ℤ → (ℕ → Bool) → List ℤ → Type 0
KnownQuarter e w t = (i : ℕ) → i < 4 → at t i ≡ known_value (w i) (at e i) (at e (4 + i))
