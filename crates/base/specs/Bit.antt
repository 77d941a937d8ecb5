-- Bits, lists of bits, and what is said of all indices below a number. Assumes nothing.
use Rattle.std.specs.Prelude.{Bool, true, false, not, ◌&&◌, List, [], ◌∷◌, ℕ, zero, suc, ◌%◌, eqb, get_or}

infixl 33 ◌⊕◌
-- The sum of two bits, modulo 2.
abbrev pub ◌⊕◌ : Bool → Bool → Bool
true ⊕ b = not b
false ⊕ b = b

-- A bit as a number: 1 where it is set, else 0.
abbrev pub digit : Bool → ℕ
digit false = 0
digit true = 1

-- Whether a number is odd.
abbrev pub odd : ℕ → Bool
odd x = eqb (x % 2) 1

-- Bit i of a list, 0 past its end.
abbrev pub bit : List Bool → ℕ → Bool
bit u i = get_or u i false

-- f 0 + f 1 + .. + f (n - 1), modulo 2.
unfoldable pub parity : ℕ → (ℕ → Bool) → Bool
parity zero f = false
parity (suc n) f = f zero ⊕ parity n (λ i. f (suc i))

-- The list f 0, f 1, .., f (n - 1).
unfoldable pub tabulate {ℓ} : {X : Type ℓ} → ℕ → (ℕ → X) → List X
tabulate zero f = []
tabulate (suc n) f = f zero ∷ tabulate n (λ i. f (suc i))

-- Whether f i holds of every i below n.
unfoldable pub every : ℕ → (ℕ → Bool) → Bool
every zero f = true
every (suc n) f = f zero && every n (λ i. f (suc i))

-- Whether two lists of bits are the same.
unfoldable pub same : List Bool → List Bool → Bool
same [] [] = true
same [] (b ∷ v) = false
same (a ∷ u) [] = false
same (a ∷ u) (b ∷ v) = not (a ⊕ b) && same u v

-- The first list of n bits, in rising order, of which f holds; n ones where there is none.
unfoldable pub find : ℕ → (List Bool → Bool) → List Bool
find zero f = []
find (suc n) f =
    let t = find n (λ u. f (false ∷ u)) in
    elim (f (false ∷ t)) [ true ↦ false ∷ t | false ↦ true ∷ find n (λ u. f (true ∷ u)) ]
