-- Facts about bits that are computed for all of them. Assumes nothing.
use mathlib.Core.Path.{◌≡◌, refl}
use mathlib.Core.Bool.{Bool, true, false, not, ◌&&◌, and-eq-true_iff}
use mathlib.Core.List.{List, [], ◌∷◌}
use Prim.Native.Nat.{ℕ, zero, suc, ◌<◌}
use native.Mathlib.Omega.{arith}
use lib.ListN.{length}
use Rattle.base.specs.Bit.{◌⊕◌, bit, every}
use Rattle.base.proofs.Bool.{⊕-same, every-at}
use Rattle.values.specs.Arikan.{arikan_word}
use Rattle.values.specs.Path.{path_bit, path_bits}

-- Whether f holds of all lists of n bits.
unfoldable every_bits : ℕ → (List Bool → Bool) → Bool
every_bits zero f = f []
every_bits (suc n) f = every_bits n (λ v. f (false ∷ v)) && every_bits n (λ v. f (true ∷ v))

bits_at : (n : ℕ) (f : List Bool → Bool) → every_bits n f ≡ true → (v : List Bool) → length v ≡ n → f v ≡ true
unfolding every_bits
bits_at zero f t [] e = t
bits_at zero f t (b ∷ v) e = absurd (omega arith)
bits_at (suc n) f t [] e = absurd (omega arith)
bits_at (suc n) f t (false ∷ v) e = bits_at n _ ((and-eq-true_iff (every_bits n (λ v. f (false ∷ v))) _).0 t).0 v (omega arith)
bits_at (suc n) f t (true ∷ v) e = bits_at n _ ((and-eq-true_iff (every_bits n (λ v. f (false ∷ v))) _).0 t).1 v (omega arith)

-- What the known v and a path make of a word: in kernel 2, where v3 is known,
word2 : Bool → Bool → Bool → Bool → Bool → Bool → Bool → Bool → ℕ → Bool
word2 v0 v1 v2 v3 v4 d g a j =
    not (arikan_word 3 (v0 ∷ v1 ∷ v2 ∷ v3 ∷ v4 ∷ g ∷ d ∷ (((a ⊕ d) ⊕ g) ⊕ false) ∷ []) j
    ⊕ (arikan_word 3 (v0 ∷ v1 ∷ v2 ∷ v3 ∷ v4 ∷ false ∷ false ∷ false ∷ []) j ⊕ path_bits false d g a j))

-- in kernel 1, where it is free,
word1 : Bool → Bool → Bool → Bool → Bool → Bool → Bool → Bool → ℕ → Bool
word1 v0 v1 v2 v3 v4 d g a j =
    not (arikan_word 3 (v0 ∷ v1 ∷ v2 ∷ v3 ∷ v4 ∷ g ∷ d ∷ (((a ⊕ d) ⊕ g) ⊕ v3) ∷ []) j
    ⊕ (arikan_word 3 (v0 ∷ v1 ∷ v2 ∷ false ∷ v4 ∷ false ∷ false ∷ false ∷ []) j ⊕ path_bits v3 d g a j))

-- of the second four of kernel 2 alone,
four2 : Bool → Bool → Bool → Bool → ℕ → Bool
four2 v4 d g a j = not (arikan_word 2 (v4 ∷ g ∷ d ∷ (((a ⊕ d) ⊕ g) ⊕ false) ∷ []) j ⊕ (bit (v4 ∷ false ∷ false ∷ false ∷ []) j ⊕ path_bit d g a j))

-- and of v8 to v11, after u = v6 + v9 and t = v5 + v6 + v10.
abbrev pub next_bit : Bool → Bool → ℕ → Bool
next_bit d g zero = g
next_bit d g (suc zero) = d
next_bit d g (suc (suc zero)) = g ⊕ d
next_bit d g (suc (suc (suc i))) = false

next1 : Bool → Bool → Bool → Bool → Bool → Bool → ℕ → Bool
next1 v8 u t v11 d g j =
    not (arikan_word 2 (v8 ∷ (u ⊕ d) ∷ (t ⊕ (g ⊕ d)) ∷ v11 ∷ []) j ⊕ (bit (((v8 ⊕ u) ⊕ t) ∷ u ∷ t ∷ false ∷ []) j ⊕ (next_bit d g j ⊕ v11)))

tested2 : every_bits 8 (λ v. every 8 (word2 (bit v 0) (bit v 1) (bit v 2) (bit v 3) (bit v 4) (bit v 5) (bit v 6) (bit v 7))) ≡ true
unfolding word2 arikan_word every every_bits
tested2 = refl

tested1 : every_bits 8 (λ v. every 8 (word1 (bit v 0) (bit v 1) (bit v 2) (bit v 3) (bit v 4) (bit v 5) (bit v 6) (bit v 7))) ≡ true
unfolding word1 arikan_word every every_bits
tested1 = refl

tested4 : every_bits 4 (λ v. every 4 (four2 (bit v 0) (bit v 1) (bit v 2) (bit v 3))) ≡ true
unfolding four2 arikan_word every every_bits
tested4 = refl

tested-next : every_bits 6 (λ v. every 4 (next1 (bit v 0) (bit v 1) (bit v 2) (bit v 3) (bit v 4) (bit v 5))) ≡ true
unfolding next1 arikan_word every every_bits
tested-next = refl

module _ (v0 v1 v2 v3 v4 d g a : Bool) where
  pub path-word2 : (j : ℕ) → j < 8
      → arikan_word 3 (v0 ∷ v1 ∷ v2 ∷ v3 ∷ v4 ∷ g ∷ d ∷ (((a ⊕ d) ⊕ g) ⊕ false) ∷ []) j
      ≡ arikan_word 3 (v0 ∷ v1 ∷ v2 ∷ v3 ∷ v4 ∷ false ∷ false ∷ false ∷ []) j ⊕ path_bits false d g a j
  unfolding word2
  path-word2 j l = ⊕-same _ _ (every-at 8 (word2 v0 v1 v2 v3 v4 d g a) (bits_at 8 (λ v. every 8 (word2 (bit v 0) (bit v 1) (bit v 2) (bit v 3) (bit v 4) (bit v 5) (bit v 6) (bit v 7))) tested2 (v0 ∷ v1 ∷ v2 ∷ v3 ∷ v4 ∷ d ∷ g ∷ a ∷ []) refl) j l)

  pub path-word1 : (j : ℕ) → j < 8
      → arikan_word 3 (v0 ∷ v1 ∷ v2 ∷ v3 ∷ v4 ∷ g ∷ d ∷ (((a ⊕ d) ⊕ g) ⊕ v3) ∷ []) j
      ≡ arikan_word 3 (v0 ∷ v1 ∷ v2 ∷ false ∷ v4 ∷ false ∷ false ∷ false ∷ []) j ⊕ path_bits v3 d g a j
  unfolding word1
  path-word1 j l = ⊕-same _ _ (every-at 8 (word1 v0 v1 v2 v3 v4 d g a) (bits_at 8 (λ v. every 8 (word1 (bit v 0) (bit v 1) (bit v 2) (bit v 3) (bit v 4) (bit v 5) (bit v 6) (bit v 7))) tested1 (v0 ∷ v1 ∷ v2 ∷ v3 ∷ v4 ∷ d ∷ g ∷ a ∷ []) refl) j l)

pub four-word2 : (v4 d g a : Bool) (j : ℕ) → j < 4
    → arikan_word 2 (v4 ∷ g ∷ d ∷ (((a ⊕ d) ⊕ g) ⊕ false) ∷ []) j ≡ bit (v4 ∷ false ∷ false ∷ false ∷ []) j ⊕ path_bit d g a j
unfolding four2
four-word2 v4 d g a j l = ⊕-same _ _ (every-at 4 (four2 v4 d g a) (bits_at 4 (λ v. every 4 (four2 (bit v 0) (bit v 1) (bit v 2) (bit v 3))) tested4 (v4 ∷ d ∷ g ∷ a ∷ []) refl) j l)

pub next-word1 : (v8 u t v11 d g : Bool) (j : ℕ) → j < 4
    → arikan_word 2 (v8 ∷ (u ⊕ d) ∷ (t ⊕ (g ⊕ d)) ∷ v11 ∷ []) j ≡ bit (((v8 ⊕ u) ⊕ t) ∷ u ∷ t ∷ false ∷ []) j ⊕ (next_bit d g j ⊕ v11)
unfolding next1
next-word1 v8 u t v11 d g j l =
    ⊕-same _ _ (every-at 4 (next1 v8 u t v11 d g) (bits_at 6 (λ v. every 4 (next1 (bit v 0) (bit v 1) (bit v 2) (bit v 3) (bit v 4) (bit v 5))) tested-next (v8 ∷ u ∷ t ∷ v11 ∷ d ∷ g ∷ []) refl) j l)
