-- Laws of matrices of bits: products, inverses, and the codes that they make. Assumes nothing.
use mathlib.Core.Path.{◌≡◌, refl, sym, ap, ◌∙◌}
use mathlib.Core.Bool.{Bool, true, false, ◌&&◌, and_assoc}
use Prim.Native.Nat.{ℕ, ◌<◌}
use lib.Dec.{eqb}
use Rattle.base.specs.Bit.{bit, parity}
use Rattle.base.proofs.Bool.{parity-cong, parity-and, and-parity, parity-swap, parity-only, same_table, same-table}
use Rattle.base.proofs.List.{tabulate-at}
use Rattle.polar.specs.Code.{Onto, UndoneBy}
use Rattle.polar.specs.Kernel.{matrix, product, Inverse, Kernel, code, Invertible, inverted}
use Rattle.polar.proofs.Undo.{undo-onto, Coder}

-- x M, and that by N, is x by the product of M and N.
pub product-word : (n k : ℕ) (M N : ℕ → ℕ → Bool) (x : ℕ → Bool) (j : ℕ)
    → parity k (λ i. parity n (λ s. x s && M s i) && N i j) ≡ parity n (λ s. x s && product k M N s j)
product-word n k M N x j =
    parity-cong k (λ i _. parity-and n (λ s. x s && M s i) (N i j) ∙ parity-cong n (λ s _. and_assoc (x s) (M s i) (N i j)))
    ∙ parity-swap k n (λ i s. x s && (M s i && N i j))
    ∙ parity-cong n (λ s _. and-parity k (x s) (λ i. M s i && N i j))

-- What M makes, its inverse undoes.
pub inverse-undoes : (n : ℕ) (M N : ℕ → ℕ → Bool) → Inverse n M N → (x : ℕ → Bool) (j : ℕ) → j < n
    → parity n (λ i. parity n (λ s. x s && M s i) && N i j) ≡ x j
inverse-undoes n M N inv x j l =
    product-word n n M N x j ∙ parity-cong n (λ s h. ap (λ b. x s && b) (inv s j h l)) ∙ parity-only n x j l

-- The product of two matrices is inverted by that of their inverses, exchanged.
pub product-inverse : (n : ℕ) (M N M' N' : ℕ → ℕ → Bool) → Inverse n M M' → Inverse n N N' → Inverse n (product n M N) (product n N' M')
product-inverse n M N M' N' m i s j ls lj =
    sym (product-word n n N' M' (λ k. product n M N s k) j)
    ∙ parity-cong n (λ k lk. ap (λ b. b && M' k j) (inverse-undoes n N N' i (M s) k lk))
    ∙ m s j ls lj

pub matrix-undo : (n : ℕ) (M N : ℕ → ℕ → Bool) → Inverse n M N → UndoneBy (matrix n n M) (matrix n n N)
matrix-undo n M N inv = record {
  back = refl;
  there = refl;
  undo = λ u e j l.
      parity-cong n (λ k h. ap (λ b. b && N k j) (tabulate-at n (λ k. parity n (λ s. bit u s && M s k)) k false h))
      ∙ inverse-undoes n M N inv (bit u) j l;
}

-- The inverse of an invertible kernel is invertible.
abbrev pub inverted-too : (K : Kernel) (i : Invertible K) → Invertible (inverted K i)
inverted-too K i = record { inverse = K.entry; right = i.left; left = i.right }

-- A kernel's code and the one that undoes it.
abbrev pub coder : (K : Kernel) → Invertible K → Coder
coder K i = record {
  enc = code K;
  dec = code (inverted K i);
  undo = matrix-undo K.dim K.entry i.inverse i.right;
  redo = matrix-undo K.dim i.inverse K.entry i.left;
}

-- Every word of a kernel's size is one of its words.
pub kernel-onto : (K : Kernel) → Invertible K → Onto (code K)
kernel-onto K i = undo-onto (code K) (code (inverted K i)) (coder K i).redo

-- The computed test of two matrices, and what it shows.
unfoldable pub inverse_test : ℕ → (ℕ → ℕ → Bool) → (ℕ → ℕ → Bool) → Bool
inverse_test n M N = same_table n n (product n M N) eqb

pub tested : (n : ℕ) (M N : ℕ → ℕ → Bool) → inverse_test n M N ≡ true → Inverse n M N
unfolding inverse_test
tested n M N t s j ls lj = same-table n n (product n M N) eqb t s j ls lj
