-- The greatest of a row of paths, in the order of the window. Assumes nothing.
use mathlib.Core.Path.{◌≡◌, refl, ap, ap₂, ◌∙◌}
use mathlib.Core.Bool.{Bool, true, false}
use mathlib.Core.List.{List, [], ◌∷◌, ◌++◌}
use Prim.Native.Nat.{ℕ, suc, ◌<◌}
use native.Mathlib.Omega.{arith}
use lib.IntN.{ℤ, neg_ℤ, ◌+ℤ◌, ◌-ℤ◌, neg_ℤ-neg_ℤ, neg_ℤ-+ℤ, +ℤ_comm}
use lib.ListN.{length}
use Rattle.base.specs.Bit.{◌⊕◌, bit}
use Rattle.base.proofs.Bool.{⊕-false}
use Rattle.polar.specs.Code.{channel, score}
use Rattle.polar.specs.Window.{path_of}
use Rattle.kernel.specs.Kernels.{kernel_code}
use Rattle.windows.specs.Windows.{window, solution}
use Rattle.values.specs.Value.{greater, turned, best_of}
use Rattle.values.specs.Arikan.{arikan_score}
use Rattle.values.specs.Path.{entry, pair_best, four_best, row_best, RowOf}
use Rattle.values.proofs.Greater.{greater-comm, greater-swap, best-cong}
use Rattle.phase_scores.proofs.Scores.{kernel-score}
use Rattle.phase_scores.specs.Quarter.{at}
use Rattle.phase_scores.proofs.Block.{best, value-is}

module _ (F : Bool → Bool → Bool → ℤ) (row : List ℤ) where
  -- A pair of a row, whichever of the two comes first.
  pub pair_of : (o : Bool) → RowOf o F row → (d g : Bool) → pair_best row d g ≡ greater (F g d false) (F g d true)
  pair_of o h d g = ap₂ greater (h d g false) (h d g true) ∙ go o d g
    where
      go : (o d g : Bool) → greater (F g d (((false ⊕ d) ⊕ g) ⊕ o)) (F g d (((true ⊕ d) ⊕ g) ⊕ o)) ≡ greater (F g d false) (F g d true)
      go false false false = refl
      go false false true = greater-comm (F true false true) (F true false false)
      go false true false = greater-comm (F false true true) (F false true false)
      go false true true = refl
      go true false false = greater-comm (F false false true) (F false false false)
      go true false true = refl
      go true true false = refl
      go true true true = greater-comm (F true true true) (F true true false)

  pub four-of : (o : Bool) → RowOf o F row → (d : Bool) → four_best row d ≡ greater (greater (F false d false) (F false d true)) (greater (F true d false) (F true d true))
  four-of o h d = ap₂ greater (pair_of o h d false) (pair_of o h d true)

  -- The difference of a pair, by v7.
  pub last_of : (o : Bool) → RowOf o F row → (d g : Bool) → turned ((g ⊕ d) ⊕ o) (entry row d g false -ℤ entry row d g true) ≡ F g d false -ℤ F g d true
  last_of o h d g = ap₂ (λ x y. turned ((g ⊕ d) ⊕ o) (x -ℤ y)) (h d g false) (h d g true) ∙ go o d g
    where
      back : (x y : ℤ) → neg_ℤ (y -ℤ x) ≡ x -ℤ y
      back x y = neg_ℤ-+ℤ y (neg_ℤ x) ∙ ap (λ z. neg_ℤ y +ℤ z) (neg_ℤ-neg_ℤ x) ∙ +ℤ_comm (neg_ℤ y) x

      go : (o d g : Bool) → turned ((g ⊕ d) ⊕ o) (F g d (((false ⊕ d) ⊕ g) ⊕ o) -ℤ F g d (((true ⊕ d) ⊕ g) ⊕ o)) ≡ F g d false -ℤ F g d true
      go false false false = refl
      go false false true = back (F true false false) (F true false true)
      go false true false = back (F false true false) (F false true true)
      go false true true = refl
      go true false false = back (F false false false) (F false false true)
      go true false true = refl
      go true true false = refl
      go true true true = back (F true true false) (F true true true)

  -- The greatest of the row is that over the window's bits.
  pub row_of : (o : Bool) → RowOf o F row → row_best row ≡ best_of 3 (λ t. F (bit t 0) (bit t 1) (bit t 2))
  unfolding best_of
  row_of o h =
      ap₂ greater (four-of o h false) (four-of o h true)
      ∙ greater-swap
      (greater (F false false false) (F false false true)) (greater (F true false false) (F true false true))
      (greater (F false true false) (F false true true)) (greater (F true true false) (F true true true))

-- A sum that is taken off again.
pub twice : (t d c : Bool) → t ⊕ ((t ⊕ (d ⊕ c)) ⊕ d) ≡ c
twice false false c = ⊕-false c
twice false true false = refl
twice false true true = refl
twice true false false = refl
twice true false true = refl
twice true true false = refl
twice true true true = refl

-- v7 again, from a.
pub path-back : (g d z o : Bool) → (((((((g ⊕ d) ⊕ z) ⊕ o) ⊕ d) ⊕ g) ⊕ o) ≡ z)
path-back false false false false = refl
path-back false false false true = refl
path-back false false true false = refl
path-back false false true true = refl
path-back false true false false = refl
path-back false true false true = refl
path-back false true true false = refl
path-back false true true true = refl
path-back true false false false = refl
path-back true false false true = refl
path-back true false true false = refl
path-back true false true true = refl
path-back true true false false = refl
path-back true true false true = refl
path-back true true true false = refl
path-back true true true true = refl

-- ---- lists of a few bits

pub none_of : (Q : List Bool → Type 0) → Q [] → (t : List Bool) → length t ≡ 0 → Q t
none_of Q q [] e = q
none_of Q q (x ∷ t) e = absurd (omega arith)

pub one_of : (Q : List Bool → Type 0) → ((x : Bool) → Q (x ∷ [])) → (t : List Bool) → length t ≡ 1 → Q t
one_of Q q [] e = absurd (omega arith)
one_of Q q (x ∷ t) e = none_of (λ t. Q (x ∷ t)) (q x) t (omega arith)

pub two-of : (Q : List Bool → Type 0) → ((x y : Bool) → Q (x ∷ y ∷ [])) → (t : List Bool) → length t ≡ 2 → Q t
two-of Q q [] e = absurd (omega arith)
two-of Q q (x ∷ t) e = one_of (λ t. Q (x ∷ t)) (q x) t (omega arith)

pub three-of : (Q : List Bool → Type 0) → ((x y z : Bool) → Q (x ∷ y ∷ z ∷ [])) → (t : List Bool) → length t ≡ 3 → Q t
three-of Q q [] e = absurd (omega arith)
three-of Q q (x ∷ t) e = two-of (λ t. Q (x ∷ t)) (q x) t (omega arith)

pub four-bits-of : (Q : List Bool → Type 0) → ((w x y z : Bool) → Q (w ∷ x ∷ y ∷ z ∷ [])) → (t : List Bool) → length t ≡ 4 → Q t
four-bits-of Q q [] e = absurd (omega arith)
four-bits-of Q q (x ∷ t) e = three-of (λ t. Q (x ∷ t)) (q x) t (omega arith)

-- ---- the score of a phase

module _ (k : ℕ) (lk : k < 3) (ys : List ℤ) (s : ℕ) (ls : s < 16) (us : List Bool) (e : length us ≡ s) where
  -- By the paths of the window after it,
  pub phase-score : (n : ℕ) → length (window k (suc s)) ≡ n → (P : Bool → List Bool → List Bool)
      → ((b : Bool) (t : List Bool) → length t ≡ n → path_of (solution k (suc s)) (us ++ (b ∷ [])) t ≡ P b t)
      → score (kernel_code k) (channel ys) us ≡ best_of n (λ t. best ys (P false t)) -ℤ best_of n (λ t. best ys (P true t))
  phase-score n w P h =
      kernel-score k lk (channel ys) s ls us e
      ∙ ap₂ ◌-ℤ◌ (each false) (each true)
    where
      each : (b : Bool) → best_of (length (window k (suc s))) (λ t. best ys (path_of (solution k (suc s)) (us ++ (b ∷ [])) t)) ≡ best_of n (λ t. best ys (P b t))
      each b =
          ap (λ n. best_of n (λ t. best ys (path_of (solution k (suc s)) (us ++ (b ∷ [])) t))) w
          ∙ best-cong n _ _ (λ t l. ap (best ys) (h b t l))

  -- or, where that is one path and its last v the symbol, by the value of this v.
  pub single-score : length (window k (suc s)) ≡ 0 → (vs : List Bool) → length vs < 16
      → ((b : Bool) → path_of (solution k (suc s)) (us ++ (b ∷ [])) [] ≡ vs ++ (b ∷ []))
      → score (kernel_code k) (channel ys) us ≡ arikan_score 4 (at ys) vs
  unfolding best_of score
  single-score w vs l h = phase-score 0 w (λ b t. vs ++ (b ∷ [])) (λ b. none_of _ (h b)) ∙ value-is ys vs l
