-- A row of eight paths from four places of a Hadamard transform. Assumes nothing.
use mathlib.Core.Path.{◌≡◌, sym, ap, ap₂, ◌∙◌}
use mathlib.Core.Bool.{Bool, false}
use mathlib.Core.List.{List}
use Prim.Native.Nat.{ℕ, ◌+◌, ◌*◌, ◌/◌, ◌^◌, ◌≤◌, ◌<◌}
use native.Mathlib.Omega.{arith}
use lib.Dec.{T}
use lib.IntN.{ℤ, pos, nat_abs, ◌+ℤ◌, ◌-ℤ◌}
use lib.ListN.{get_or}
use lib.Signed.{non_neg}
use Rattle.base.specs.Bit.{◌⊕◌, digit}
use Rattle.polar.specs.Code.{sum}
use Rattle.values.specs.Value.{turned, gain, Small}
use Rattle.value_folds.proofs.Sizes.{turned-small}
use Rattle.hadamard.specs.Transform.{int_sum, shared, transform}
use Rattle.hadamard.proofs.Butterfly.{transform-cong, transform-size}
use Rattle.hadamard.proofs.Sums.{int_sum-cong}
use Rattle.values.proofs.Numbers.{pair-below}
use Rattle.path_rows.proofs.Paid.{sum-most, lack-above, lack-half}

-- The sum of the sizes of the first n values.
abbrev pub sizes : ℕ → List ℤ → ℤ
sizes n values = pos (sum n (λ i. nat_abs (get_or values i (pos 0))))

-- What `path_row` asks of four places h of a transform, a sum of sizes n and a score b to count on from; and that it then gives
-- each path base and what the first k values add under the word and the path's bits.
pub record Row (k : ℕ) (values : List ℤ) (word : List Bool) (bits : Bool → Bool → Bool → ℕ → Bool) (base : ℤ) (h : List ℤ) (n b : ℤ) : Type 0 where
  pub asked : (Small 16777216 4 h × (nat_abs n ≤ 16777216) × (nat_abs b ≤ 16777216))
      × ((d g a : Bool) → T (non_neg (n -ℤ turned a (get_or h (2 * digit g + digit d) (pos 0)))))
  pub given : (d g a : Bool) → b -ℤ pos (nat_abs (n -ℤ turned a (get_or h (2 * digit g + digit d) (pos 0))) / 2)
      ≡ base +ℤ int_sum k (λ i. gain (get_or values i (pos 0)) (get_or word i false ⊕ bits d g a i))

-- 2 ^ t values of at most m in size, turned by a word.
module _ (t m : ℕ) (values : List ℤ) (word : List Bool) (turns : List ℤ) (room : 2 ^ t * m ≤ 16777216) (small : Small m (2 ^ t) values)
    (turns-are : (i : ℕ) → i < 2 ^ t → get_or turns i (pos 0) ≡ turned (get_or word i false) (get_or values i (pos 0))) where
  pub turns-small : Small m (2 ^ t) turns
  turns-small i l = rw (turns-are i l, turned-small (get_or word i false) (get_or values i (pos 0))) (small i l)

  pub sizes-small : nat_abs (sizes (2 ^ t) values) ≤ 16777216
  sizes-small = omega (arith, sum-most (2 ^ t) m (λ i. nat_abs (get_or values i (pos 0))) small)

  -- Four places of the transform, and bits of the paths that are those of the places;
  module _ (h : List ℤ) (place : ℕ → ℕ) (bits : Bool → Bool → Bool → ℕ → Bool)
      (h-are : (j : ℕ) → j < 4 → get_or h j (pos 0) ≡ transform t (λ x. get_or turns x (pos 0)) (place j))
      (bits_are : (d g a : Bool) (i : ℕ) → i < 2 ^ t → bits d g a i ≡ a ⊕ shared t (place (2 * digit g + digit d)) i) where
    row_small : Small 16777216 4 h
    row_small j l =
        rw (h-are j l)
        (omega (arith, transform-size t (λ x. get_or turns x (pos 0)) (place j), sum-most (2 ^ t) m (λ x. nat_abs (get_or turns x (pos 0))) turns-small))

    there : (d g : Bool) → get_or h (2 * digit g + digit d) (pos 0)
        ≡ transform t (λ x. turned (get_or word x false) (get_or values x (pos 0))) (place (2 * digit g + digit d))
    there d g = h-are (2 * digit g + digit d) (pair-below g d) ∙ transform-cong t (place (2 * digit g + digit d)) turns-are

    -- their row.
    pub row_of : (n b base : ℤ) → n ≡ sizes (2 ^ t) values → b ≡ base → nat_abs base ≤ 16777216 → Row (2 ^ t) values word bits base h n b
    row_of n b base en eb l =
        record {
          asked = (
            (row_small, rw en sizes-small, rw eb l),
            λ d g a. rw (en, there d g) (lack-above t (λ x. get_or values x (pos 0)) (λ x. get_or word x false) a (place (2 * digit g + digit d))),
          );
          given = λ d g a.
              ap₂ (λ x y. x -ℤ pos (nat_abs y / 2)) eb (ap₂ (λ x y. x -ℤ turned a y) en (there d g))
              ∙ lack-half t (λ x. get_or values x (pos 0)) (λ x. get_or word x false) a (place (2 * digit g + digit d)) base
              ∙ ap (λ z. base +ℤ z) (int_sum-cong (2 ^ t) (λ i l. ap (λ x. gain (get_or values i (pos 0)) (get_or word i false ⊕ x)) (sym (bits_are d g a i l))));
        }
