-- How large the rows of a wide window and the places of its paths are. Assumes nothing.
use mathlib.Core.Path.{◌≡◌, sym, ◌∙◌}
use mathlib.Core.Bool.{Bool, true, false}
use mathlib.Core.List.{List}
use Prim.Native.Nat.{ℕ, ◌+◌, ◌*◌, ◌≤◌, ◌<◌}
use native.Mathlib.Omega.{arith}
use lib.IntN.{ℤ, pos, nat_abs}
use lib.ListN.{length, get_or}
use Rattle.base.specs.Bit.{◌⊕◌, digit}
use Rattle.polar.specs.Code.{channel, least}
use Rattle.polar.proofs.Least.{least-bound}
use Rattle.polar.proofs.Fold.{arikan_code}
use Rattle.folds.specs.Range.{value_limit, first_outside}
use Rattle.folds.proofs.Limit.{limit-room}
use Rattle.folds.proofs.Signs.{channel-most}
use Rattle.values.specs.Value.{known_value, Small}
use Rattle.values.specs.Arikan.{best_v}
use Rattle.values.specs.Path.{place_at, RowOf}
use Rattle.value_folds.proofs.Sizes.{neg_small, free-small, known_small}
use Rattle.phase_scores.specs.Quarter.{at, PlacesOf}
use Rattle.quarters.proofs.Bounds.{limit-small}
use Rattle.quarters.proofs.Index.{below-8}

module _ (ys : List ℤ) (e : length ys ≡ 16) (f : first_outside value_limit ys ≡ 16) where
  -- No best score is larger in size than sixteen times the largest value.
  pub best-small : (p : List Bool) → nat_abs (best_v ys p) ≤ 16 * value_limit
  best-small p = omega (arith, neg_small (pos (least (arikan_code 4) (channel ys) p)), least-bound (arikan_code 4) (channel ys) value_limit (channel-most value_limit ys (f ∙ sym e)) p)

  -- So a row of best scores has room,
  pub row_small : (o : Bool) (P : Bool → Bool → Bool → List Bool) (row : List ℤ) → RowOf o (λ x y z. best_v ys (P x y z)) row → Small 16777216 8 row
  row_small o P row h =
      below-8 (λ i. nat_abs (get_or row i (pos 0)) ≤ 16777216)
      (each false false false) (each false false true) (each false true false) (each false true true)
      (each true false false) (each true false true) (each true true false) (each true true true)
    where
      each : (d g a : Bool) → nat_abs (get_or row (4 * digit d + 2 * digit g + digit a) (pos 0)) ≤ 16777216
      each d g a = rw (h d g a) (omega (arith, limit-room, best-small (P g d (((a ⊕ d) ⊕ g) ⊕ o))))

  -- and so have the places of the paths.
  pub places-small : (w : ℕ → Bool) (o : Bool) (x : List ℤ) → PlacesOf ys w o x → Small 2097152 8 x
  places-small w o x h =
      below-8 (λ i. nat_abs (get_or x i (pos 0)) ≤ 2097152)
      (each false 0 (omega arith)) (each false 1 (omega arith)) (each false 2 (omega arith)) (each false 3 (omega arith))
      (each true 0 (omega arith)) (each true 1 (omega arith)) (each true 2 (omega arith)) (each true 3 (omega arith))
    where
      small : (i : ℕ) → i < 16 → nat_abs (at ys i) ≤ value_limit
      small = limit-small ys e f

      known : (b : Bool) (i j : ℕ) → i < 16 → j < 16 → nat_abs (known_value b (at ys i) (at ys j)) ≤ value_limit + value_limit
      known b i j li lj = known_small b (at ys i) (at ys j) value_limit value_limit (small i li) (small j lj)

      each : (b : Bool) (i : ℕ) → i < 4 → nat_abs (place_at x i b) ≤ 2097152
      each b i l =
          rw (h b i l)
          (omega (
            arith,
            limit-room,
            free-small (known_value (w i ⊕ b) (at ys i) (at ys (8 + i))) (known_value (w (4 + i) ⊕ (b ⊕ o)) (at ys (4 + i)) (at ys (12 + i)))
                (value_limit + value_limit) (known (w i ⊕ b) i (8 + i) (omega arith) (omega arith)) (known (w (4 + i) ⊕ (b ⊕ o)) (4 + i) (12 + i) (omega arith) (omega arith)),
          ))
