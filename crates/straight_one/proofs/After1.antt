-- The places of kernel 1's paths after v11, from what `places_after` gives, and how large they are. Assumes nothing.
use mathlib.Core.Path.{◌≡◌, ap, ap₂, ◌∙◌}
use mathlib.Core.Bool.{Bool, true, false}
use mathlib.Core.List.{List}
use Prim.Native.Nat.{ℕ, ◌+◌, ◌≤◌, ◌<◌}
use native.Mathlib.Omega.{arith}
use lib.IntN.{ℤ, pos, nat_abs}
use lib.ListN.{length, get_or}
use Rattle.base.specs.Bit.{◌⊕◌}
use Rattle.folds.specs.Range.{value_limit, first_outside}
use Rattle.folds.proofs.Limit.{limit-room}
use Rattle.values.specs.Value.{known_value, Small}
use Rattle.values.specs.Path.{after_at}
use Rattle.value_folds.proofs.Sizes.{known_small}
use Rattle.phase_scores.specs.Quarter.{at}
use Rattle.phase_scores.proofs.Block.{AfterOf}
use Rattle.quarters.proofs.Bounds.{limit-small}
use Rattle.quarters.proofs.Index.{below-16}

module _ (ys : List ℤ) (w : ℕ → Bool) (o : Bool) where
  -- What the code has for the words is what they are.
  pub after-as : (k : ℕ → Bool) → ((i : ℕ) → i < 8 → k i ≡ w i) → (m n : ℕ → Bool) → ((i : ℕ) → i < 4 → m i ≡ n i)
      → (q : Bool) (x : List ℤ) → AfterOf ys k o m q x → AfterOf ys w o n q x
  after-as k hk m n hm q x h c b i l =
      h c b i l
      ∙ ap (λ e. known_value (e ⊕ (c ⊕ q)) (known_value (k i ⊕ b) (at ys i) (at ys (8 + i))) (known_value (k (4 + i) ⊕ (b ⊕ o)) (at ys (4 + i)) (at ys (12 + i)))) (hm i l)
      ∙ ap₂ (λ e f. known_value (n i ⊕ (c ⊕ q)) (known_value (e ⊕ b) (at ys i) (at ys (8 + i))) (known_value (f ⊕ (b ⊕ o)) (at ys (4 + i)) (at ys (12 + i)))) (hk i (omega arith)) (hk (4 + i) (omega arith))

  module _ (e : length ys ≡ 16) (f : first_outside value_limit ys ≡ 16) where
    known : (b : Bool) (i j : ℕ) → i < 16 → j < 16 → nat_abs (known_value b (at ys i) (at ys j)) ≤ value_limit + value_limit
    known b i j li lj = known_small b (at ys i) (at ys j) value_limit value_limit (limit-small ys e f i li) (limit-small ys e f j lj)

    -- They have room.
    pub after-room : (n : ℕ → Bool) (q : Bool) (x : List ℤ) → AfterOf ys w o n q x → Small 4194304 16 x
    after-room n q x h =
        below-16 (λ i. nat_abs (get_or x i (pos 0)) ≤ 4194304)
        (each false false 0 (omega arith)) (each false false 1 (omega arith)) (each false false 2 (omega arith)) (each false false 3 (omega arith))
        (each false true 0 (omega arith)) (each false true 1 (omega arith)) (each false true 2 (omega arith)) (each false true 3 (omega arith))
        (each true false 0 (omega arith)) (each true false 1 (omega arith)) (each true false 2 (omega arith)) (each true false 3 (omega arith))
        (each true true 0 (omega arith)) (each true true 1 (omega arith)) (each true true 2 (omega arith)) (each true true 3 (omega arith))
      where
        each : (c b : Bool) (i : ℕ) → i < 4 → nat_abs (after_at x i c b) ≤ 4194304
        each c b i l =
            rw (h c b i l)
            (omega (
              arith,
              limit-room,
              known_small (n i ⊕ (c ⊕ q)) (known_value (w i ⊕ b) (at ys i) (at ys (8 + i))) (known_value (w (4 + i) ⊕ (b ⊕ o)) (at ys (4 + i)) (at ys (12 + i)))
                  (value_limit + value_limit) (value_limit + value_limit) (known (w i ⊕ b) i (8 + i) (omega arith) (omega arith)) (known (w (4 + i) ⊕ (b ⊕ o)) (4 + i) (12 + i) (omega arith) (omega arith)),
            ))
