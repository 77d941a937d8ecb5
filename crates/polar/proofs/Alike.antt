-- Codes whose words have the same bits at their places: what their words pay is the same. Assumes nothing.
use mathlib.Core.Path.{◌≡◌, ap, ap₂, ◌∙◌}
use mathlib.Core.Bool.{Bool, true, false}
use mathlib.Core.List.{List, [], ◌∷◌, ◌++◌}
use Prim.Native.Nat.{ℕ, ◌-◌, ◌<◌}
use lib.ListN.{length}
use lib.IntN.{pos, neg_ℤ, ◌-ℤ◌}
use Rattle.polar.specs.Code.{Code, Costs, sum, total, minimum, least, score}
use Rattle.polar.proofs.Minima.{minimum-cong, sum-cong}

-- They differ, if at all, past their places.
pub record Alike (C D : Code) : Type 0 where
  pub sizes : C.size ≡ D.size
  pub as_many : C.places ≡ D.places
  pub words : (u : List Bool) (p : ℕ) → p < D.places → C.word u p ≡ D.word u p

module _ (C D : Code) (a : Alike C D) where
  pub alike-least : (m : Costs) (p : List Bool) → least C m p ≡ least D m p
  unfolding least total
  alike-least m p =
      ap₂ (λ n k. minimum (n - length p) (λ t. sum k (λ i. m i (C.word (p ++ t) i)))) a.sizes a.as_many
      ∙ minimum-cong (D.size - length p) (λ t _. sum-cong D.places (λ i l. ap (m i) (a.words (p ++ t) i l)))

  pub alike-score : (m : Costs) (p : List Bool) → score C m p ≡ score D m p
  unfolding score
  alike-score m p = ap₂ (λ x y. neg_ℤ (pos x) -ℤ neg_ℤ (pos y)) (alike-least m (p ++ (false ∷ []))) (alike-least m (p ++ (true ∷ [])))
