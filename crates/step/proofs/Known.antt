-- A place that a fold leaves, by a bit that may be known. Assumes nothing.
use mathlib.Core.Path.{◌≡◌, refl, ap, ◌∙◌}
use mathlib.Core.Bool.{Bool, true, false}
use Prim.Native.Nat.{ℕ}
use lib.Dec.{leb}
use Rattle.std.specs.Prelude.{Option}
use Rattle.std.specs.Bool.{then_some}
use Rattle.polar.specs.Code.{Costs}
use Rattle.polar.specs.Fold.{level, known_fold, free_fold}
use Rattle.folds.specs.Rows.{Pays}
use Rattle.place_folds.specs.Folds.{bit_fold}

module _ (h n j : ℕ) (y : ℕ → Bool) (m : Costs) where
  -- The bit is known at a level where at least h of the v are.
  by-level : (t : Bool) (b : Bool) → bit_fold (then_some t (y j)) h m j b ≡ (elim t as (λ _. Costs) [ true ↦ known_fold h y m | false ↦ free_fold h m ]) j b
  by-level true b = refl
  by-level false b = refl

  -- So the place is one of the level.
  pub level-by : (u v : ℕ) (c : Bool) → c ≡ y j → (o : Option Bool) → o ≡ then_some (leb h n) c → Pays (bit_fold o h m) j u v → Pays (level h n y m) j u v
  level-by u v c e o eo p =
      let at : (b : Bool) → bit_fold o h m j b ≡ level h n y m j b =
      λ b. ap (λ x. bit_fold x h m j b) (eo ∙ ap (then_some (leb h n)) e) ∙ by-level (leb h n) b in
      (p.0 ∙ at false, p.1 ∙ at true)
