-- Filling four rows of sixteen, lane by lane. Assumes nothing.
use mathlib.Core.Path.{◌≡◌, refl, ◌∙◌}
use mathlib.Core.Bool.{Bool, true, false}
use mathlib.Core.List.{List, [], ◌∷◌}
use Prim.Native.Nat.{ℕ, zero, suc, ◌+◌, ◌<◌}
use native.Mathlib.Omega.{arith}
use lib.ListN.{length, get_or, set, replicate, length-set}
use Rattle.base.proofs.List.{each_next}
use Rattle.polar.specs.Code.{Costs}
use Rattle.folds.specs.Rows.{Pays}
use Rattle.lane_paths.specs.Places.{two_costs}

-- The rows with v in lane l of row r.
abbrev pub store : List (List ℕ) → ℕ → ℕ → ℕ → List (List ℕ)
store out r l v = set out r (set (get_or out r []) l v)

-- The lanes below l have what g says of the two places.
pub record Filled (l : ℕ) (g : ℕ → Costs) (out : List (List ℕ)) : Type 0 where
  pub four : length out ≡ 4
  pub wide : (r : ℕ) → r < 4 → length (get_or out r []) ≡ 16
  pub done : (k i : ℕ) (b : Bool) → i < 2 → k < l → two_costs out k i b ≡ g k i b

-- Four rows of zeros are filled below lane 0.
pub filled_none : (g : ℕ → Costs) → Filled 0 g (replicate 4 (replicate 16 0))
filled_none g = record { four = refl; wide = wide; done = λ k i b _ l. absurd (omega arith) }
  where
    wide : (r : ℕ) → r < 4 → length {A = ℕ} (get_or (replicate 4 (replicate 16 0)) r []) ≡ 16
    wide zero l = refl
    wide (suc zero) l = refl
    wide (suc (suc zero)) l = refl
    wide (suc (suc (suc zero))) l = refl
    wide (suc (suc (suc (suc r)))) l = absurd (omega arith)

-- One more lane of a row.
row_next : (row : List ℕ) (l v : ℕ) (f : ℕ → ℕ) → length row ≡ 16 → l < 16 → ((k : ℕ) → k < l → get_or row k 0 ≡ f k) → v ≡ f l
    → (k : ℕ) → k < l + 1 → get_or (set row l v) k 0 ≡ f k
row_next row l v f e ll h p = each_next (λ k x. x ≡ f k) row l 0 v (omega arith) h p

-- A store in each row fills the next lane.
pub fill-four : (l : ℕ) (g : ℕ → Costs) (out : List (List ℕ)) → Filled l g out → (v0 v1 v2 v3 : ℕ) → l < 16 → Pays (g l) 0 v0 v1 → Pays (g l) 1 v2 v3
    → Filled (l + 1) g (store (store (store (store out 0 l v0) 1 l v1) 2 l v2) 3 l v3)
fill-four l g [] f v0 v1 v2 v3 ll p q = absurd (omega (arith, f.four))
fill-four l g (a ∷ []) f v0 v1 v2 v3 ll p q = absurd (omega (arith, f.four))
fill-four l g (a ∷ b ∷ []) f v0 v1 v2 v3 ll p q = absurd (omega (arith, f.four))
fill-four l g (a ∷ b ∷ c ∷ []) f v0 v1 v2 v3 ll p q = absurd (omega (arith, f.four))
fill-four l g (a ∷ b ∷ c ∷ d ∷ more) f v0 v1 v2 v3 ll p q = record { four = f.four; wide = wide; done = done }
  where
    wide : (r : ℕ) → r < 4 → length (get_or (set a l v0 ∷ set b l v1 ∷ set c l v2 ∷ set d l v3 ∷ more) r []) ≡ 16
    wide zero lr = length-set a l v0 ∙ f.wide 0 (omega arith)
    wide (suc zero) lr = length-set b l v1 ∙ f.wide 1 (omega arith)
    wide (suc (suc zero)) lr = length-set c l v2 ∙ f.wide 2 (omega arith)
    wide (suc (suc (suc zero))) lr = length-set d l v3 ∙ f.wide 3 (omega arith)
    wide (suc (suc (suc (suc r)))) lr = absurd (omega arith)

    done : (k i : ℕ) (x : Bool) → i < 2 → k < l + 1 → two_costs (set a l v0 ∷ set b l v1 ∷ set c l v2 ∷ set d l v3 ∷ more) k i x ≡ g k i x
    done k zero false li lk = row_next a l v0 (λ k. g k 0 false) (f.wide 0 (omega arith)) ll (λ k. f.done k 0 false (omega arith)) p.0 k lk
    done k zero true li lk = row_next b l v1 (λ k. g k 0 true) (f.wide 1 (omega arith)) ll (λ k. f.done k 0 true (omega arith)) p.1 k lk
    done k (suc zero) false li lk = row_next c l v2 (λ k. g k 1 false) (f.wide 2 (omega arith)) ll (λ k. f.done k 1 false (omega arith)) q.0 k lk
    done k (suc zero) true li lk = row_next d l v3 (λ k. g k 1 true) (f.wide 3 (omega arith)) ll (λ k. f.done k 1 true (omega arith)) q.1 k lk
    done k (suc (suc i)) x li lk = absurd (omega arith)
