-- Two places folded onto one, as the code has them. Assumes nothing.
use mathlib.Core.Path.{◌≡◌, ap, ap₂, ◌∙◌}
use mathlib.Core.Bool.{Bool, true, false}
use Prim.Native.Nat.{ℕ, ◌+◌, ◌≤◌, ◌<◌, min}
use native.Mathlib.Omega.{arith}
use Rattle.base.specs.Bit.{◌⊕◌}
use Rattle.polar.specs.Code.{Costs}
use Rattle.polar.specs.Fold.{free_fold, known_fold}
use Rattle.folds.specs.Rows.{select, Pays}

-- One of two numbers is within a bound that holds of both.
pub select-le : (x y n : ℕ) (c : Bool) → x ≤ n → y ≤ n → select x y c ≤ n
select-le x y n true p q = q
select-le x y n false p q = p

-- What a place pays is small where its costs are.
pub pays-small : (m : Costs) (j x y n : ℕ) → n ≤ 16777216 → ((b : Bool) → m j b ≤ n) → Pays m j x y → (x ≤ 16777216) × (y ≤ 16777216)
pays-small m j x y n l h p = (omega (arith, p.0, h false), omega (arith, p.1, h true))

-- A fold at most doubles a bound.
pub known-le : (h : ℕ) (x : ℕ → Bool) (m : Costs) (n : ℕ) → ((j : ℕ) (b : Bool) → j < h + h → m j b ≤ n) → (j : ℕ) (b : Bool) → j < h → known_fold h x m j b ≤ n + n
known-le h x m n most j b l = omega (arith, most j (x j ⊕ b) (omega arith), most (h + j) b (omega arith))

pub free-le : (h : ℕ) (m : Costs) (n : ℕ) → ((j : ℕ) (b : Bool) → j < h + h → m j b ≤ n) → (j : ℕ) (b : Bool) → j < h → free_fold h m j b ≤ n + n
free-le h m n most j b l = omega (arith, most j b (omega arith), most (h + j) false (omega arith))

module _ (h j : ℕ) (m : Costs) (p q s t u v : ℕ) (first : Pays m j p q) (second : Pays m (h + j) s t) where
  -- Places folded at the known bit c.
  pub known-pays : (x : ℕ → Bool) (c : Bool) → c ≡ x j → u ≡ select p q c + s → v ≡ select q p c + t → Pays (known_fold h x m) j u v
  known-pays x c e eu ev =
      (eu ∙ at c ∙ ap (λ z. m j (z ⊕ false) + m (h + j) false) e, ev ∙ at' c ∙ ap (λ z. m j (z ⊕ true) + m (h + j) true) e)
    where
      at : (c : Bool) → select p q c + s ≡ m j (c ⊕ false) + m (h + j) false
      at true = ap₂ ◌+◌ first.1 second.0
      at false = ap₂ ◌+◌ first.0 second.0

      at' : (c : Bool) → select q p c + t ≡ m j (c ⊕ true) + m (h + j) true
      at' true = ap₂ ◌+◌ first.0 second.1
      at' false = ap₂ ◌+◌ first.1 second.1

  -- Places folded with the second one free.
  pub free-pays : u ≡ min (p + s) (q + t) → v ≡ min (q + s) (p + t) → Pays (free_fold h m) j u v
  free-pays eu ev = (
    eu ∙ ap₂ min (ap₂ ◌+◌ first.0 second.0) (ap₂ ◌+◌ first.1 second.1),
    ev ∙ ap₂ min (ap₂ ◌+◌ first.1 second.0) (ap₂ ◌+◌ first.0 second.1),
  )
