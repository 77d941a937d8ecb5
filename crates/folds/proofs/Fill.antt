-- Filling two rows of entries of any type, place by place. Assumes nothing.
use mathlib.Core.Path.{◌≡◌, refl, ◌∙◌}
use mathlib.Core.Bool.{Bool, true, false, not}
use mathlib.Core.List.{List, [], ◌∷◌}
use Prim.Native.Nat.{ℕ, zero, suc, ◌+◌, ◌≤◌, ◌<◌}
use native.Mathlib.Decide.{dec_lt}
use native.Mathlib.Omega.{arith}
use lib.ListN.{length, get_or, set, replicate, length-set, length-replicate}
use lib.Seq.{get_or-set_same, get_or-set_other}
use Rattle.base.specs.Bit.{digit}
use Rattle.polar.specs.Code.{Costs}
use Rattle.folds.specs.Rows.{cell, costs_of, Within}

-- There are two rows, of n places each.
pub record Shape {X : Type 0} (n : ℕ) (out : List (List X)) : Type 0 where
  pub two : length out ≡ 2
  pub zeros : length (get_or out 0 []) ≡ n
  pub ones : length (get_or out 1 []) ≡ n

-- The rows with v at place i of the row of bit b.
abbrev pub store : {X : Type 0} → List (List X) → Bool → ℕ → X → List (List X)
store out b i v = set out (digit b) (set (get_or out (digit b) []) i v)

store-shape : {X : Type 0} {n : ℕ} (out : List (List X)) (b : Bool) (i : ℕ) (v : X) → Shape n out → Shape n (store out b i v)
store-shape [] b i v s = absurd (omega arith)
store-shape (x ∷ []) b i v s = absurd (omega arith)
store-shape (x ∷ y ∷ more) false i v s = record { two = s.two; zeros = length-set x i v ∙ s.zeros; ones = s.ones }
store-shape (x ∷ y ∷ more) true i v s = record { two = s.two; zeros = s.zeros; ones = length-set y i v ∙ s.ones }

store_at : {X : Type 0} {n : ℕ} (o : X) (out : List (List X)) (b : Bool) (i : ℕ) (v : X) → Shape n out → i < n → cell o (store out b i v) i b ≡ v
store_at o [] b i v s l = absurd (omega arith)
store_at o (x ∷ []) b i v s l = absurd (omega arith)
store_at o (x ∷ y ∷ more) false i v s l = get_or-set_same x i v o (omega arith)
store_at o (x ∷ y ∷ more) true i v s l = get_or-set_same y i v o (omega arith)

store-row : {X : Type 0} {n : ℕ} (o : X) (out : List (List X)) (b : Bool) (i : ℕ) (v : X) (j : ℕ) → Shape n out → cell o (store out b i v) j (not b) ≡ cell o out j (not b)
store-row o [] b i v j s = absurd (omega arith)
store-row o (x ∷ []) b i v j s = absurd (omega arith)
store-row o (x ∷ y ∷ more) false i v j s = refl
store-row o (x ∷ y ∷ more) true i v j s = refl

store-else : {X : Type 0} {n : ℕ} (o : X) (out : List (List X)) (b : Bool) (i : ℕ) (v : X) (j : ℕ) (c : Bool) → Shape n out → (j ≡ i → ⊥) → cell o (store out b i v) j c ≡ cell o out j c
store-else o [] b i v j c s d = absurd (omega arith)
store-else o (x ∷ []) b i v j c s d = absurd (omega arith)
store-else o (x ∷ y ∷ more) false i v j false s d = get_or-set_other x i j v o (omega arith)
store-else o (x ∷ y ∷ more) false i v j true s d = refl
store-else o (x ∷ y ∷ more) true i v j false s d = refl
store-else o (x ∷ y ∷ more) true i v j true s d = get_or-set_other y i j v o (omega arith)

-- The places below i have what g says, and the others o.
pub record Filled {X : Type 0} (o : X) (n i : ℕ) (g : ℕ → Bool → X) (out : List (List X)) : Type 0 where
  pub shape : Shape n out
  pub done : (j : ℕ) (b : Bool) → j < i → cell o out j b ≡ g j b
  pub rest : (j : ℕ) (b : Bool) → i ≤ j → cell o out j b ≡ o

none-at : {X : Type 0} (o : X) (n j : ℕ) → get_or (replicate n o) j o ≡ o
none-at o zero j = refl
none-at o (suc n) zero = refl
none-at o (suc n) (suc j) = none-at o n j

-- Two rows of o are filled below place 0.
pub filled_none : {X : Type 0} (o : X) (n : ℕ) (g : ℕ → Bool → X) → Filled o n 0 g (replicate 2 (replicate n o))
filled_none o n g =
    record {
      shape = record { two = refl; zeros = length-replicate n o; ones = length-replicate n o };
      done = λ j b l. absurd (omega arith);
      rest = λ j b l. go j b;
    }
  where
    go : (j : ℕ) (b : Bool) → cell o (replicate 2 (replicate n o)) j b ≡ o
    go j false = none-at o n j
    go j true = none-at o n j

module _ {X : Type 0} (o : X) (n i : ℕ) (g : ℕ → Bool → X) (out : List (List X)) (f : Filled o n i g out) where
  -- Rows that differ from these at place i alone, and have there what g says, are filled one place further.
  grow : (next : List (List X)) → Shape n next → ((j : ℕ) (b : Bool) → (j ≡ i → ⊥) → cell o next j b ≡ cell o out j b)
      → ((b : Bool) → cell o next i b ≡ g i b) → Filled o n (i + 1) g next
  grow next s away here =
      record {
        shape = s;
        done = λ j b l. go j b l (dec_lt j i);
        rest = λ j b l. away j b (λ e. omega arith) ∙ f.rest j b (omega arith);
      }
    where
      go : (j : ℕ) (b : Bool) → j < i + 1 → Dec (j < i) → cell o next j b ≡ g j b
      go j b l (yes m) = away j b (λ e. omega arith) ∙ f.done j b m
      go j b l (no m) = let e : j ≡ i = omega arith in rw e (here b)

  -- One store fills the next place, where the other row has o.
  pub fill_one : (b : Bool) (v : X) → i < n → v ≡ g i b → o ≡ g i (not b) → Filled o n (i + 1) g (store out b i v)
  fill_one b v l p q = grow _ (store-shape out b i v s) (λ j c d. store-else o out b i v j c s d) (at b p q)
    where
      s : Shape n out
      s = f.shape

      at : (b : Bool) → v ≡ g i b → o ≡ g i (not b) → (c : Bool) → cell o (store out b i v) i c ≡ g i c
      at false p q false = store_at o out false i v s l ∙ p
      at false p q true = store-row o out false i v i s ∙ f.rest i true (omega arith) ∙ q
      at true p q true = store_at o out true i v s l ∙ p
      at true p q false = store-row o out true i v i s ∙ f.rest i false (omega arith) ∙ q

  -- A store in each row fills the next place.
  pub fill-both : (v w : X) → i < n → v ≡ g i false → w ≡ g i true → Filled o n (i + 1) g (store (store out false i v) true i w)
  fill-both v w l p q =
      grow _ (store-shape mid true i w s)
      (λ j c d. store-else o mid true i w j c s d ∙ store-else o out false i v j c f.shape d)
      at
    where
      mid : List (List X)
      mid = store out false i v

      s : Shape n mid
      s = store-shape out false i v f.shape

      at : (c : Bool) → cell o (store mid true i w) i c ≡ g i c
      at false = store-row o mid true i w i s ∙ store_at o out false i v f.shape l ∙ p
      at true = store_at o mid true i w s l ∙ q

-- Filled rows are within a bound that holds of the costs.
pub filled_within : (w i : ℕ) (g : Costs) (out : List (List ℕ)) → Filled 0 w i g out → (n : ℕ)
    → ((j : ℕ) (b : Bool) → j < i → g j b ≤ n) → Within n out
filled_within w i g out f n most j b = go (dec_lt j i)
  where
    go : Dec (j < i) → costs_of out j b ≤ n
    go (yes l) = rw (f.done j b l) (most j b l)
    go (no l) = rw (f.rest j b (omega arith)) (omega arith)
