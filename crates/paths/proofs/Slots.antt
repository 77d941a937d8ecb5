-- Rows of k times four places, filled place by place: entry 4 t + j is place j of the t-th four. Assumes nothing.
use mathlib.Core.Path.{◌≡◌, refl, ◌∙◌}
use mathlib.Core.Bool.{Bool, true, false}
use mathlib.Core.List.{List, [], ◌∷◌}
use Prim.Native.Nat.{ℕ, suc, ◌+◌, ◌*◌, ◌≤◌, ◌<◌}
use native.Mathlib.Decide.{dec_lt}
use native.Mathlib.Omega.{arith}
use lib.IntN.{ℤ, pos}
use lib.ListN.{length, get_or, set, replicate, length-set, length-replicate}
use lib.Seq.{get_or-set_same, get_or-set_other}
use Rattle.folds.specs.Rows.{row_of}
use Rattle.folds.proofs.Fill.{store}

-- The places below i are what f says, and place i in the first s fours.
pub record Slots (k i s : ℕ) (f : ℕ → ℕ → ℤ) (row : List ℤ) : Type 0 where
  pub long : length row ≡ 4 * k
  pub done : (t j : ℕ) → t < k → j < i → get_or row (4 * t + j) (pos 0) ≡ f t j
  pub part : (t : ℕ) → t < s → get_or row (4 * t + i) (pos 0) ≡ f t i

-- None is filled at the start.
pub slots-none : (k : ℕ) (f : ℕ → ℕ → ℤ) (row : List ℤ) → length row ≡ 4 * k → Slots k 0 0 f row
slots-none k f row e = record { long = e; done = λ t j l m. absurd (omega arith); part = λ t l. absurd (omega arith) }

module _ (k i s : ℕ) (f : ℕ → ℕ → ℤ) (row : List ℤ) (h : Slots k i s f row) where
  -- Place i is stored in the next four,
  pub slots_next : (p : ℕ) (v : ℤ) → i < 4 → s < k → p ≡ 4 * s + i → v ≡ f s i → Slots k i (suc s) f (set row p v)
  slots_next p v li ls ep ev =
      record {
        long = length-set row p v ∙ h.long;
        done = λ t j l m. get_or-set_other row p (4 * t + j) v (pos 0) (λ e. omega arith) ∙ h.done t j l m;
        part = λ t l. go t l (dec_lt t s);
      }
    where
      go : (t : ℕ) → t < suc s → Dec (t < s) → get_or (set row p v) (4 * t + i) (pos 0) ≡ f t i
      go t l (yes m) = get_or-set_other row p (4 * t + i) v (pos 0) (λ e. omega arith) ∙ h.part t m
      go t l (no m) =
          let e : t ≡ s = omega arith in
          rw (e, ← ep) (get_or-set_same row p v (pos 0) (omega (arith, h.long)) ∙ ev)

  -- and then all places up to i are filled.
  pub slots-turn : k ≤ s → Slots k (i + 1) 0 f row
  slots-turn l =
      record {
        long = h.long;
        done = λ t j m n. go t j m n (dec_lt j i);
        part = λ t m. absurd (omega arith);
      }
    where
      go : (t j : ℕ) → t < k → j < i + 1 → Dec (j < i) → get_or row (4 * t + j) (pos 0) ≡ f t j
      go t j m n (yes q) = h.done t j m q
      go t j m n (no q) = let e : j ≡ i = omega arith in rw e (h.part t (omega arith))

-- Two such rows.
pub record Rows (k i : ℕ) (f : Bool → ℕ → ℕ → ℤ) (out : List (List ℤ)) : Type 0 where
  pub two : length out ≡ 2
  pub row : (o : Bool) → Slots k i 0 (f o) (row_of out o)

pub rows_none : (k : ℕ) (f : Bool → ℕ → ℕ → ℤ) → Rows k 0 f (replicate 2 (replicate (4 * k) (pos 0)))
rows_none k f = record { two = omega arith; row = go }
  where
    go : (o : Bool) → Slots k 0 0 (f o) (row_of (replicate 2 (replicate (4 * k) (pos 0))) o)
    go false = slots-none k (f false) (replicate (4 * k) (pos 0)) (length-replicate (4 * k) (pos 0))
    go true = slots-none k (f true) (replicate (4 * k) (pos 0)) (length-replicate (4 * k) (pos 0))

-- A turn of two fours in each row.
pub turn-of-two : (i : ℕ) (f : Bool → ℕ → ℕ → ℤ) (out : List (List ℤ)) (a b c d : ℤ) → i < 4 → Rows 2 i f out
    → a ≡ f false 0 i → b ≡ f false 1 i → c ≡ f true 0 i → d ≡ f true 1 i
    → Rows 2 (i + 1) f (store (store (store (store out false i a) false (4 + i) b) true i c) true (4 + i) d)
turn-of-two i f [] a b c d l h ea eb ec ed = absurd (omega (arith, h.two))
turn-of-two i f (x ∷ []) a b c d l h ea eb ec ed = absurd (omega (arith, h.two))
turn-of-two i f (x ∷ y ∷ more) a b c d l h ea eb ec ed = record { two = h.two; row = go }
  where
    twice : (g : ℕ → ℕ → ℤ) (row : List ℤ) (v w : ℤ) → Slots 2 i 0 g row → v ≡ g 0 i → w ≡ g 1 i → Slots 2 (i + 1) 0 g (set (set row i v) (4 + i) w)
    twice g row v w s ev ew =
        slots-turn 2 i 2 g _ (slots_next 2 i 1 g _ (slots_next 2 i 0 g row s i v l (omega arith) (omega arith) ev) (4 + i) w l (omega arith) (omega arith) ew) (omega arith)

    go : (o : Bool) → Slots 2 (i + 1) 0 (f o) (row_of (store (store (store (store (x ∷ y ∷ more) false i a) false (4 + i) b) true i c) true (4 + i) d) o)
    go false = twice (f false) x a b (h.row false) ea eb
    go true = twice (f true) y c d (h.row true) ec ed

-- A turn of four fours in each row.
pub turn-of-four : (i : ℕ) (f : Bool → ℕ → ℕ → ℤ) (out next : List (List ℤ)) (a b c d a' b' c' d' : ℤ) → i < 4 → Rows 4 i f out → length next ≡ 2
    → get_or next 0 [] ≡ set (set (set (set (get_or out 0 []) i a) (4 + i) b) (8 + i) c) (12 + i) d
    → get_or next 1 [] ≡ set (set (set (set (get_or out 1 []) i a') (4 + i) b') (8 + i) c') (12 + i) d'
    → (a ≡ f false 0 i) × (b ≡ f false 1 i) × (c ≡ f false 2 i) × (d ≡ f false 3 i)
    → (a' ≡ f true 0 i) × (b' ≡ f true 1 i) × (c' ≡ f true 2 i) × (d' ≡ f true 3 i)
    → Rows 4 (i + 1) f next
turn-of-four i f out next a b c d a' b' c' d' l h n e₀ e₁ e e' = record { two = n; row = go }
  where
    four : (g : ℕ → ℕ → ℤ) (row : List ℤ) (p q r s : ℤ) → Slots 4 i 0 g row → (p ≡ g 0 i) × (q ≡ g 1 i) × (r ≡ g 2 i) × (s ≡ g 3 i)
        → Slots 4 (i + 1) 0 g (set (set (set (set row i p) (4 + i) q) (8 + i) r) (12 + i) s)
    four g row p q r s m e =
        slots-turn 4 i 4 g _
        (slots_next 4 i 3 g _
        (slots_next 4 i 2 g _
        (slots_next 4 i 1 g _
        (slots_next 4 i 0 g row m i p l (omega arith) (omega arith) e.0)
        (4 + i) q l (omega arith) (omega arith) e.1)
        (8 + i) r l (omega arith) (omega arith) e.2)
        (12 + i) s l (omega arith) (omega arith) e.3)
        (omega arith)

    go : (o : Bool) → Slots 4 (i + 1) 0 (f o) (row_of next o)
    go false = rw e₀ (four (f false) (get_or out 0 []) a b c d (h.row false) e)
    go true = rw e₁ (four (f true) (get_or out 1 []) a' b' c' d' (h.row true) e')

-- Four entries stored under other names.
pub four_same : (row : List ℤ) (i : ℕ) (a b c d a' b' c' d' : ℤ) → a ≡ a' → b ≡ b' → c ≡ c' → d ≡ d'
    → set (set (set (set row i a) (4 + i) b) (8 + i) c) (12 + i) d ≡ set (set (set (set row i a') (4 + i) b') (8 + i) c') (12 + i) d'
four_same row i a b c d a' b' c' d' ea eb ec ed = rw (ea, eb, ec, ed) refl
