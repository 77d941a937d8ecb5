-- The candidates of a marked phase, in the order of their penalties, are the paths that stay. Assumes nothing.
use mathlib.Core.Path.{◌≡◌, refl, sym, ap, subst⁻¹, ◌∙◌}
use mathlib.Core.Bool.{Bool, true, false}
use mathlib.Core.List.{List, [], ◌∷◌, ◌++◌, map}
use Prim.Native.Nat.{ℕ, zero, suc, ◌+◌, ◌*◌, ◌/◌, ◌≤◌, ◌<◌, min}
use native.Mathlib.Decide.{dec_le}
use native.Mathlib.Omega.{arith}
use lib.ListN.{length, take, get_or, set, length-take, length-map, length-set}
use lib.Seq.{get_or-set_same, get_or-set_other, get_or-take}
use Rattle.base.specs.Bit.{digit, odd}
use Rattle.bits.proofs.Packed.{digit-odd}
use Rattle.folds.specs.Rows.{cell}
use Rattle.list.specs.Sort.{in_order}
use Rattle.list.specs.Paths.{phase, candidate}
use Rattle.list.proofs.Order.{length-order, order-cong, order-first, order_below}
use Rattle.list.proofs.Phase.{phase-order}
use Rattle.list_step.specs.Marked.{Penalties, chosen}

map_at : {X Y : Type 0} (f : X → Y) (xs : List X) (j : ℕ) (d : Y) (e : X) → j < length xs → get_or (map f xs) j d ≡ f (get_or xs j e)
map_at f [] j d e l = absurd (omega arith)
map_at f (x ∷ xs) zero d e l = refl
map_at f (x ∷ xs) (suc j) d e l = map_at f xs j d e (omega arith)

-- At an unmarked phase there are as many paths as before,
pub unmarked-count : (penalty : List Bool → ℕ) (L : ℕ) (ps : List (List Bool)) → length (phase penalty L false ps) ≡ length ps
unfolding phase
unmarked-count penalty L ps = length-map ps (λ p. p ++ (false ∷ []))

-- each with symbol 0 more.
pub unmarked-at : (penalty : List Bool → ℕ) (L : ℕ) (ps : List (List Bool)) (j : ℕ) → j < length ps → get_or (phase penalty L false ps) j [] ≡ get_or ps j [] ++ (false ∷ [])
unfolding phase
unmarked-at penalty L ps j l = map_at (λ p. p ++ (false ∷ [])) ps j [] [] l

digit-le : (b : Bool) → digit b ≤ 1
digit-le false = omega arith
digit-le true = omega arith

-- Every number is a path's candidate with one of the two symbols.
whole : (c : ℕ) → 2 * (c / 2) + digit (odd c) ≡ c
whole c = omega (arith, digit-odd c)

-- What stands in an order of sixteen.
pub inside : (pens o : List ℕ) → o ≡ in_order (λ c. get_or pens c 0) 16 → (j : ℕ) → j < 16 → get_or o j 0 < 16
inside pens o e j l = subst⁻¹ (λ (o : List ℕ). get_or o j 0 < 16) e (order_below (λ c. get_or pens c 0) 16 j l)

-- The two candidates of one path more.
pub next-penalties : (pair : List (List ℕ)) (i : ℕ) (out : List ℕ) (x y : ℕ) → length out ≡ 16 → i < 8 → x ≡ cell 0 pair i false → y ≡ cell 0 pair i true
    → Penalties pair i out → Penalties pair (i + 1) (set (set out (2 * i) x) (2 * i + 1) y)
next-penalties pair i out x y e l ex ey h = (λ j b lj. at j b (dec_le (suc j) i) lj, λ c lc c16. other c (λ q. omega arith) (λ q. omega arith) ∙ h.1 c (omega arith) c16)
  where
    other : (c : ℕ) → (c ≡ 2 * i → ⊥) → (c ≡ 2 * i + 1 → ⊥) → get_or (set (set out (2 * i) x) (2 * i + 1) y) c 0 ≡ get_or out c 0
    other c n m = get_or-set_other (set out (2 * i) x) (2 * i + 1) c y 0 m ∙ get_or-set_other out (2 * i) c x 0 n

    last : (b : Bool) → get_or (set (set out (2 * i) x) (2 * i + 1) y) (2 * i + digit b) 0 ≡ cell 0 pair i b
    last false =
        let z : 2 * i + 0 ≡ 2 * i = omega arith in
        ap (λ k. get_or (set (set out (2 * i) x) (2 * i + 1) y) k 0) z
        ∙ get_or-set_other (set out (2 * i) x) (2 * i + 1) (2 * i) y 0 (λ q. omega arith) ∙ get_or-set_same out (2 * i) x 0 (omega arith) ∙ ex
    last true = get_or-set_same (set out (2 * i) x) (2 * i + 1) y 0 (omega (arith, length-set out (2 * i) x)) ∙ ey

    at : (j : ℕ) (b : Bool) → Dec (j < i) → j < i + 1 → get_or (set (set out (2 * i) x) (2 * i + 1) y) (2 * j + digit b) 0 ≡ cell 0 pair j b
    at j b (yes q) lj = let d = digit-le b in other (2 * j + digit b) (λ e. omega arith) (λ e. omega arith) ∙ h.0 j b q
    at j b (no q) lj = let q : j ≡ i = omega arith in ap (λ k. get_or (set (set out (2 * i) x) (2 * i + 1) y) (2 * k + digit b) 0) q ∙ last b ∙ ap (λ k. cell 0 pair k b) (sym q)

module _ (pair : List (List ℕ)) (n : ℕ) (pens : List ℕ) (h : Penalties pair n pens) (ln : n ≤ 8) where
  -- What a candidate that there is has.
  pub penalty-at : (c : ℕ) → c < 2 * n → get_or pens c 0 ≡ cell 0 pair (c / 2) (odd c)
  penalty-at c l = ap (λ k. get_or pens k 0) (sym (whole c)) ∙ h.0 (c / 2) (odd c) (omega arith)

  module _ (small : (i : ℕ) (b : Bool) → i < n → cell 0 pair i b ≤ 32766) where
    -- None has more than one that there is not.
    pub penalties-small : (c : ℕ) → c < 16 → get_or pens c 0 ≤ 32766
    penalties-small c l = go (dec_le (2 * n) c)
      where
        go : Dec (2 * n ≤ c) → get_or pens c 0 ≤ 32766
        go (yes q) = omega (arith, h.1 c q l)
        go (no q) = omega (arith, penalty-at c (omega arith), small (c / 2) (odd c) (omega arith))

    -- So those come first that there are:
    first : (j : ℕ) → j < 2 * n → chosen pens j ≡ get_or (in_order (λ c. get_or pens c 0) (2 * n)) j 0
    first j l =
        sym (get_or-take (2 * n) (in_order (λ c. get_or pens c 0) 16) j 0 l)
        ∙ ap (λ (o : List ℕ). get_or o j 0)
        (order-first (λ c. get_or pens c 0) (2 * n) 16 (omega arith) (λ i k li lk l16. omega (arith, penalties-small i (omega arith), h.1 k lk l16)))

    pub chosen-below : (j : ℕ) → j < 2 * n → chosen pens j < 2 * n
    chosen-below j l = omega (arith, first j l, order_below (λ c. get_or pens c 0) (2 * n) j l)

    module _ (penalty : List Bool → ℕ) (L : ℕ) (ps : List (List Bool)) (el : length ps ≡ n)
        (are : (i : ℕ) (b : Bool) → i < n → cell 0 pair i b ≡ penalty (get_or ps i [] ++ (b ∷ []))) where
      -- the candidates by what the paths pay.
      chosen_is : (j : ℕ) → j < 2 * n → chosen pens j ≡ get_or (in_order (λ c. penalty (candidate ps c)) (2 * length ps)) j 0
      chosen_is j l =
          first j l
          ∙ ap (λ (o : List ℕ). get_or o j 0)
          (order-cong (λ c. get_or pens c 0) (λ c. penalty (candidate ps c)) (2 * n) (λ c lc. penalty-at c lc ∙ are (c / 2) (odd c) (omega arith))
          ∙ ap (λ m. in_order (λ c. penalty (candidate ps c)) (2 * m)) (sym el))

      pub penalty-is : (j : ℕ) → j < 2 * n → get_or pens (chosen pens j) 0 ≡ penalty (candidate ps (chosen pens j))
      penalty-is j l =
          let q : chosen pens j < 2 * n = chosen-below j l in
          penalty-at (chosen pens j) q ∙ are (chosen pens j / 2) (odd (chosen pens j)) (omega arith)

      pub phase-count : length (phase penalty L true ps) ≡ min L (2 * n)
      phase-count =
          let o = in_order (λ c. penalty (candidate ps c)) (2 * length ps) in
          ap (λ (l : List (List Bool)). length l) (phase-order penalty L ps)
          ∙ length-map (take L o) (candidate ps)
          ∙ length-take L o
          ∙ ap (min L) (length-order (λ c. penalty (candidate ps c)) (2 * length ps) ∙ ap (λ m. 2 * m) el)

      -- Path j of the next list is the candidate that was chosen for it.
      pub phase-at : (j : ℕ) → j < min L (2 * n) → get_or (phase penalty L true ps) j [] ≡ candidate ps (chosen pens j)
      phase-at j l =
          let o = in_order (λ c. penalty (candidate ps c)) (2 * length ps) in
          let lo : length o ≡ 2 * length ps = length-order (λ c. penalty (candidate ps c)) (2 * length ps) in
          let lt : length (take L o) ≡ min L (length o) = length-take L o in
          ap (λ (l : List (List Bool)). get_or l j []) (phase-order penalty L ps)
          ∙ map_at (candidate ps) (take L o) j [] 0 (omega arith)
          ∙ ap (candidate ps) (get_or-take L o j 0 (omega arith) ∙ sym (chosen_is j (omega arith)))
