-- What the eight paths have at each phase, from what the calls of the phase ensure, and how large it is. Assumes nothing.
use mathlib.Core.Path.{◌≡◌, ap, ap₂, ◌∙◌}
use mathlib.Core.Bool.{Bool, true, false}
use mathlib.Core.List.{List}
use Prim.Native.Nat.{ℕ, ◌+◌, ◌*◌, ◌≤◌, ◌<◌}
use native.Mathlib.Nat.{add_assoc, le_trans}
use native.Mathlib.Omega.{arith}
use lib.IntN.{ℤ, pos, nat_abs}
use lib.ListN.{get_or}
use Rattle.base.specs.Bit.{◌⊕◌, digit}
use Rattle.values.specs.Value.{free_value, known_value, Small}
use Rattle.value_folds.proofs.Sizes.{turned-small, known_small, free-small}
use Rattle.values.specs.Path.{path_number, place_at, even_free, odd_free, even_known, odd_known, value8, value9, value10, value11, after_at, value12}
use Rattle.values.proofs.Numbers.{all-pairs, all-halves, pair-below}

-- What a smaller bound allows a greater one does.
pub wider : (n m k : ℕ) (x : List ℤ) → n ≤ m → Small n k x → Small m k x
wider n m k x l h i j = le_trans (h i j) l

-- ---- what the calls ensure

-- `seen`,
abbrev pub Seen : List ℤ → ℕ → List ℤ → Type 0
Seen x o r =
    (g a : Bool)
    → (get_or r (2 * digit g + digit a) (pos 0) ≡ place_at x o a) × (get_or r (4 + (2 * digit g + digit a)) (pos 0) ≡ place_at x (2 + o) (a ⊕ g))

-- `free_half`,
abbrev pub FreeOnto : List ℤ → List ℤ → Type 0
FreeOnto p r = (i : ℕ) → i < 4 → get_or r i (pos 0) ≡ free_value (get_or p i (pos 0)) (get_or p (4 + i) (pos 0))

-- and `both_known`.
abbrev pub KnownOnto : List ℤ → Bool → List ℤ → Type 0
KnownOnto p c r = (d : Bool) (i : ℕ) → i < 4 → get_or r (4 * digit d + i) (pos 0) ≡ known_value (c ⊕ d) (get_or p i (pos 0)) (get_or p (4 + i) (pos 0))

-- ---- two places of a path, folded

module _ (x p r : List ℤ) (o : ℕ) (s : Seen x o p) where
  pub free-at : FreeOnto p r → (g a : Bool) → get_or r (2 * digit g + digit a) (pos 0) ≡ free_value (place_at x o a) (place_at x (2 + o) (a ⊕ g))
  free-at h g a = h _ (pair-below g a) ∙ ap₂ free_value (s g a).0 (s g a).1

  pub known_at : (c : Bool) → KnownOnto p c r → (d g a : Bool)
      → get_or r (path_number d g a) (pos 0) ≡ known_value (c ⊕ d) (place_at x o a) (place_at x (2 + o) (a ⊕ g))
  known_at c h d g a =
      ap (λ i. get_or r i (pos 0)) (add_assoc (4 * digit d) (2 * digit g) (digit a))
      ∙ h d _ (pair-below g a)
      ∙ ap₂ (known_value (c ⊕ d)) (s g a).0 (s g a).1

-- ---- sizes, where the places are at most n

module _ (n : ℕ) (x : List ℤ) (h : Small n 8 x) where
  pub place-small : (i : ℕ) → i < 4 → (b : Bool) → nat_abs (place_at x i b) ≤ n
  place-small i l false = h (0 + i) (omega arith)
  place-small i l true = h (4 + i) (omega arith)

  -- What paths see of the places,
  pub seen-small : (o : ℕ) → o < 2 → (r : List ℤ) → Seen x o r → Small n 8 r
  seen-small o l r s =
      all-halves (λ i. nat_abs (get_or r i (pos 0)) ≤ n)
      (all-pairs (λ i. nat_abs (get_or r i (pos 0)) ≤ n) (λ g a. rw (s g a).0 (place-small o (omega arith) a)))
      (all-pairs (λ i. nat_abs (get_or r (4 + i) (pos 0)) ≤ n) (λ g a. rw (s g a).1 (place-small (2 + o) (omega arith) (a ⊕ g))))

  -- the folds of two of them,
  pub even-free-small : (g a : Bool) → nat_abs (even_free x g a) ≤ n
  even-free-small g a = free-small (place_at x 0 a) (place_at x 2 (a ⊕ g)) n (place-small 0 (omega arith) a) (place-small 2 (omega arith) (a ⊕ g))

  pub odd-free-small : (g a : Bool) → nat_abs (odd_free x g a) ≤ n
  odd-free-small g a = free-small (place_at x 1 a) (place_at x 3 (a ⊕ g)) n (place-small 1 (omega arith) a) (place-small 3 (omega arith) (a ⊕ g))

  pub even-known-small : (c g a : Bool) → nat_abs (even_known x c g a) ≤ n + n
  even-known-small c g a = known_small c (place_at x 0 a) (place_at x 2 (a ⊕ g)) n n (place-small 0 (omega arith) a) (place-small 2 (omega arith) (a ⊕ g))

  pub odd-known-small : (c g a : Bool) → nat_abs (odd_known x c g a) ≤ n + n
  odd-known-small c g a = known_small c (place_at x 1 a) (place_at x 3 (a ⊕ g)) n n (place-small 1 (omega arith) a) (place-small 3 (omega arith) (a ⊕ g))

  -- and the values of the phases.
  pub value8-small : (d g a : Bool) → nat_abs (value8 x d g a) ≤ n
  value8-small d g a = free-small (even_free x g a) (odd_free x g (a ⊕ d)) n (even-free-small g a) (odd-free-small g (a ⊕ d))

  pub value9-small : (v8 d g a : Bool) → nat_abs (value9 x v8 d g a) ≤ n + n
  value9-small v8 d g a =
      let e = even_free x g a in
      let o = odd_free x g (a ⊕ d) in
      rw (turned-small d (known_value v8 e o)) (known_small v8 e o n n (even-free-small g a) (odd-free-small g (a ⊕ d)))

  pub value10-small : (v8 u d g a : Bool) → nat_abs (value10 x v8 u d g a) ≤ n + n
  value10-small v8 u d g a =
      let e = even_known x (v8 ⊕ u ⊕ d) g a in
      let o = odd_known x (u ⊕ d) g (a ⊕ d) in
      rw (turned-small (g ⊕ d) (free_value e o)) (free-small e o (n + n) (even-known-small (v8 ⊕ u ⊕ d) g a) (odd-known-small (u ⊕ d) g (a ⊕ d)))

  pub value11-small : (v8 u t d g a : Bool) → nat_abs (value11 x v8 u t d g a) ≤ n + n + (n + n)
  value11-small v8 u t d g a =
      known_small (t ⊕ (g ⊕ d)) (even_known x (v8 ⊕ u ⊕ d) g a) (odd_known x (u ⊕ d) g (a ⊕ d)) (n + n) (n + n)
      (even-known-small (v8 ⊕ u ⊕ d) g a) (odd-known-small (u ⊕ d) g (a ⊕ d))

module _ (n : ℕ) (t : List ℤ) (h : Small n 16 t) where
  pub after_small : (i : ℕ) → i < 4 → (c b : Bool) → nat_abs (after_at t i c b) ≤ n
  after_small i l false false = h (0 + (0 + i)) (omega arith)
  after_small i l false true = h (0 + (4 + i)) (omega arith)
  after_small i l true false = h (8 + (0 + i)) (omega arith)
  after_small i l true true = h (8 + (4 + i)) (omega arith)

  pub value12-small : (d g a : Bool) → nat_abs (value12 t d g a) ≤ n
  value12-small d g a =
      free-small (free_value (after_at t 0 g a) (after_at t 2 (g ⊕ d) (a ⊕ g))) (free_value (after_at t 1 d (a ⊕ d)) (after_at t 3 false (a ⊕ d ⊕ g))) n
      (free-small (after_at t 0 g a) (after_at t 2 (g ⊕ d) (a ⊕ g)) n (after_small 0 (omega arith) g a) (after_small 2 (omega arith) (g ⊕ d) (a ⊕ g)))
      (free-small (after_at t 1 d (a ⊕ d)) (after_at t 3 false (a ⊕ d ⊕ g)) n (after_small 1 (omega arith) d (a ⊕ d)) (after_small 3 (omega arith) false (a ⊕ d ⊕ g)))
