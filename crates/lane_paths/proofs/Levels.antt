-- The levels of a path from eight places on, as the code goes through them. Assumes nothing.
use mathlib.Core.Path.{◌≡◌, refl, sym, ap, ◌∙◌}
use mathlib.Core.Bool.{Bool}
use mathlib.Core.List.{List}
use Prim.Native.Nat.{ℕ, ◌+◌, ◌-◌, ◌*◌, ◌/◌, ◌%◌, ◌≤◌, ◌<◌}
use native.Mathlib.Omega.{arith}
use Rattle.base.specs.Bit.{◌⊕◌, digit}
use Rattle.polar.specs.Code.{Costs}
use Rattle.polar.specs.Fold.{free_fold, known_fold, level, folded}
use Rattle.windows.proofs.Levels.{known-level, free-level, next_level, level-le}
use Rattle.lane.specs.Lanes.{node_costs, LanesWithin}
use Rattle.lane_paths.proofs.Turn.{node-inside}

-- After n known v, whose words stand in y one after the other:
module _ (n : ℕ) (y : ℕ → Bool) (m : Costs) where
  abbrev y4 : ℕ → Bool
  y4 j = y (n / 8 * 8 + j)

  abbrev y2 : ℕ → Bool
  y2 j = y (n / 4 * 4 + j)

  abbrev y1 : ℕ → Bool
  y1 j = y (n / 2 * 2 + j)

  abbrev four : Costs
  four = level 4 (n % 8) y4 m

  -- the first two levels, in each quarter of eight,
  pub onto-0 : n % 8 < 2 → free_fold 2 (free_fold 4 m) ≡ level 2 (n % 4) y2 four
  onto-0 l = ap (free_fold 2) (free-level 4 (n % 8) y4 m (omega arith)) ∙ free-level 2 (n % 4) y2 four (omega arith)

  pub onto-1 : 2 ≤ n % 8 → n % 8 < 4 → known_fold 2 y2 (free_fold 4 m) ≡ level 2 (n % 4) y2 four
  onto-1 k l = ap (known_fold 2 y2) (free-level 4 (n % 8) y4 m (omega arith)) ∙ known-level 2 (n % 4) y2 four (omega arith)

  pub onto-2 : 4 ≤ n % 8 → n % 8 < 6 → free_fold 2 (known_fold 4 y4 m) ≡ level 2 (n % 4) y2 four
  onto-2 k l = ap (free_fold 2) (known-level 4 (n % 8) y4 m (omega arith)) ∙ free-level 2 (n % 4) y2 four (omega arith)

  pub onto-3 : 6 ≤ n % 8 → known_fold 2 y2 (known_fold 4 y4 m) ≡ level 2 (n % 4) y2 four
  onto-3 k = ap (known_fold 2 y2) (known-level 4 (n % 8) y4 m (omega arith)) ∙ known-level 2 (n % 4) y2 four (omega arith)

  -- and the last one, by what the first two leave.
  module _ (two : Costs) (h : (i : ℕ) (b : Bool) → i < 2 → two i b ≡ level 2 (n % 4) y2 four i b) where
    last : (b : Bool) → level 1 (n % 2) y1 two 0 b ≡ folded 3 (n % 8) y4 m 0 b
    unfolding folded
    last b =
        let r4 : n % 8 % 4 ≡ n % 4 = omega arith in
        let r2 : n % 4 % 2 ≡ n % 2 = omega arith in
        let r1 : n % 2 % 1 ≡ 0 = omega arith in
        sym
        (next_level 2 (n % 8) (n % 4) y4 y2 m four r4 (λ j. ap y (omega arith)) (λ j d l. refl) b
        ∙ next_level 1 (n % 4) (n % 2) y2 y1 four two r2 (λ j. ap y (omega arith)) h b
        ∙ next_level 0 (n % 2) 0 y1 (λ j. y (n + j)) two (level 1 (n % 2) y1 two) r1 (λ j. ap y (omega arith)) (λ j d l. refl) b)

    pub last-free : n % 2 ≡ 0 → (b : Bool) → free_fold 1 two 0 b ≡ folded 3 (n % 8) y4 m 0 b
    last-free e b = ap (λ (c : Costs). c 0 b) (free-level 1 (n % 2) y1 two (omega arith)) ∙ last b

    pub last-known : (n % 2 ≡ 0 → ⊥) → (b : Bool) → known_fold 1 (λ _. y (n - 1)) two 0 b ≡ folded 3 (n % 8) y4 m 0 b
    last-known e b =
        let s : n - 1 ≡ n / 2 * 2 + 0 = omega arith in
        ap (λ i. two 0 (y i ⊕ b) + two (1 + 0) b) s ∙ ap (λ (c : Costs). c 0 b) (known-level 1 (n % 2) y1 two (omega arith)) ∙ last b

  -- The same by words that have those bits at the places where they are read.
  pub read-1 : (x : ℕ → Bool) (i : ℕ) (b : Bool) → x i ≡ y2 i → known_fold 2 x (free_fold 4 m) i b ≡ known_fold 2 y2 (free_fold 4 m) i b
  read-1 x i b e = ap (λ c. free_fold 4 m i (c ⊕ b) + free_fold 4 m (2 + i) b) e

  pub read-2 : (w : ℕ → Bool) (i : ℕ) (b : Bool) → w i ≡ y4 i → w (2 + i) ≡ y4 (2 + i) → free_fold 2 (known_fold 4 w m) i b ≡ free_fold 2 (known_fold 4 y4 m) i b
  read-2 w i b e f = rw (e, f) refl

  pub read-3 : (x w : ℕ → Bool) (i : ℕ) (b : Bool) → x i ≡ y2 i → w i ≡ y4 i → w (2 + i) ≡ y4 (2 + i)
      → known_fold 2 x (known_fold 4 w m) i b ≡ known_fold 2 y2 (known_fold 4 y4 m) i b
  read-3 x w i b e f g = rw (e, f, g) refl

  -- They stay within four times a bound.
  pub two-le : (b : ℕ) → ((j : ℕ) (d : Bool) → j < 8 → m j d ≤ b) → (i : ℕ) (d : Bool) → i < 2 → level 2 (n % 4) y2 four i d ≤ (b + b) + (b + b)
  two-le b most = level-le 2 (n % 4) y2 four (b + b) (level-le 4 (n % 8) y4 m b most)

-- A node's costs are within the bound of all.
pub node-le : (nodes : List (List (List ℕ))) (f : ℕ → Bool) (l : ℕ) → LanesWithin 4095 nodes → l < 16 → (j : ℕ) (b : Bool) → j < 8 → node_costs nodes f l j b ≤ 4095
node-le nodes f l most ll j b lj = most (8 * digit (f j) + j) (node-inside f j _ lj refl) l b ll
