-- One lane of a path's places, as the code has them. Assumes nothing.
use mathlib.Core.Path.{◌≡◌, ap, ◌∙◌}
use mathlib.Core.Bool.{Bool, true, false}
use mathlib.Core.List.{List, []}
use Prim.Native.Nat.{ℕ, ◌+◌, ◌*◌, ◌≤◌, ◌<◌, min}
use native.Mathlib.Omega.{arith}
use lib.ListN.{get_or}
use Rattle.base.specs.Bit.{◌⊕◌, digit}
use Rattle.polar.specs.Code.{Costs}
use Rattle.polar.specs.Fold.{free_fold, known_fold}
use Rattle.folds.specs.Rows.{select, cell, Pays}
use Rattle.folds.proofs.Pairs.{known-pays, free-pays, select-le}
use Rattle.lane.specs.Lanes.{lane_bits, lane_bit, LanesWithin}
use Rattle.lane_paths.specs.Places.{two_costs}

-- ---- the node of a place

digit-le : (b : Bool) → digit b ≤ 1
digit-le false = omega arith
digit-le true = omega arith

-- It is one of the sixteen.
pub node-inside : (f : ℕ → Bool) (j n : ℕ) → j < 8 → n ≡ 8 * digit (f j) + j → n < 16
node-inside f j n l e = omega (arith, digit-le (f j))

-- n is the node of place j.
pub record NodeOf (f : ℕ → Bool) (j n : ℕ) : Type 0 where
  pub is : n ≡ 8 * digit (f j) + j
  pub inside : n < 16

pub node_of : (f : ℕ → Bool) (j n : ℕ) → j < 8 → n ≡ 8 * digit (f j) + j → NodeOf f j n
node_of f j n l e = record { is = e; inside = omega (arith, digit-le (f j)) }

-- The nodes of all eight places, and that no node pays much.
pub record Nodes (nodes : List (List (List ℕ))) (f : ℕ → Bool) (n0 n1 n2 n3 n4 n5 n6 n7 : ℕ) : Type 0 where
  pub most : LanesWithin 4095 nodes
  pub first : NodeOf f 0 n0
  pub second : NodeOf f 1 n1
  pub third : NodeOf f 2 n2
  pub fourth : NodeOf f 3 n3
  pub fifth : NodeOf f 4 n4
  pub sixth : NodeOf f 5 n5
  pub seventh : NodeOf f 6 n6
  pub eighth : NodeOf f 7 n7

-- ---- two numbers held for a place

-- They are what place j pays, and at most n.
pub record PaysAtMost (m : Costs) (j n x y : ℕ) : Type 0 where
  pub pays : Pays m j x y
  pub zero-le : x ≤ n
  pub one-le : y ≤ n

-- Of two places folded onto one.
module _ (h j : ℕ) (m : Costs) (n p q s t u v : ℕ) (first : PaysAtMost m j n p q) (second : PaysAtMost m (h + j) n s t) where
  pub known-held : (x : ℕ → Bool) (c : Bool) → c ≡ x j → (u ≡ select p q c + s) × (v ≡ select q p c + t) → PaysAtMost (known_fold h x m) j (n + n) u v
  known-held x c e k =
      record {
        pays = known-pays h j m p q s t u v first.pays second.pays x c e k.0 k.1;
        zero-le = omega (arith, k.0, select-le p q n c first.zero-le first.one-le, second.zero-le);
        one-le = omega (arith, k.1, select-le q p n c first.one-le first.zero-le, second.one-le);
      }

  pub free-held : (u ≡ min (p + s) (q + t)) × (v ≡ min (q + s) (p + t)) → PaysAtMost (free_fold h m) j (n + n) u v
  free-held k =
      record {
        pays = free-pays h j m p q s t u v first.pays second.pays k.0 k.1;
        zero-le = omega (arith, k.0, first.zero-le, second.zero-le);
        one-le = omega (arith, k.1, first.one-le, second.zero-le);
      }

-- ---- the first two folds

-- Node n pays in lane l what place j of c does.
abbrev pub Stands : List (List (List ℕ)) → ℕ → Costs → ℕ → ℕ → Type 0
Stands nodes l c j n = (b : Bool) → cell 0 (get_or nodes n []) l b ≡ c j b

-- x and y are what a first fold f leaves at place j, where nodes i and k are its places, and small.
pub record AtPlace (nodes : List (List (List ℕ))) (i k l : ℕ) (f : Costs → Costs) (j x y : ℕ) : Type 0 where
  pub zero-le : x ≤ 8190
  pub one-le : y ≤ 8190
  pub pays : (c : Costs) → Stands nodes l c j i → Stands nodes l c (4 + j) k → Pays (f c) j x y

-- What is read of nodes i and k in lane l:
module _ (nodes : List (List (List ℕ))) (i k l p q s t : ℕ) (most : LanesWithin 4095 nodes) (li : i < 16) (lk : k < 16) (ll : l < 16)
    (a : (p ≡ cell 0 (get_or nodes i []) l false) × (q ≡ cell 0 (get_or nodes i []) l true))
    (b : (s ≡ cell 0 (get_or nodes k []) l false) × (t ≡ cell 0 (get_or nodes k []) l true)) where
  -- it is small,
  pub read_small : (p ≤ 4095) × (q ≤ 4095) × (s ≤ 4095) × (t ≤ 4095)
  read_small = (omega (arith, a.0, most i li l false ll), omega (arith, a.1, most i li l true ll), omega (arith, b.0, most k lk l false ll), omega (arith, b.1, most k lk l true ll))

  -- as the folds ask,
  pub read-asks : (p ≤ 16383) × (q ≤ 16383) × (s ≤ 16383) × (t ≤ 16383)
  read-asks =
      let r = read_small in
      (omega (arith, r.0), omega (arith, r.1), omega (arith, r.2), omega (arith, r.3))

  -- and folded it is what the place pays, free
  pub free-place : (u v : ℕ) → (u ≡ min (p + s) (q + t)) × (v ≡ min (q + s) (p + t)) → (j : ℕ) → AtPlace nodes i k l (free_fold 4) j u v
  free-place u v e j =
      let r = read_small in
      record {
        zero-le = omega (arith, e.0, r.0, r.2);
        one-le = omega (arith, e.1, r.1, r.2);
        pays = λ c f g. free-pays 4 j c p q s t u v (a.0 ∙ f false, a.1 ∙ f true) (b.0 ∙ g false, b.1 ∙ g true) e.0 e.1;
      }

  -- or known.
  pub known-place : (u v : ℕ) (d : Bool) → (u ≡ select p q d + s) × (v ≡ select q p d + t) → (w : ℕ → Bool) (j : ℕ) → d ≡ w j → AtPlace nodes i k l (known_fold 4 w) j u v
  known-place u v d e w j h =
      let r = read_small in
      record {
        zero-le = omega (arith, e.0, select-le p q 4095 d r.0 r.1, r.2);
        one-le = omega (arith, e.1, select-le q p 4095 d r.1 r.0, r.3);
        pays = λ c f g. known-pays 4 j c p q s t u v (a.0 ∙ f false, a.1 ∙ f true) (b.0 ∙ g false, b.1 ∙ g true) w d h e.0 e.1;
      }

-- The bit of a lane by the lane's flag.
pub lane-bit : (flags : List ℕ) (plane l : ℕ) (r : Bool) → flags ≡ lane_bits → l < 16
    → ((i : ℕ) → i < 16 → get_or flags l 0 ≡ get_or lane_bits i 0 → r ≡ lane_bit plane i) → r ≡ lane_bit plane l
lane-bit flags plane l r e ll h = h l ll (ap (λ x. get_or x l 0) e)

-- ---- the last fold

-- What the two places that are left pay.
pub two-held : (rows : List (List ℕ)) (l i x y : ℕ) → ((i l : ℕ) (b : Bool) → i < 2 → l < 16 → two_costs rows l i b ≤ 16383) → i < 2 → l < 16
    → Pays (two_costs rows l) i x y → PaysAtMost (two_costs rows l) i 16383 x y
two-held rows l i x y most li ll p =
    record { pays = p; zero-le = omega (arith, p.0, most i l false li ll); one-le = omega (arith, p.1, most i l true li ll) }

-- What the place that is left pays for the bit c and 0, and for it and 1.
pub turned-pays : (m : Costs) (j p q u v : ℕ) (r c : Bool) → Pays m j p q → r ≡ c → (u ≡ select p q r) × (v ≡ select q p r)
    → (u ≡ m j (c ⊕ false)) × (v ≡ m j (c ⊕ true))
turned-pays m j p q u v r c h e k = (k.0 ∙ at r ∙ ap (λ b. m j (b ⊕ false)) e, k.1 ∙ at' r ∙ ap (λ b. m j (b ⊕ true)) e)
  where
    at : (r : Bool) → select p q r ≡ m j (r ⊕ false)
    at true = h.1
    at false = h.0

    at' : (r : Bool) → select q p r ≡ m j (r ⊕ true)
    at' true = h.0
    at' false = h.1
