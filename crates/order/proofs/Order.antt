-- The table is the information order, by one computed test for each rule, and the rules fix it. Assumes nothing.
use mathlib.Core.Path.{◌≡◌, refl, sym}
use mathlib.Core.Bool.{Bool, true, false, ◌&&◌, ◌||◌, and-eq-true_iff, false≢true}
use mathlib.Core.List.Memᴰ
use mathlib.Core.List.{List, [], ◌∷◌, Memᴰ}
use mathlib.Core.Logic.{inl, inr}
use Prim.Native.Nat.{ℕ, suc, ◌<◌}
use native.Mathlib.Omega.{arith}
use borrow.Author.Tests.{ltb-true, eqb-true}
use lib.Dec.{ltb, eqb}
use lib.ListN.{length, get_or}
use Rattle.base.specs.Bit.{every}
use Rattle.base.proofs.Bool.{every-at}
use Rattle.order.specs.Order.{distance_product, Before, IsOrder, order, among}
use Rattle.order.proofs.Sorted.{Neighbours, in-at, index_of, sorted-only}

-- ---- the tests

pub order-count : length order ≡ 256
unfolding order
order-count = refl

phases-test : every 256 (λ i. ltb (get_or order i 0) 256) ≡ true
unfolding every order
phases-test = refl

all-test : every 256 (λ x. among x order) ≡ true
unfolding every among order
all-test = refl

-- Whether a phase comes before another.
unfoldable before : ℕ → ℕ → Bool
before x y = ltb (distance_product y) (distance_product x) || (eqb (distance_product y) (distance_product x) && ltb y x)

falling-test : every 255 (λ i. before (get_or order i 0) (get_or order (suc i) 0)) ≡ true
unfolding every before distance_product order
falling-test = refl

-- ---- what they show

before-is : (x y : ℕ) → before x y ≡ true → Before x y
unfolding before
before-is x y t = go (ltb (distance_product y) (distance_product x)) refl t
  where
    go : (c : Bool) → ltb (distance_product y) (distance_product x) ≡ c → (c || (eqb (distance_product y) (distance_product x) && ltb y x)) ≡ true → Before x y
    go true e t = inl (ltb-true (distance_product y) (distance_product x) e)
    go false e t =
        let h = (and-eq-true_iff (eqb (distance_product y) (distance_product x)) (ltb y x)).0 t in
        inr (eqb-true (distance_product y) (distance_product x) h.0, ltb-true y x h.1)

among_in : (x : ℕ) (l : List ℕ) → among x l ≡ true → Memᴰ x l
unfolding among
among_in x [] t = absurd (false≢true t)
among_in x (y ∷ l) t = go (eqb x y) refl t (among_in x l)
  where
    go : (c : Bool) → eqb x y ≡ c → (c || among x l) ≡ true → (among x l ≡ true → Memᴰ x l) → Memᴰ x (y ∷ l)
    go true e t r = Memᴰ.head (eqb-true x y e)
    go false e t r = Memᴰ.tail (r t)

pub order-phase : (i : ℕ) → i < 256 → get_or order i 0 < 256
order-phase i l = ltb-true (get_or order i 0) 256 (every-at 256 (λ i. ltb (get_or order i 0) 256) phases-test i l)

order-all : (x : ℕ) → x < 256 → (i : ℕ) × (i < 256) × (get_or order i 0 ≡ x)
order-all x l =
    let r = index_of order x (among_in x order (every-at 256 (λ x. among x order) all-test x l)) in
    (r.0, omega (arith, r.1, order-count), r.2)

-- The table is the information order,
pub order_is : IsOrder order
order_is =
    record {
      count = order-count;
      phases = order-phase;
      all = order-all;
      falling = λ i l. before-is _ _ (every-at 255 (λ i. before (get_or order i 0) (get_or order (suc i) 0)) falling-test i l);
    }

before-trans : (x y z : ℕ) → Before x y → Before y z → Before x z
before-trans x y z (inl a) (inl b) = inl (omega arith)
before-trans x y z (inl a) (inr b) = inl (omega arith)
before-trans x y z (inr a) (inl b) = inl (omega arith)
before-trans x y z (inr a) (inr b) = inr (omega arith, omega arith)

before-irr : (x : ℕ) → Before x x → ⊥
before-irr x (inl a) = omega arith
before-irr x (inr a) = omega arith

-- What stands in one list of the phases stands in the other.
stands : (l m : List ℕ) → IsOrder l → IsOrder m → (x : ℕ) → Memᴰ x l → Memᴰ x m
stands l m o q x k =
    let r = index_of l x k in
    let b : x < 256 = rw r.2 at (o.phases r.0 (omega (arith, r.1, o.count))) in
    let p = q.all x b in
    Memᴰ.cast (sym p.2) (in-at m p.0 (omega (arith, p.1, q.count)))

neighbours : (l : List ℕ) → IsOrder l → Neighbours Before l
neighbours l o i h = o.falling i (omega (arith, o.count))

-- and no other list is.
pub order-only : (l : List ℕ) → IsOrder l → l ≡ order
order-only l o =
    sorted-only Before before-trans before-irr l order (neighbours l o) (neighbours order order_is) (stands l order o order_is) (stands order l order_is o)
