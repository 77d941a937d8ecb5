-- Integers as differences of natural numbers, in which omega decides what it does not decide in integers. Assumes nothing.
use mathlib.Core.Path.{◌≡◌, refl, sym, ap, ◌∙◌}
use Prim.Native.Nat.{ℕ, suc, ◌+◌, ◌-◌, ◌≤◌, ◌<◌, max}
use native.Mathlib.Decide.{dec_lt}
use native.Mathlib.Omega.{arith}
use borrow.Author.Tests.{lt-ltb, le-ltb}
use lib.Dec.{ltb}
use lib.IntN.{ℤ, pos, negsuc, nat_abs, neg_ℤ, sub_ℕ, ◌+ℤ◌, ◌-ℤ◌}
use lib.Signed.{lt_z}
use Rattle.values.specs.Value.{greater}

-- What an integer has above 0 and below it,
abbrev pub up : ℤ → ℕ
up (pos n) = n
up (negsuc n) = 0

abbrev pub down : ℤ → ℕ
down (pos n) = 0
down (negsuc n) = suc n

-- which together are its size,
pub up-down : (z : ℤ) → up z + down z ≡ nat_abs z
up-down (pos n) = omega arith
up-down (negsuc n) = omega arith

-- and of which it is the difference.
pub as-sub : (z : ℤ) → z ≡ sub_ℕ (up z) (down z)
as-sub (pos n) = let h : 0 ≤ n = omega arith in rw (le-ltb n 0 h) (ap pos (omega arith))
as-sub (negsuc n) = let h : 0 < suc n = omega arith in rw (lt-ltb 0 (suc n) h) (ap negsuc (omega arith))

-- Differences are equal where their sums across are.
pub sub-eq : (a b c d : ℕ) → a + d ≡ c + b → sub_ℕ a b ≡ sub_ℕ c d
sub-eq a b c d e = go (dec_lt a b)
  where
    go : Dec (a < b) → sub_ℕ a b ≡ sub_ℕ c d
    go (yes l) = let h : c < d = omega (arith, e) in rw (lt-ltb a b l, lt-ltb c d h) (ap negsuc (omega (arith, e)))
    go (no l) =
        let h : d ≤ c = omega (arith, e) in
        let l' : b ≤ a = omega arith in
        rw (le-ltb a b l', le-ltb c d h) (ap pos (omega (arith, e)))

-- The sum of two differences,
pub sub-add : (a b c d : ℕ) → sub_ℕ a b +ℤ sub_ℕ c d ≡ sub_ℕ (a + c) (b + d)
sub-add a b c d = go (dec_lt a b) (dec_lt c d)
  where
    go : Dec (a < b) → Dec (c < d) → sub_ℕ a b +ℤ sub_ℕ c d ≡ sub_ℕ (a + c) (b + d)
    go (yes l) (yes k) =
        let h : a + c < b + d = omega arith in
        rw (lt-ltb a b l, lt-ltb c d k, lt-ltb (a + c) (b + d) h) (ap negsuc (omega arith))
    go (yes l) (no k) =
        let k' : d ≤ c = omega arith in
        rw (lt-ltb a b l, le-ltb c d k') (sub-eq (c - d) (suc (b - suc a)) (a + c) (b + d) (omega arith))
    go (no l) (yes k) =
        let l' : b ≤ a = omega arith in
        rw (le-ltb a b l', lt-ltb c d k) (sub-eq (a - b) (suc (d - suc c)) (a + c) (b + d) (omega arith))
    go (no l) (no k) =
        let l' : b ≤ a = omega arith in
        let k' : d ≤ c = omega arith in
        let h : b + d ≤ a + c = omega arith in
        rw (le-ltb a b l', le-ltb c d k', le-ltb (a + c) (b + d) h) (ap pos (omega arith))

-- minus a difference,
pub sub-neg : (a b : ℕ) → neg_ℤ (sub_ℕ a b) ≡ sub_ℕ b a
sub-neg a b = go (dec_lt a b) (dec_lt b a)
  where
    go : Dec (a < b) → Dec (b < a) → neg_ℤ (sub_ℕ a b) ≡ sub_ℕ b a
    go (yes l) k = let h : a ≤ b = omega arith in rw (lt-ltb a b l, le-ltb b a h) (ap pos (omega arith))
    go (no l) (yes k) =
        let h : b ≤ a = omega arith in
        rw (le-ltb a b h) (ap (λ x. neg_ℤ (pos x)) {x = a - b} {y = suc (a - suc b)} (omega arith) ∙ sym (rw (lt-ltb b a k) refl))
    go (no l) (no k) =
        let e : a ≡ b = omega arith in
        let h : b ≤ b = omega arith in
        rw (e, le-ltb b b h) (ap (λ x. neg_ℤ (pos x)) {x = b - b} {y = 0} (omega arith) ∙ ap pos (omega arith))

-- the difference of two,
pub sub-sub : (a b c d : ℕ) → sub_ℕ a b -ℤ sub_ℕ c d ≡ sub_ℕ (a + d) (b + c)
sub-sub a b c d = ap (λ x. sub_ℕ a b +ℤ x) (sub-neg c d) ∙ sub-add a b d c

-- their order,
pub lt_z-sub : (a b c d : ℕ) → lt_z (sub_ℕ a b) (sub_ℕ c d) ≡ ltb (a + d) (c + b)
lt_z-sub a b c d = go (dec_lt a b) (dec_lt c d) (dec_lt (a + d) (c + b))
  where
    go : Dec (a < b) → Dec (c < d) → Dec (a + d < c + b) → lt_z (sub_ℕ a b) (sub_ℕ c d) ≡ ltb (a + d) (c + b)
    go (yes l) (yes k) (yes h) =
        let g : d - suc c < b - suc a = omega arith in
        rw (lt-ltb a b l, lt-ltb c d k, lt-ltb (a + d) (c + b) h, lt-ltb (d - suc c) (b - suc a) g) refl
    go (yes l) (yes k) (no h) =
        let g : b - suc a ≤ d - suc c = omega arith in
        let h' : c + b ≤ a + d = omega arith in
        rw (lt-ltb a b l, lt-ltb c d k, le-ltb (a + d) (c + b) h', le-ltb (d - suc c) (b - suc a) g) refl
    go (yes l) (no k) h =
        let k' : d ≤ c = omega arith in
        let h' : a + d < c + b = omega arith in
        rw (lt-ltb a b l, le-ltb c d k', lt-ltb (a + d) (c + b) h') refl
    go (no l) (yes k) h =
        let l' : b ≤ a = omega arith in
        let h' : c + b ≤ a + d = omega arith in
        rw (le-ltb a b l', lt-ltb c d k, le-ltb (a + d) (c + b) h') refl
    go (no l) (no k) (yes h) =
        let l' : b ≤ a = omega arith in
        let k' : d ≤ c = omega arith in
        let g : a - b < c - d = omega arith in
        rw (le-ltb a b l', le-ltb c d k', lt-ltb (a + d) (c + b) h, lt-ltb (a - b) (c - d) g) refl
    go (no l) (no k) (no h) =
        let l' : b ≤ a = omega arith in
        let k' : d ≤ c = omega arith in
        let h' : c + b ≤ a + d = omega arith in
        let g : c - d ≤ a - b = omega arith in
        rw (le-ltb a b l', le-ltb c d k', le-ltb (a + d) (c + b) h', le-ltb (a - b) (c - d) g) refl

-- and the greater one.
pub sub-greater : (a b c d : ℕ) → greater (sub_ℕ a b) (sub_ℕ c d) ≡ sub_ℕ (max (a + d) (c + b)) (b + d)
sub-greater a b c d = go (dec_lt (a + d) (c + b))
  where
    go : Dec (a + d < c + b) → greater (sub_ℕ a b) (sub_ℕ c d) ≡ sub_ℕ (max (a + d) (c + b)) (b + d)
    go (yes l) = rw (lt_z-sub a b c d, lt-ltb (a + d) (c + b) l) (sub-eq c d (max (a + d) (c + b)) (b + d) (omega arith))
    go (no l) =
        let h : c + b ≤ a + d = omega arith in
        rw (lt_z-sub a b c d, le-ltb (a + d) (c + b) h) (sub-eq a b (max (a + d) (c + b)) (b + d) (omega arith))

-- The size of a difference is within what each number has above the other.
pub sub-size : (a b n : ℕ) → a ≤ b + n → b ≤ a + n → nat_abs (sub_ℕ a b) ≤ n
sub-size a b n p q = go (dec_lt a b)
  where
    go : Dec (a < b) → nat_abs (sub_ℕ a b) ≤ n
    go (yes l) = rw (lt-ltb a b l) (omega arith)
    go (no l) = let h : b ≤ a = omega arith in rw (le-ltb a b h) (omega arith)
