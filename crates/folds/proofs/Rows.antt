-- Laws of the greatest of a row of scores, and of the least of some numbers. Assumes nothing.
use mathlib.Core.Path.{◌≡◌, refl, sym, ap, ap₂, ◌∙◌}
use mathlib.Core.Bool.{Bool, true, false, cond, false≢true}
use mathlib.Core.List.{List, ◌∷◌}
use Prim.Native.Nat.{ℕ, zero, suc, ◌+◌, ◌-◌, ◌*◌, ◌^◌, ◌≤◌, ◌<◌, min}
use native.Mathlib.Decide.{dec_le}
use native.Mathlib.Nat.{le_antisymm, le-min, two-pow-succ, div-eq_of_lt, mul-add-mod_self_right, one-mul}
use native.Mathlib.Omega.{arith}
use borrow.Author.Count.{below_more}
use borrow.Author.Tests.{ltb-true}
use lib.Dec.{leb→le, le→leb, not_T}
use lib.IntN.{ℤ, pos, negsuc, neg_ℤ}
use lib.ListN.{get_or}
use lib.Pow.{pow_pos, high}
use lib.Signed.{lt_z, ◌≤ℤ◌, le_z_yes, lt_z_yes, lt_z_no, ≤ℤ_refl, <ℤ-≤ℤ_trans, clash_ℤ}
use Rattle.std.specs.Int.{int_max}
use Rattle.base.specs.Bit.{odd}
use Rattle.bits.specs.Packed.{bits}
use Rattle.bits.proofs.Packed.{bits-mod}
use Rattle.polar.specs.Code.{minimum}
use Rattle.folds.specs.Rows.{IsGreatest, least_to}

-- ---- the least of some numbers

-- None of the numbers is less than their least.
pub least_to-le : (g : ℕ → ℕ) (k j : ℕ) → j ≤ k → least_to g k ≤ g j
unfolding least_to
least_to-le g zero j l = let e : j ≡ 0 = omega arith in rw e (omega arith)
least_to-le g (suc k) j l = go (dec_le j k) (least_to-le g k j)
  where
    go : Dec (j ≤ k) → (j ≤ k → least_to g k ≤ g j) → min (least_to g k) (g (suc k)) ≤ g j
    go (yes m) r = omega (arith, r m)
    go (no m) r = let e : j ≡ suc k = omega arith in rw e (omega arith)

-- What is at most each of the numbers is at most their least.
pub least_to-ge : (g : ℕ → ℕ) (k x : ℕ) → ((j : ℕ) → j ≤ k → x ≤ g j) → x ≤ least_to g k
unfolding least_to
least_to-ge g zero x h = h 0 (omega arith)
least_to-ge g (suc k) x h = le-min (least_to-ge g k x (λ j l. h j (omega arith))) (h (suc k) (omega arith))

-- Numbers that are equal have the same least.
pub least_to-ext : (f g : ℕ → ℕ) (k : ℕ) → ((j : ℕ) → j ≤ k → f j ≡ g j) → least_to f k ≡ least_to g k
unfolding least_to
least_to-ext f g zero h = h 0 (omega arith)
least_to-ext f g (suc k) h = ap₂ min (least_to-ext f g k (λ j l. h j (omega arith))) (h (suc k) (omega arith))

-- The least of two runs is the lesser of their leasts.
pub least_to-split : (g : ℕ → ℕ) (a b : ℕ) → least_to g (suc (a + b)) ≡ min (least_to g a) (least_to (λ j. g (suc a + j)) b)
unfolding least_to
least_to-split g a zero =
    let e : a + 0 ≡ a = omega arith in
    let d : suc (a + 0) ≡ suc a + 0 = omega arith in
    ap₂ min (ap (least_to g) e) (ap g d)
least_to-split g a (suc b) =
    let p : a + suc b ≡ suc (a + b) = omega arith in
    let q : suc (a + suc b) ≡ suc a + suc b = omega arith in
    omega (arith, ap (least_to g) p, least_to-split g a b, ap g q)

-- ---- over lists of bits

bits_below : (k w : ℕ) → w < 2 ^ k → bits (suc k) w ≡ false ∷ bits k w
unfolding bits
bits_below k w l = ap (λ x. odd x ∷ bits k w) (div-eq_of_lt l)

bits_above : (k j : ℕ) → j < 2 ^ k → bits (suc k) (1 * 2 ^ k + j) ≡ true ∷ bits k j
unfolding bits
bits_above k j l =
    ap₂ (λ x t. odd x ∷ t) (high 1 k l)
    (sym (bits-mod k (1 * 2 ^ k + j)) ∙ ap (bits k) (mul-add-mod_self_right 1 (2 ^ k) j) ∙ bits-mod k j)

-- The least over all lists of d bits is the least over the numbers below 2 ^ d, by their bits.
pub lowest-index : (d : ℕ) (f : List Bool → ℕ) → minimum d f ≡ least_to (λ w. f (bits d w)) (2 ^ d - 1)
unfolding minimum least_to bits
lowest-index zero f = refl
lowest-index (suc k) f = go (2 ^ k - 1) (omega (arith, pow_pos k)) (lowest-index k (λ t. f (false ∷ t))) (lowest-index k (λ t. f (true ∷ t)))
  where
    go : (a : ℕ) → suc a ≡ 2 ^ k → minimum k (λ t. f (false ∷ t)) ≡ least_to (λ w. f (false ∷ bits k w)) (2 ^ k - 1)
        → minimum k (λ t. f (true ∷ t)) ≡ least_to (λ w. f (true ∷ bits k w)) (2 ^ k - 1)
        → min (minimum k (λ t. f (false ∷ t))) (minimum k (λ t. f (true ∷ t))) ≡ least_to (λ w. f (bits (suc k) w)) (2 ^ suc k - 1)
    go a e p q =
        let m : 2 ^ k - 1 ≡ a = omega arith in
        let n : 2 ^ suc k - 1 ≡ suc (a + a) = omega (arith, two-pow-succ k) in
        ap₂ min
        (p ∙ ap (least_to (λ w. f (false ∷ bits k w))) m ∙ sym (least_to-ext _ _ a (λ j l. ap f (bits_below k j (omega arith)))))
        (q
        ∙ ap (least_to (λ w. f (true ∷ bits k w))) m
        ∙ sym (least_to-ext _ _ a (λ j l. let s : suc a + j ≡ 1 * 2 ^ k + j = omega (arith, one-mul (2 ^ k)) in ap (λ w. f (bits (suc k) w)) s ∙ ap f (bits_above k j (omega arith)))))
        ∙ sym (ap (least_to (λ w. f (bits (suc k) w))) n ∙ least_to-split (λ w. f (bits (suc k) w)) a a)

-- ---- the greatest of a row

lt-le : (a b : ℤ) → lt_z a b ≡ true → a ≤ℤ b
lt-le (pos a) (pos b) t = le_z_yes (le→leb a b (omega (arith, ltb-true a b t)))
lt-le (pos a) (negsuc b) t = absurd (false≢true t)
lt-le (negsuc a) (pos b) t = le_z_yes tt
lt-le (negsuc a) (negsuc b) t = le_z_yes (le→leb b a (omega (arith, ltb-true b a t)))

le_trans : (a b c : ℤ) → a ≤ℤ b → b ≤ℤ c → a ≤ℤ c
le_trans a b c h k = lt_z_no (not_T (lt_z c a) (λ t. clash_ℤ (<ℤ-≤ℤ_trans (lt_z_yes t) h) k))

-- The first score is the greatest of one score.
pub greatest-one : (row : List ℤ) → IsGreatest row 1 (get_or row 0 (pos 0))
greatest-one row =
    record {
      place = 0;
      inside = omega arith;
      had = refl;
      top = λ w l. let e : w ≡ 0 = omega arith in rw e (≤ℤ_refl (get_or row 0 (pos 0)));
    }

-- The greater of the greatest of some scores and the next score is the greatest of one more.
pub greatest-next : (row : List ℤ) (i : ℕ) (m r : ℤ) → IsGreatest row i m → r ≡ int_max m (get_or row i (pos 0)) → IsGreatest row (i + 1) r
greatest-next row i m r h e = rw e (go (lt_z x m) refl)
  where
    x : ℤ
    x = get_or row i (pos 0)

    go : (t : Bool) → lt_z x m ≡ t → IsGreatest row (i + 1) (cond t m x)
    go true t =
        let l = h.inside in
        record { place = h.place; inside = omega arith; had = h.had; top = λ w l. below_more _ i h.top (lt-le x m t) w l }
    go false t =
        let no : m ≤ℤ x = lt_z_no (rw t tt) in
        record {
          place = i;
          inside = omega arith;
          had = refl;
          top = λ w l. below_more _ i (λ k q. le_trans _ m _ (h.top k q) no) (≤ℤ_refl x) w l;
        }

le-neg : (a b : ℕ) → neg_ℤ (pos b) ≤ℤ neg_ℤ (pos a) → a ≤ b
le-neg zero b h = omega arith
le-neg (suc a) zero h = absurd h.le
le-neg (suc a) (suc b) h = omega (arith, leb→le a b h.le)

-- Where the scores are minus some numbers, the greatest score is minus their least.
pub greatest-least : (row : List ℤ) (n : ℕ) (r : ℤ) (g : ℕ → ℕ) → IsGreatest row n r
    → ((w : ℕ) → w < n → get_or row w (pos 0) ≡ neg_ℤ (pos (g w))) → r ≡ neg_ℤ (pos (least_to g (n - 1)))
greatest-least row n r g h e =
    let p = h.place in
    let l = h.inside in
    let at : r ≡ neg_ℤ (pos (g p)) = sym h.had ∙ e p l in
    let up : (j : ℕ) → j ≤ n - 1 → g p ≤ g j = λ j m. let i : j < n = omega arith in le-neg _ _ (rw (e j i, at) at (h.top j i)) in
    at ∙ ap (λ x. neg_ℤ (pos x)) (le_antisymm (least_to-ge g (n - 1) (g p) up) (least_to-le g (n - 1) p (omega arith)))
