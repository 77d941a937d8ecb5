-- The butterfly of 2 ^ t values, for any t, gives their Hadamard transform. Assumes nothing.
use mathlib.Core.Path.{◌≡◌, sym, ap, ap₂, ◌∙◌}
use mathlib.Core.Bool.{true, false, ◌&&◌, and-true, and-false}
use Prim.Native.Nat.{ℕ, zero, suc, ◌+◌, ◌-◌, ◌*◌, ◌/◌, ◌^◌, ◌≤◌, ◌<◌}
use native.Mathlib.Nat.{mul-add-div, mul-add-mod_self_left, div-eq_of_lt, add-div_left}
use native.Mathlib.Omega.{arith}
use lib.IntN.{ℤ, nat_abs, ◌+ℤ◌, ◌-ℤ◌, +ℤ_idr}
use lib.Pow.{pow_pos, pow-add}
use Rattle.base.specs.Bit.{◌⊕◌, odd, parity}
use Rattle.base.proofs.Bool.{⊕-false, parity-cong, parity-last}
use Rattle.polar.specs.Code.{sum}
use Rattle.polar.proofs.Minima.{sum-cong}
use Rattle.values.specs.Value.{turned}
use Rattle.value_folds.proofs.Sizes.{turned-small}
use Rattle.hadamard.specs.Transform.{int_sum, shared, transform}
use Rattle.hadamard.proofs.Sums.{turned-⊕, turned-add, int_sum-cong, int_sum-append, int_sum-add, int_sum-size}

-- The butterfly at place w, highest bit first: of two values whose places differ in that bit alone, the sum where w lacks the
-- bit and the difference where w has it.
unfoldable pub butterfly : ℕ → (ℕ → ℤ) → ℕ → ℤ
butterfly zero z w = z 0
butterfly (suc t) z w = butterfly t (λ j. z j +ℤ turned (odd (w / 2 ^ t)) (z (2 ^ t + j))) w

-- Bit t does not reach the bits below it,
odd-above : (t j x : ℕ) → j < t → odd ((2 ^ t + x) / 2 ^ j) ≡ odd (x / 2 ^ j)
odd-above t j x l =
    let e : t ≡ j + suc (t - suc j) = omega arith in
    let k : 2 ^ t ≡ 2 ^ j * (2 * 2 ^ (t - suc j)) = ap (λ n. 2 ^ n) e ∙ pow-add 2 j (suc (t - suc j)) ∙ ap (λ n. 2 ^ j * n) (omega arith) in
    rw (k, mul-add-div (pow_pos j), mul-add-mod_self_left)

-- is set in 2 ^ t + x, and not in x.
odd-at : (t x : ℕ) → x < 2 ^ t → odd ((2 ^ t + x) / 2 ^ t) ≡ true
odd-at t x l = rw (add-div_left x (pow_pos t), div-eq_of_lt l)

odd-under : (t x : ℕ) → x < 2 ^ t → odd (x / 2 ^ t) ≡ false
odd-under t x l = rw (div-eq_of_lt l)

-- Shared bits do not depend on bit t and those above,
pub shared-above : (t w x : ℕ) → shared t w (2 ^ t + x) ≡ shared t w x
shared-above t w x = parity-cong t (λ j l. ap (λ b. odd (w / 2 ^ j) && b) (odd-above t j x l))

pub above_shared : (t w x : ℕ) → shared t (2 ^ t + w) x ≡ shared t w x
above_shared t w x = parity-cong t (λ j l. ap (λ b. b && odd (x / 2 ^ j)) (odd-above t j w l))

-- and bit t counts where it is set in both.
shared-low : (t w x : ℕ) → x < 2 ^ t → shared (suc t) w x ≡ shared t w x
shared-low t w x l =
    parity-last t _
    ∙ ap (λ b. shared t w x ⊕ (odd (w / 2 ^ t) && b)) (odd-under t x l)
    ∙ ap (λ b. shared t w x ⊕ b) (and-false (odd (w / 2 ^ t)))
    ∙ ⊕-false (shared t w x)

shared-high : (t w x : ℕ) → x < 2 ^ t → shared (suc t) w (2 ^ t + x) ≡ shared t w x ⊕ odd (w / 2 ^ t)
shared-high t w x l =
    parity-last t _
    ∙ ap₂ ◌⊕◌ (shared-above t w x) (ap (λ b. odd (w / 2 ^ t) && b) (odd-at t x l) ∙ and-true (odd (w / 2 ^ t)))

-- One round: a transform of twice as many values is one of the sums or of the differences.
pub transform-next : (t : ℕ) (z : ℕ → ℤ) (w : ℕ) → transform (suc t) z w ≡ transform t (λ j. z j +ℤ turned (odd (w / 2 ^ t)) (z (2 ^ t + j))) w
transform-next t z w =
    let b = odd (w / 2 ^ t) in
    let e : 2 ^ suc t ≡ 2 ^ t + 2 ^ t = omega arith in
    ap (λ n. int_sum n (λ x. turned (shared (suc t) w x) (z x))) e
    ∙ int_sum-append (2 ^ t) (2 ^ t) _
    ∙ sym (int_sum-add (2 ^ t) _ _)
    ∙ int_sum-cong (2 ^ t) (λ x l.
    ap₂ ◌+ℤ◌
    (ap (λ s. turned s (z x)) (shared-low t w x l))
    (ap (λ s. turned s (z (2 ^ t + x))) (shared-high t w x l) ∙ turned-⊕ (shared t w x) b (z (2 ^ t + x)))
    ∙ sym (turned-add (shared t w x) (z x) (turned b (z (2 ^ t + x)))))

-- At each place w the butterfly gives the sum of the values, the one at place x negated where w and x share an odd number of set bits.
pub butterfly-is : (t : ℕ) (z : ℕ → ℤ) (w : ℕ) → butterfly t z w ≡ transform t z w
unfolding butterfly int_sum parity
butterfly-is zero z w = sym (+ℤ_idr (z 0))
butterfly-is (suc t) z w = butterfly-is t _ w ∙ sym (transform-next t z w)

-- A transform depends on the values below 2 ^ t alone,
pub transform-cong : (t : ℕ) {y z : ℕ → ℤ} (w : ℕ) → ((x : ℕ) → x < 2 ^ t → y x ≡ z x) → transform t y w ≡ transform t z w
transform-cong t w h = int_sum-cong (2 ^ t) (λ x l. ap (turned (shared t w x)) (h x l))

-- is the same at place 2 ^ t + w as at w,
pub transform-above : (t : ℕ) (z : ℕ → ℤ) (w : ℕ) → transform t z (2 ^ t + w) ≡ transform t z w
transform-above t z w = int_sum-cong (2 ^ t) (λ x _. ap (λ s. turned s (z x)) (above_shared t w x))

-- and is at most the sum of their sizes, in size.
pub transform-size : (t : ℕ) (z : ℕ → ℤ) (w : ℕ) → nat_abs (transform t z w) ≤ sum (2 ^ t) (λ x. nat_abs (z x))
transform-size t z w =
    rw (sym (sum-cong (2 ^ t) (λ x _. turned-small (shared t w x) (z x)))) (int_sum-size (2 ^ t) (λ x. turned (shared t w x) (z x)))

-- The first half of the places has the transform of the sums, and the second that of the differences.
pub transform-first : (t : ℕ) (z : ℕ → ℤ) (w : ℕ) → w < 2 ^ t → transform (suc t) z w ≡ transform t (λ j. z j +ℤ z (2 ^ t + j)) w
transform-first t z w l =
    transform-next t z w ∙ ap (λ b. transform t (λ j. z j +ℤ turned b (z (2 ^ t + j))) w) (odd-under t w l)

pub transform-second : (t : ℕ) (z : ℕ → ℤ) (w : ℕ) → w < 2 ^ t → transform (suc t) z (2 ^ t + w) ≡ transform t (λ j. z j -ℤ z (2 ^ t + j)) w
transform-second t z w l =
    transform-next t z (2 ^ t + w)
    ∙ ap (λ b. transform t (λ j. z j +ℤ turned b (z (2 ^ t + j))) (2 ^ t + w)) (odd-at t w l)
    ∙ transform-above t _ w
