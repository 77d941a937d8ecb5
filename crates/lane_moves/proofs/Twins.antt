-- Planes whose upper eight lanes are twins of the lower eight. Assumes nothing.
use mathlib.Core.Path.{◌≡◌, refl, sym, ap, ◌∙◌}
use Prim.Native.Nat.{ℕ, zero, suc, ◌+◌, ◌-◌, ◌*◌, ◌/◌, ◌%◌, ◌^◌, ◌<◌}
use native.Mathlib.Omega.{arith}
use lib.Dec.{eqb}
use Rattle.bits.specs.Packed.{bits}
use Rattle.bits.proofs.Packed.{bits_at}
use Rattle.lane.specs.Lanes.{lane_bit}
use Rattle.lane_moves.specs.Moves.{TwinPlane, OwnPlane}

-- Bits that are equal as numbers.
same_bit : (x y i j : ℕ) → i < 16 → j < 16 → x / 2 ^ (16 - suc i) % 2 ≡ y / 2 ^ (16 - suc j) % 2 → lane_bit x i ≡ lane_bit y j
same_bit x y i j li lj e = bits_at 16 x i li ∙ ap (λ n. eqb n 1) e ∙ sym (bits_at 16 y j lj)

even-more : (a y : ℕ) → (2 * a + y) % 2 ≡ y % 2
even-more a y = omega arith

-- The upper eight bits of twice an eight-bit number, and its lower eight.
high : (q : ℕ) → q < 256 → (q * 257 / 32768 ≡ q / 128) × (q * 257 / 16384 ≡ q / 64) × (q * 257 / 8192 ≡ q / 32) × (q * 257 / 4096 ≡ q / 16) × (q * 257 / 2048 ≡ q / 8) × (q * 257 / 1024 ≡ q / 4) × (q * 257 / 512 ≡ q / 2) × (q * 257 / 256 ≡ q / 1)
high q l =
    let y : q * 257 / 256 ≡ q = omega arith in
    ((let z : q * 257 / 32768 ≡ q * 257 / 256 / 128 = omega arith in z) ∙ ap (λ n. n / 128) y, (let z : q * 257 / 16384 ≡ q * 257 / 256 / 64 = omega arith in z) ∙ ap (λ n. n / 64) y, (let z : q * 257 / 8192 ≡ q * 257 / 256 / 32 = omega arith in z) ∙ ap (λ n. n / 32) y, (let z : q * 257 / 4096 ≡ q * 257 / 256 / 16 = omega arith in z) ∙ ap (λ n. n / 16) y, (let z : q * 257 / 2048 ≡ q * 257 / 256 / 8 = omega arith in z) ∙ ap (λ n. n / 8) y, (let z : q * 257 / 1024 ≡ q * 257 / 256 / 4 = omega arith in z) ∙ ap (λ n. n / 4) y, (let z : q * 257 / 512 ≡ q * 257 / 256 / 2 = omega arith in z) ∙ ap (λ n. n / 2) y, (let z : q * 257 / 256 ≡ q * 257 / 256 / 1 = omega arith in z) ∙ ap (λ n. n / 1) y)

low : (q : ℕ) → (q * 257 / 128 % 2 ≡ q / 128 % 2) × (q * 257 / 64 % 2 ≡ q / 64 % 2) × (q * 257 / 32 % 2 ≡ q / 32 % 2) × (q * 257 / 16 % 2 ≡ q / 16 % 2) × (q * 257 / 8 % 2 ≡ q / 8 % 2) × (q * 257 / 4 % 2 ≡ q / 4 % 2) × (q * 257 / 2 % 2 ≡ q / 2 % 2) × (q * 257 / 1 % 2 ≡ q / 1 % 2)
low q = (
  (let z : q * 257 / 128 ≡ 2 * (1 * q) + q / 128 = omega arith in ap (λ n. n % 2) z ∙ even-more (1 * q) (q / 128)),
  (let z : q * 257 / 64 ≡ 2 * (2 * q) + q / 64 = omega arith in ap (λ n. n % 2) z ∙ even-more (2 * q) (q / 64)),
  (let z : q * 257 / 32 ≡ 2 * (4 * q) + q / 32 = omega arith in ap (λ n. n % 2) z ∙ even-more (4 * q) (q / 32)),
  (let z : q * 257 / 16 ≡ 2 * (8 * q) + q / 16 = omega arith in ap (λ n. n % 2) z ∙ even-more (8 * q) (q / 16)),
  (let z : q * 257 / 8 ≡ 2 * (16 * q) + q / 8 = omega arith in ap (λ n. n % 2) z ∙ even-more (16 * q) (q / 8)),
  (let z : q * 257 / 4 ≡ 2 * (32 * q) + q / 4 = omega arith in ap (λ n. n % 2) z ∙ even-more (32 * q) (q / 4)),
  (let z : q * 257 / 2 ≡ 2 * (64 * q) + q / 2 = omega arith in ap (λ n. n % 2) z ∙ even-more (64 * q) (q / 2)),
  (let z : q * 257 / 1 ≡ 2 * (128 * q) + q / 1 = omega arith in ap (λ n. n % 2) z ∙ even-more (128 * q) (q / 1)),
)

-- Twice the upper eight bits.
pub twin-is : (p : ℕ) → p < 65536 → TwinPlane p (p / 256 * 257)
twin-is p lp zero ll =
    let x : p / 32768 ≡ p / 256 / 128 = omega arith in
    let e : p / 256 * 257 / 32768 % 2 ≡ p / 32768 % 2 = ap (λ n. n % 2) ((high (p / 256) (omega arith)).0 ∙ sym x) in
    let f : p / 256 * 257 / 128 % 2 ≡ p / 32768 % 2 = (low (p / 256)).0 ∙ ap (λ n. n % 2) (sym x) in
    (same_bit (p / 256 * 257) p 0 0 (omega arith) (omega arith) e, same_bit (p / 256 * 257) p 8 0 (omega arith) (omega arith) f)
twin-is p lp (suc zero) ll =
    let x : p / 16384 ≡ p / 256 / 64 = omega arith in
    let e : p / 256 * 257 / 16384 % 2 ≡ p / 16384 % 2 = ap (λ n. n % 2) ((high (p / 256) (omega arith)).1 ∙ sym x) in
    let f : p / 256 * 257 / 64 % 2 ≡ p / 16384 % 2 = (low (p / 256)).1 ∙ ap (λ n. n % 2) (sym x) in
    (same_bit (p / 256 * 257) p 1 1 (omega arith) (omega arith) e, same_bit (p / 256 * 257) p 9 1 (omega arith) (omega arith) f)
twin-is p lp (suc (suc zero)) ll =
    let x : p / 8192 ≡ p / 256 / 32 = omega arith in
    let e : p / 256 * 257 / 8192 % 2 ≡ p / 8192 % 2 = ap (λ n. n % 2) ((high (p / 256) (omega arith)).2 ∙ sym x) in
    let f : p / 256 * 257 / 32 % 2 ≡ p / 8192 % 2 = (low (p / 256)).2 ∙ ap (λ n. n % 2) (sym x) in
    (same_bit (p / 256 * 257) p 2 2 (omega arith) (omega arith) e, same_bit (p / 256 * 257) p 10 2 (omega arith) (omega arith) f)
twin-is p lp (suc (suc (suc zero))) ll =
    let x : p / 4096 ≡ p / 256 / 16 = omega arith in
    let e : p / 256 * 257 / 4096 % 2 ≡ p / 4096 % 2 = ap (λ n. n % 2) ((high (p / 256) (omega arith)).3 ∙ sym x) in
    let f : p / 256 * 257 / 16 % 2 ≡ p / 4096 % 2 = (low (p / 256)).3 ∙ ap (λ n. n % 2) (sym x) in
    (same_bit (p / 256 * 257) p 3 3 (omega arith) (omega arith) e, same_bit (p / 256 * 257) p 11 3 (omega arith) (omega arith) f)
twin-is p lp (suc (suc (suc (suc zero)))) ll =
    let x : p / 2048 ≡ p / 256 / 8 = omega arith in
    let e : p / 256 * 257 / 2048 % 2 ≡ p / 2048 % 2 = ap (λ n. n % 2) ((high (p / 256) (omega arith)).4 ∙ sym x) in
    let f : p / 256 * 257 / 8 % 2 ≡ p / 2048 % 2 = (low (p / 256)).4 ∙ ap (λ n. n % 2) (sym x) in
    (same_bit (p / 256 * 257) p 4 4 (omega arith) (omega arith) e, same_bit (p / 256 * 257) p 12 4 (omega arith) (omega arith) f)
twin-is p lp (suc (suc (suc (suc (suc zero))))) ll =
    let x : p / 1024 ≡ p / 256 / 4 = omega arith in
    let e : p / 256 * 257 / 1024 % 2 ≡ p / 1024 % 2 = ap (λ n. n % 2) ((high (p / 256) (omega arith)).5 ∙ sym x) in
    let f : p / 256 * 257 / 4 % 2 ≡ p / 1024 % 2 = (low (p / 256)).5 ∙ ap (λ n. n % 2) (sym x) in
    (same_bit (p / 256 * 257) p 5 5 (omega arith) (omega arith) e, same_bit (p / 256 * 257) p 13 5 (omega arith) (omega arith) f)
twin-is p lp (suc (suc (suc (suc (suc (suc zero)))))) ll =
    let x : p / 512 ≡ p / 256 / 2 = omega arith in
    let e : p / 256 * 257 / 512 % 2 ≡ p / 512 % 2 = ap (λ n. n % 2) ((high (p / 256) (omega arith)).6 ∙ sym x) in
    let f : p / 256 * 257 / 2 % 2 ≡ p / 512 % 2 = (low (p / 256)).6 ∙ ap (λ n. n % 2) (sym x) in
    (same_bit (p / 256 * 257) p 6 6 (omega arith) (omega arith) e, same_bit (p / 256 * 257) p 14 6 (omega arith) (omega arith) f)
twin-is p lp (suc (suc (suc (suc (suc (suc (suc zero))))))) ll =
    let x : p / 256 ≡ p / 256 / 1 = omega arith in
    let e : p / 256 * 257 / 256 % 2 ≡ p / 256 % 2 = ap (λ n. n % 2) ((high (p / 256) (omega arith)).7 ∙ sym x) in
    let f : p / 256 * 257 / 1 % 2 ≡ p / 256 % 2 = (low (p / 256)).7 ∙ ap (λ n. n % 2) (sym x) in
    (same_bit (p / 256 * 257) p 7 7 (omega arith) (omega arith) e, same_bit (p / 256 * 257) p 15 7 (omega arith) (omega arith) f)
twin-is p lp (suc (suc (suc (suc (suc (suc (suc (suc l)))))))) ll = absurd (omega arith)

pub own_is : OwnPlane 255
unfolding bits
own_is zero ll = (refl, refl)
own_is (suc zero) ll = (refl, refl)
own_is (suc (suc zero)) ll = (refl, refl)
own_is (suc (suc (suc zero))) ll = (refl, refl)
own_is (suc (suc (suc (suc zero)))) ll = (refl, refl)
own_is (suc (suc (suc (suc (suc zero))))) ll = (refl, refl)
own_is (suc (suc (suc (suc (suc (suc zero)))))) ll = (refl, refl)
own_is (suc (suc (suc (suc (suc (suc (suc zero))))))) ll = (refl, refl)
own_is (suc (suc (suc (suc (suc (suc (suc (suc l)))))))) ll = absurd (omega arith)
