-- The symbols, a phase's own and the window's bits in sixteen, as a sum of shifts. Assumes nothing.
use mathlib.Core.Path.{◌≡◌, refl, sym, ap, ap₂, ◌∙◌, subst}
use mathlib.Core.Bool.{Bool, true, false}
use mathlib.Core.List.{List, ◌∷◌, ◌++◌}
use Prim.Native.Nat.{ℕ, suc, ◌+◌, ◌-◌, ◌*◌, ◌/◌, ◌%◌, ◌^◌, ◌≤◌, ◌<◌}
use native.Mathlib.Nat.{add-mul, mul_assoc, sub-le, le_trans, le_of_lt, lt_of_lt_of_le}
use native.Mathlib.Omega.{arith}
use lib.ListN.{length, take, replicate, length-append, length-replicate}
use lib.Pow.{pow-add, pow_mono, shr_lt}
use lib.Seq.{take_at}
use mir.Val.{bool_byte}
use Rattle.base.specs.Bit.{digit}
use Rattle.bits.specs.Packed.{bits, number}
use Rattle.bits.proofs.Packed.{length-bits, bits-split, number_lt, number_append, number-zeros, number-bits-fit, bits-number}
use Rattle.windows.specs.Paths.{Choice}

-- The first s of n bits, by a shift.
take-bits : (n s x : ℕ) → s ≤ n → take s (bits n x) ≡ bits s (x / 2 ^ (n - s))
take-bits n s x l =
    let e : n ≡ s + (n - s) = omega arith in
    ap (λ k. take s (bits k x)) e
    ∙ ap (take s) (bits-split s (n - s) x)
    ∙ take_at (bits s (x / 2 ^ (n - s))) (bits (n - s) x) s (length-bits s (x / 2 ^ (n - s)))

byte-digit : (b : Bool) → bool_byte b ≡ digit b
byte-digit false = refl
byte-digit true = refl

-- The sum of the three parts, each at its place.
abbrev pub shifts : ℕ → ℕ → ℕ → Bool → ℕ → ℕ
shifts u s n b w = u / 2 ^ (16 - s) * 2 ^ (16 - s) + bool_byte b * 2 ^ (15 - s) + w * 2 ^ (15 - n)

-- A sum of three, shifted.
placed : (x y v p q r : ℕ) → (x * p + (y * q + v)) * r + 0 ≡ x * (p * r) + y * (q * r) + v * r
placed x y v p q r =
    omega (arith, add-mul (x * p) (y * q + v) r, add-mul (y * q) v r, mul_assoc x p r, mul_assoc y q r)

-- The number of some bits, one more, others, and e zeros.
number-parts : (us : List Bool) (b : Bool) (ws : List Bool) (e : ℕ)
    → number (us ++ (b ∷ ws) ++ replicate e false)
    ≡ number us * 2 ^ (1 + length ws + e) + digit b * 2 ^ (length ws + e) + number ws * 2 ^ e
unfolding number
number-parts us b ws e =
    let x : ℕ = number us in
    let y : ℕ = digit b in
    let v : ℕ = number ws in
    let d : ℕ = length ws in
    let f : suc (length ws) ≡ 1 + length ws = omega arith in
    number_append (us ++ (b ∷ ws)) (replicate e false)
    ∙ ap₂ (λ k z. number (us ++ (b ∷ ws)) * 2 ^ k + z) (length-replicate e false) (number-zeros e)
    ∙ ap (λ z. z * 2 ^ e + 0) (number_append us (b ∷ ws) ∙ ap (λ k. x * 2 ^ k + (y * 2 ^ d + v)) f)
    ∙ placed x y v (2 ^ (1 + d)) (2 ^ d) (2 ^ e)
    ∙ ap₂ (λ g h. x * g + y * h + v * 2 ^ e) (sym (pow-add 2 (1 + d) e)) (sym (pow-add 2 d e))

-- The window's number fits sixteen bits.
pub window-lt : (s n w : ℕ) → n < 16 → w < 2 ^ (n - s) → w < 2 ^ 16
window-lt s n w l h = lt_of_lt_of_le h (pow_mono (le_trans (sub-le n s) (le_of_lt l)))

-- ---- the symbols u before phase s, its own b, and the window's number w, with n the highest index

module _ (u s n : ℕ) (b : Bool) (w : ℕ) (ls : s ≤ n) (ln : n < 16) (lu : u < 2 ^ 16) (lw : w < 2 ^ (n - s)) where
  us : List Bool
  us = take s (bits 16 u)

  ws : List Bool
  ws = bits (n - s) w

  all : List Bool
  all = us ++ (b ∷ ws) ++ replicate (16 - (length us + (1 + length ws))) false

  us-bits : us ≡ bits s (u / 2 ^ (16 - s))
  unfolding us
  us-bits = take-bits 16 s u (omega arith)

  us-length : length us ≡ s
  us-length = ap length us-bits ∙ length-bits s (u / 2 ^ (16 - s))

  ws-length : length ws ≡ n - s
  unfolding ws
  ws-length = length-bits (n - s) w

  us-number : number us ≡ u / 2 ^ (16 - s)
  us-number =
      let e : 16 ≡ s + (16 - s) = omega arith in
      ap number us-bits ∙ number-bits-fit s (u / 2 ^ (16 - s)) (shr_lt s (16 - s) (subst (λ k. u < 2 ^ k) e lu))

  ws-number : number ws ≡ w
  unfolding ws
  ws-number = number-bits-fit (n - s) w lw

  all-length : length all ≡ 16
  unfolding all
  all-length =
      omega (
        arith,
        us-length,
        ws-length,
        length-append (us ++ (b ∷ ws)) (replicate (16 - (length us + (1 + length ws))) false),
        length-append us (b ∷ ws),
        length-replicate (16 - (length us + (1 + length ws))) false,
      )

  all-number : number all ≡ shifts u s n b w
  unfolding all
  all-number =
      let e : 16 - (length us + (1 + length ws)) ≡ 15 - n = omega (arith, us-length, ws-length) in
      let f : 1 + length ws + (15 - n) ≡ 16 - s = omega (arith, us-length, ws-length) in
      let g : length ws + (15 - n) ≡ 15 - s = omega (arith, us-length, ws-length) in
      ap (λ k. number (us ++ (b ∷ ws) ++ replicate k false)) e
      ∙ number-parts us b ws (15 - n)
      ∙ ap₂ (λ j k. number us * 2 ^ j + digit b * 2 ^ k + number ws * 2 ^ (15 - n)) f g
      ∙ ap₂ (λ x y. x * 2 ^ (16 - s) + digit b * 2 ^ (15 - s) + y * 2 ^ (15 - n)) us-number ws-number
      ∙ ap (λ y. u / 2 ^ (16 - s) * 2 ^ (16 - s) + y * 2 ^ (15 - s) + w * 2 ^ (15 - n)) (sym (byte-digit b))

  -- The sum fits sixteen bits,
  pub shifts-lt : shifts u s n b w < 2 ^ 16
  shifts-lt = rw (all-length, all-number) at (number_lt all)

  -- and they are the parts, also where each shift is cut to 32 bits.
  pub shifts-bits : Choice (take s (bits 16 u)) b (bits (n - s) w)
      (u / 2 ^ (16 - s) * 2 ^ (16 - s) % 2 ^ 32 + bool_byte b * 2 ^ (15 - s) % 2 ^ 32 + w * 2 ^ (15 - n) % 2 ^ 32)
  unfolding us ws all
  shifts-bits =
      let h = shifts-lt in
      let e : shifts u s n b w
      ≡ u / 2 ^ (16 - s) * 2 ^ (16 - s) % 2 ^ 32 + bool_byte b * 2 ^ (15 - s) % 2 ^ 32 + w * 2 ^ (15 - n) % 2 ^ 32 = omega arith in
      subst (Choice us b ws) e (rw (all-length, all-number) at (bits-number all))
