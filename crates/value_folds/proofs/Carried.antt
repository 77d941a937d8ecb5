-- Numbers of thirty-two bits that the code holds: what each one is, and how large at most. Assumes nothing.
use mathlib.Core.Path.{◌≡◌, refl, ap, ap₂, ◌∙◌}
use mathlib.Core.Bool.{Bool}
use mathlib.Core.List.{List}
use Prim.Native.Nat.{ℕ, ◌+◌, ◌^◌, ◌≤◌, ◌<◌}
use native.Mathlib.Omega.{arith}
use lib.IntN.{ℤ, pos, nat_abs, neg_ℤ, ◌+ℤ◌, ◌-ℤ◌, +ℤ_idl}
use lib.ListN.{get_or}
use lib.Signed.{mag}
use mir.Facts.{to_z-of_z}
use mir.Syntax.{w32}
use mir.Val.{SFits, to_z, of_z}
use Rattle.values.specs.Value.{turned, free_value, known_value, Small}
use Rattle.value_folds.proofs.Sizes.{fits-small, neg_small, add_small, sub_small, turned-small, known_small, free-small}

-- A number as the code reads it back.
abbrev pub read : ℤ → ℤ
read x = to_z w32 (of_z w32 x)

-- What is held as x is z, and at most n in size.
pub record Carried (x z : ℤ) (n : ℕ) : Type 0 where
  pub is : read x ≡ z
  pub small : nat_abs z ≤ n

-- A number that fits is held as itself, and so is a call's result.
pub carried : (x z : ℤ) (n : ℕ) → mag x < 2 ^ 31 → x ≡ z → nat_abs z ≤ n → Carried x z n
carried x z n h e l = record { is = to_z-of_z {w = w32} (record { sfits = h }) ∙ e; small = l }

-- What is carried is as well what equals it.
pub carried-as : (x a b : ℤ) (n : ℕ) → Carried x a n → a ≡ b → Carried x b n
carried-as x a b n h e = record { is = h.is ∙ e; small = rw (← e) h.small }

-- A turned value,
pub carried-turned : (r : ℤ) (c : Bool) (x z : ℤ) (n : ℕ) → mag r < 2 ^ 31 → r ≡ turned c (read x) → Carried x z n → Carried r (turned c z) n
carried-turned r c x z n f e h = carried r (turned c z) n f (e ∙ ap (turned c) h.is) (rw (turned-small c z) h.small)

-- and a free fold.
pub carried-free : (r x y a b : ℤ) (n : ℕ) → mag r < 2 ^ 31 → r ≡ free_value (read x) (read y) → Carried x a n → Carried y b n → Carried r (free_value a b) n
carried-free r x y a b n f e hx hy = carried r (free_value a b) n f (e ∙ ap₂ free_value hx.is hy.is) (free-small a b n hx.small hy.small)

-- An entry of a list of small values is held as itself.
pub carried-entry : (n k : ℕ) (xs : List ℤ) → Small n k xs → n < 2 ^ 31 → (i : ℕ) → i < k → Carried (get_or xs i (pos 0)) (get_or xs i (pos 0)) n
carried-entry n k xs h l i li = record { is = to_z-of_z {w = w32} (fits-small (get_or xs i (pos 0)) n (h i li) l); small = h i li }

-- The known fold of two numbers,
pub carried-known : (r : ℤ) (c : Bool) (x y a b : ℤ) (m n : ℕ) → mag r < 2 ^ 31 → r ≡ known_value c (read x) (read y) → Carried x a m → Carried y b n → Carried r (known_value c a b) (m + n)
carried-known r c x y a b m n h e hx hy = carried r (known_value c a b) (m + n) h (e ∙ ap₂ (known_value c) hx.is hy.is) (known_small c a b m n hx.small hy.small)

-- The size of what is read.
pub read_small : (x z : ℤ) (n : ℕ) → Carried x z n → nat_abs (read x) ≤ n
read_small x z n h = rw h.is h.small

module _ (x y a b : ℤ) (m n : ℕ) (hx : Carried x a m) (hy : Carried y b n) (l : m + n < 2 ^ 31) where
  sum-small : nat_abs (a +ℤ b) ≤ m + n
  sum-small = omega (arith, add_small a b, hx.small, hy.small)

  less-small : nat_abs (a -ℤ b) ≤ m + n
  less-small = omega (arith, sub_small a b, hx.small, hy.small)

  -- A sum fits,
  pub add-fits : SFits w32 (read x +ℤ read y)
  add-fits = rw (hx.is, hy.is) (fits-small (a +ℤ b) (m + n) sum-small l)

  -- and is held,
  pub carried-add : Carried (read x +ℤ read y) (a +ℤ b) (m + n)
  carried-add = record { is = to_z-of_z add-fits ∙ ap₂ ◌+ℤ◌ hx.is hy.is; small = sum-small }

  -- as is a difference.
  pub sub-fits : SFits w32 (read x -ℤ read y)
  sub-fits = rw (hx.is, hy.is) (fits-small (a -ℤ b) (m + n) less-small l)

  pub carried-sub : Carried (read x -ℤ read y) (a -ℤ b) (m + n)
  carried-sub = record { is = to_z-of_z sub-fits ∙ ap₂ ◌-ℤ◌ hx.is hy.is; small = less-small }

-- Minus a number fits,
pub minus-fits : (x z : ℤ) (n : ℕ) → Carried x z n → n < 2 ^ 31 → SFits w32 (pos 0 -ℤ read x)
minus-fits x z n h l = sub-fits (pos 0) x (pos 0) z 0 n (record { is = refl; small = omega arith }) h (omega arith)

-- and is held.
pub carried-minus : (x z : ℤ) (n : ℕ) → Carried x z n → n < 2 ^ 31 → Carried (pos 0 -ℤ read x) (neg_ℤ z) n
carried-minus x z n h l = record { is = to_z-of_z (minus-fits x z n h l) ∙ ap (λ y. pos 0 -ℤ y) h.is ∙ +ℤ_idl (neg_ℤ z); small = rw (neg_small z) h.small }
