-- Sums and differences of integers that signed numbers of 32 bits hold. Assumes nothing.
use mathlib.Core.Path.{◌≡◌, ap₂, ◌∙◌}
use mathlib.Core.List.{List}
use Prim.Native.Nat.{ℕ, ◌+◌, ◌^◌, ◌≤◌, ◌<◌}
use native.Mathlib.Omega.{arith}
use lib.IntN.{ℤ, pos, nat_abs, ◌+ℤ◌, ◌-ℤ◌}
use lib.ListN.{get_or}
use mir.Facts.{to_z-of_z}
use mir.Syntax.{w32}
use mir.Val.{SFits, to_z, of_z}
use Rattle.values.specs.Value.{Small}
use Rattle.value_folds.proofs.Sizes.{fits-small, add_small, sub_small}

-- The bits of a sum and of a difference.
abbrev pub plus : ℕ → ℕ → ℕ
plus v w = of_z w32 (to_z w32 v +ℤ to_z w32 w)

abbrev pub minus : ℕ → ℕ → ℕ
minus v w = of_z w32 (to_z w32 v -ℤ to_z w32 w)

-- The bits v hold z, which is at most n in size.
pub record Holds (n v : ℕ) (z : ℤ) : Type 0 where
  pub is : to_z w32 v ≡ z
  pub small : nat_abs z ≤ n

-- The entries of a list of values, and the bits of one that is read.
abbrev pub at : List ℤ → ℕ → ℤ
at z i = get_or z i (pos 0)

abbrev pub held : List ℤ → ℕ → ℕ
held z i = of_z w32 (at z i)

pub holds_read : (n k : ℕ) (z : List ℤ) → Small n k z → n < 2 ^ 31 → (i : ℕ) → i < k → Holds n (held z i) (at z i)
holds_read n k z h l i li = record { is = to_z-of_z (fits-small (at z i) n (h i li) l); small = h i li }

module _ {n m v w : ℕ} {x y : ℤ} (p : Holds n v x) (q : Holds m w y) (l : n + m < 2 ^ 31) where
  sum-small : nat_abs (x +ℤ y) ≤ n + m
  sum-small = omega (arith, add_small x y, p.small, q.small)

  difference-small : nat_abs (x -ℤ y) ≤ n + m
  difference-small = omega (arith, sub_small x y, p.small, q.small)

  -- A sum fits, and so does a difference,
  pub add-fits : SFits w32 (to_z w32 v +ℤ to_z w32 w)
  add-fits = rw (p.is, q.is) (fits-small (x +ℤ y) (n + m) sum-small l)

  pub sub-fits : SFits w32 (to_z w32 v -ℤ to_z w32 w)
  sub-fits = rw (p.is, q.is) (fits-small (x -ℤ y) (n + m) difference-small l)

  -- and is held.
  pub add_holds : Holds (n + m) (plus v w) (x +ℤ y)
  add_holds = record { is = to_z-of_z add-fits ∙ ap₂ ◌+ℤ◌ p.is q.is; small = sum-small }

  pub sub_holds : Holds (n + m) (minus v w) (x -ℤ y)
  sub_holds = record { is = to_z-of_z sub-fits ∙ ap₂ ◌-ℤ◌ p.is q.is; small = difference-small }
