-- The difference of two scores, as the code takes it. Assumes nothing.
use mathlib.Core.Path.{◌≡◌, ap₂, ◌∙◌}
use mathlib.Core.Bool.{Bool, true, false, cond}
use mathlib.Core.List.{List, []}
use Prim.Native.Nat.{ℕ, zero, suc, ◌+◌, ◌-◌, ◌≤◌, ◌<◌}
use native.Mathlib.Omega.{arith}
use lib.Dec.{ltb}
use lib.IntN.{ℤ, pos, negsuc, nat_abs, sub_ℕ, ◌-ℤ◌}
use lib.ListN.{get_or}
use lib.Signed.{mag}
use mir.Facts.{to_z-of_z}
use mir.Syntax.{w32}
use mir.Val.{SFits, to_z, of_z}
use Rattle.folds.specs.Rows.{cell, IsGreatest}
use Rattle.windows.specs.Paths.{IsDifference}

-- A score as the code has it, in thirty-two bits.
abbrev pub coded : ℤ → ℤ
coded z = to_z w32 (of_z w32 z)

sub-mag : (a b m : ℕ) → a ≤ m → b ≤ m → mag (sub_ℕ a b) ≤ m
sub-mag a b m p q = go (ltb a b)
  where
    go : (t : Bool) → mag (cond t (negsuc (b - suc a)) (pos (a - b))) ≤ m
    go true = omega arith
    go false = omega arith

less-mag : (m : ℕ) (x y : ℤ) → nat_abs x ≤ m → nat_abs y ≤ m → mag (x -ℤ y) ≤ m + m
less-mag m (pos a) (pos zero) p q = omega arith
less-mag m (pos a) (pos (suc b)) p q = sub-mag a (suc b) (m + m) (omega arith) (omega arith)
less-mag m (pos a) (negsuc b) p q = omega arith
less-mag m (negsuc a) (pos zero) p q = sub-mag 0 (suc a) (m + m) (omega arith) (omega arith)
less-mag m (negsuc a) (pos (suc b)) p q = omega arith
less-mag m (negsuc a) (negsuc b) p q = sub-mag (suc b) (suc a) (m + m) (omega arith) (omega arith)

small-mag : (z : ℤ) (m : ℕ) → nat_abs z ≤ m → mag z ≤ m
small-mag (pos n) m h = h
small-mag (negsuc n) m h = omega arith

small-coded : (z : ℤ) → nat_abs z ≤ 16777216 → coded z ≡ z
small-coded z h = to_z-of_z {w = w32} (record { sfits = omega (arith, small-mag z 16777216 h) })

less-is : (x y : ℤ) → nat_abs x ≤ 16777216 → nat_abs y ≤ 16777216 → coded x -ℤ coded y ≡ x -ℤ y
less-is x y p q = ap₂ (λ a b. a -ℤ b) (small-coded x p) (small-coded y q)

greatest-small : (m : ℕ) (row : List ℤ) (n : ℕ) (r : ℤ) → ((w : ℕ) → w < n → nat_abs (get_or row w (pos 0)) ≤ m) → IsGreatest row n r → nat_abs r ≤ m
greatest-small m row n r h g = rw g.had at (h g.place g.inside)

-- The difference of two small scores fits thirty-two bits, whichever they are.
pub less-fits : (x y : ℤ) → nat_abs x ≤ 16777216 → nat_abs y ≤ 16777216 → SFits w32 (coded x -ℤ coded y)
less-fits x y p q = rw (less-is x y p q) (record { sfits = omega (arith, less-mag 16777216 x y p q) })

module _ (rows : List (List ℤ)) (n : ℕ) (h : (w : ℕ) (b : Bool) → w < n → nat_abs (cell (pos 0) rows w b) ≤ 16777216) where
  -- The greatest score of either of two bounded rows is small,
  pub zero-small : (x : ℤ) → IsGreatest (get_or rows 0 []) n x → nat_abs x ≤ 16777216
  zero-small x g = greatest-small 16777216 (get_or rows 0 []) n x (λ w. h w false) g

  pub one-small : (y : ℤ) → IsGreatest (get_or rows 1 []) n y → nat_abs y ≤ 16777216
  one-small y g = greatest-small 16777216 (get_or rows 1 []) n y (λ w. h w true) g

  -- and that of row 0 less that of row 1 is their difference.
  pub is-difference : (x y : ℤ) → IsGreatest (get_or rows 0 []) n x → IsGreatest (get_or rows 1 []) n y → IsDifference rows n (coded (coded x -ℤ coded y))
  is-difference x y gx gy =
      let p = zero-small x gx in
      let q = one-small y gy in
      record { zero = x; one = y; zero-greatest = gx; one-greatest = gy; less = to_z-of_z (less-fits x y p q) ∙ less-is x y p q }
