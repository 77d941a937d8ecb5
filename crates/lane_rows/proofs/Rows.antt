-- One lane's entries, as the code reads them. Assumes nothing.
use mathlib.Core.Path.{◌≡◌, sym, ap, ap₂, ◌∙◌}
use mathlib.Core.Bool.{Bool, true, false}
use mathlib.Core.List.{List}
use Prim.Native.Nat.{ℕ, suc, ◌+◌, ◌-◌, ◌^◌, ◌≤◌, ◌<◌, min}
use native.Mathlib.Decide.{dec_lt}
use native.Mathlib.Omega.{arith}
use borrow.Author.Tests.{lt-ltb, le-ltb}
use lib.IntN.{pos, sub_ℕ, ◌-ℤ◌}
use lib.Signed.{mag}
use mir.Syntax.{w32}
use mir.Val.{SFits, to_z, of_z}
use mir.Facts.{to_z-of_z, to_z_pos}
use Rattle.folds.specs.Rows.{cell, select, least_to}
use Rattle.values.proofs.Integers.{sub-sub, sub-eq}

-- The one of two entries that a bit picks.
pub picked : (pair : List (List ℕ)) (l x y : ℕ) (c b : Bool) {r : ℕ} → c ≡ b → x ≡ cell 0 pair l false → y ≡ cell 0 pair l true → r ≡ select x y c
    → r ≡ cell 0 pair l b
picked pair l x y c b e ex ey er = er ∙ ap (select x y) e ∙ go b
  where
    go : (b : Bool) → select x y b ≡ cell 0 pair l b
    go true = ey
    go false = ex

-- ---- the difference of two numbers of sixteen bits

sub-zero : (a : ℕ) → sub_ℕ a 0 ≡ pos a
sub-zero a = let l : 0 ≤ a = omega arith in rw (le-ltb a 0 l) (ap pos (omega arith))

module _ (a b : ℕ) (la : a < 2 ^ 16) (lb : b < 2 ^ 16) where
  is-sub : to_z w32 a -ℤ to_z w32 b ≡ sub_ℕ a b
  is-sub = ap₂ ◌-ℤ◌ (to_z_pos w32 {n = a} (omega arith)) (to_z_pos w32 {n = b} (omega arith)) ∙ ap₂ ◌-ℤ◌ (sym (sub-zero a)) (sym (sub-zero b)) ∙ sub-sub a 0 b 0 ∙ sub-eq (a + 0) (0 + b) a b (omega arith)

  small : mag (sub_ℕ a b) < 2 ^ 31
  small = go (dec_lt a b)
    where
      go : Dec (a < b) → mag (sub_ℕ a b) < 2 ^ 31
      go (yes l) = rw (lt-ltb a b l) (omega arith)
      go (no l) = let g : b ≤ a = omega arith in rw (le-ltb a b g) (omega arith)

  pub less-fits : SFits w32 (to_z w32 a -ℤ to_z w32 b)
  less-fits = rw is-sub (record { sfits = small })

  pub less-is : to_z w32 (of_z w32 (to_z w32 a -ℤ to_z w32 b)) ≡ sub_ℕ a b
  less-is = to_z-of_z less-fits ∙ is-sub

-- ---- the least of some paths

-- One number,
pub least_first : (g : ℕ → ℕ) (n : ℕ) → g 0 ≡ least_to g (min 0 n)
unfolding least_to
least_first g n =
    let e : 0 ≡ min 0 n = omega arith in
    ap (least_to g) e

-- one more,
least-one : (g : ℕ → ℕ) (w x : ℕ) → 0 < w → x ≡ least_to g (w - 1) → min x (g w) ≡ least_to g w
unfolding least_to
least-one g w x l e =
    let s : suc (w - 1) ≡ w = omega arith in
    ap₂ min e (ap g (sym s)) ∙ ap (least_to g) s

-- and two more, or one where it is the last.
pub least-next : (g : ℕ → ℕ) (n w i x : ℕ) → 0 < w → w < n → i ≡ min (w + 1) (n - 1) → x ≡ least_to g (min (w - 1) (n - 1))
    → min (min x (g w)) (g i) ≡ least_to g (min (w + 2 - 1) (n - 1))
least-next g n w i x l h ei ex =
    let before : min (w - 1) (n - 1) ≡ w - 1 = omega arith in
    let after : i ≡ min (w + 2 - 1) (n - 1) = omega arith in
    go (dec_lt w i) (least-one g w x l (ex ∙ ap (least_to g) before)) ∙ ap (least_to g) after
  where
    go : Dec (w < i) → min x (g w) ≡ least_to g w → min (min x (g w)) (g i) ≡ least_to g i
    go (yes k) e = let s : i - 1 ≡ w = omega arith in least-one g i _ (omega arith) (e ∙ ap (least_to g) (sym s))
    go (no k) e = let s : i ≡ w = omega arith in rw s (omega arith)
