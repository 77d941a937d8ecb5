-- `path_rows::path_row` meets its contract. The row is filled with the scores of the paths below n. Assumes nothing.
use mathlib.Core.Path.{◌≡◌, refl, sym, ap, ap₂, ◌∙◌}
use Prim.Native.Nat.{ℕ, ◌+◌, ◌*◌, ◌/◌, ◌^◌, ◌≤◌, ◌<◌}
use native.Mathlib.Omega.{arith}
use lib.Dec.{T}
use lib.IntN.{ℤ, pos, nat_abs, ◌-ℤ◌}
use lib.ListN.{get_or}
use lib.Signed.{mag, non_neg}
use mir.Facts.{to_z-of_z}
use mir.Syntax.{w32}
use mir.Val.{SFits}
use Rattle.base.specs.Bit.{digit}
use Rattle.value_folds.proofs.Filling.{fill_none, fill_one, fill-all}
use Rattle.value_folds.proofs.Sizes.{turned-small}
use Rattle.values.specs.Path.{path_number}
use Rattle.values.proofs.Numbers.{all-paths, path-below, pair-below}
use Rattle.value_folds.proofs.Carried.{Carried, read, carried, sub-fits, carried-sub}
use borrow.Author.Rules.{rules}
use Rattle.path_rows.proofs.path_row.Goals as goal
use Rattle.path_rows.proofs.path_row.Goals.{After-by_sign-signed, After-half-arg-1}

-- The entries of the signed transform: the numbers that by_sign gives.
module _ (s : After-by_sign-signed) where
  entry-small : (n : ℕ) → n < 8 → nat_abs (get_or s.by_sign-signed.result n (pos 0)) ≤ 16777216
  entry-small =
      all-paths _ (λ d g a.
      rw (s.by_sign-signed.ensures d g a, turned-small a (get_or s.args.h.now (2 * digit g + digit d) (pos 0)))
      (s.requires.small.0 (2 * digit g + digit d) (pair-below g d)))

  entry-below : (n : ℕ) → n < 8 → T (non_neg (s.args.sizes -ℤ get_or s.by_sign-signed.result n (pos 0)))
  entry-below = all-paths _ (λ d g a. rw (s.by_sign-signed.ensures d g a) (s.requires.t d g a))

-- What the code has of one path: what the entry x lacks of the sizes, half of it, and what is left of base.
module _ (base sizes x : ℤ) (hb : Carried base base 16777216) (hs : Carried sizes sizes 16777216) (hx : Carried x x 16777216) where
  lacks : Carried (read sizes -ℤ read x) (sizes -ℤ x) 33554432
  lacks = carried-sub sizes x sizes x 16777216 16777216 hs hx (omega arith)

  module _ (r : ℤ) (f : mag r < 2 ^ 31) (e : r ≡ pos (nat_abs (read (read sizes -ℤ read x)) / 2)) where
    paid : Carried r (pos (nat_abs (sizes -ℤ x) / 2)) 16777216
    paid = carried r _ 16777216 f (e ∙ ap (λ z. pos (nat_abs z / 2)) lacks.is) (omega (arith, lacks.small))

    left-fits : SFits w32 (read base -ℤ read r)
    left-fits = sub-fits base r base _ 16777216 16777216 hb paid (omega arith)

    left_is : read (read base -ℤ read r) ≡ read base -ℤ pos (nat_abs (read sizes -ℤ x) / 2)
    left_is =
        (carried-sub base r base _ 16777216 16777216 hb paid (omega arith)).is
        ∙ sym (ap₂ (λ y z. y -ℤ pos (nat_abs (z -ℤ x) / 2)) hb.is hs.is)

-- The numbers of a turn.
module _ (c : After-half-arg-1) where
  abbrev start : After-by_sign-signed
  start = c.before.before.before

  abbrev entry : ℤ
  entry = get_or start.by_sign-signed.result c.loop-n.n (pos 0)

  base-held : Carried start.args.base start.args.base 16777216
  base-held = carried _ _ _ start.ranges.base.sfits refl start.requires.small.2

  sizes-held : Carried start.args.sizes start.args.sizes 16777216
  sizes-held = carried _ _ _ start.ranges.sizes.sfits refl start.requires.small.1

  entry-held : Carried entry entry 16777216
  entry-held = carried _ _ _ c.half-arg-1.given refl (entry-small start _ (search rules))

pub loop-n-init : goal.loop-n-init
loop-n-init c = fill_none (pos 0) 8 _

pub overflow_sub-sizes : goal.overflow_sub-sizes
overflow_sub-sizes c = sub-fits _ _ _ _ 16777216 16777216 (sizes-held c) (entry-held c) (omega arith)

pub half-requires : goal.half-requires
half-requires c = rw (lacks _ _ _ (base-held c) (sizes-held c) (entry-held c)).is (entry-below (start c) _ (search rules))

pub overflow_sub-out : goal.overflow_sub-out
overflow_sub-out c = let d = c.before in left-fits _ _ _ (base-held d) (sizes-held d) (entry-held d) c.half.result c.half.type_inv c.half.ensures

pub loop-n-preserved : goal.loop-n-preserved
loop-n-preserved c =
    let d = c.before in
    let k = d.loop-n in
    fill_one (pos 0) 8 k.n _ k.out k.invariant _ (search rules)
    (left_is _ _ _ (base-held d) (sizes-held d) (entry-held d) c.half.result c.half.type_inv c.half.ensures)

pub returns : goal.returns
returns c d g a =
    let z = c.before.before in
    fill-all (pos 0) 8 _ _ _ c.loop-n.invariant (search rules) (path_number d g a) (path-below d g a)
    ∙ ap₂ (λ y t. y -ℤ pos (nat_abs t / 2)) (to_z-of_z {w = w32} z.ranges.base) (ap₂ ◌-ℤ◌ (to_z-of_z {w = w32} z.ranges.sizes) (z.by_sign-signed.ensures d g a))
