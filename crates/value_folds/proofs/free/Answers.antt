-- `value_folds::free` meets its contract. Assumes nothing.
use mathlib.Core.Path.{◌≡◌, ap, ap₂, ◌∙◌}
use Prim.Native.Nat.{◌≤◌}
use native.Mathlib.Omega.{arith}
use lib.IntN.{ℤ, pos, nat_abs, ◌+ℤ◌, ◌-ℤ◌}
use mir.Facts.{to_z-of_z}
use mir.Syntax.{w32}
use mir.Val.{SFits, to_z, of_z}
use Rattle.values.specs.Value.{greater, free_value}
use Rattle.values.proofs.Greater.{greater-small}
use Rattle.value_folds.proofs.Sizes.{fits-small, add_small, sub_small, free-coded, free-small}
use Rattle.value_folds.proofs.free.Goals as goal

-- A number as the code reads it back.
abbrev read : ℤ → ℤ
read z = to_z w32 (of_z w32 z)

-- The parts of the fold, as the code has them: r is what the sum has above 0, and s what the difference has.
module _ (p q : ℤ) (fp : SFits w32 p) (fq : SFits w32 q) (hp : nat_abs p ≤ 16777216) (hq : nat_abs q ≤ 16777216) where
  sum_is : read p +ℤ read q ≡ p +ℤ q
  sum_is = ap₂ ◌+ℤ◌ (to_z-of_z {w = w32} fp) (to_z-of_z {w = w32} fq)

  sum_fits : SFits w32 (read p +ℤ read q)
  sum_fits = rw sum_is (fits-small (p +ℤ q) 33554432 (omega (arith, add_small p q)) (omega arith))

  less-is : read p -ℤ read q ≡ p -ℤ q
  less-is = ap₂ ◌-ℤ◌ (to_z-of_z {w = w32} fp) (to_z-of_z {w = w32} fq)

  less-fits : SFits w32 (read p -ℤ read q)
  less-fits = rw less-is (fits-small (p -ℤ q) 33554432 (omega (arith, sub_small p q)) (omega arith))

  module _ (r s : ℤ) (fr : SFits w32 r) (fs : SFits w32 s) (er : r ≡ greater (read (read p +ℤ read q)) (pos 0)) (es : s ≡ greater (read (read p -ℤ read q)) (pos 0)) where
    r-is : read r ≡ greater (p +ℤ q) (pos 0)
    r-is = to_z-of_z {w = w32} fr ∙ er ∙ ap (λ z. greater z (pos 0)) (to_z-of_z {w = w32} sum_fits ∙ sum_is)

    s-is : read s ≡ greater (p -ℤ q) (pos 0)
    s-is = to_z-of_z {w = w32} fs ∙ es ∙ ap (λ z. greater z (pos 0)) (to_z-of_z {w = w32} less-fits ∙ less-is)

    part-is : read r -ℤ read s ≡ greater (p +ℤ q) (pos 0) -ℤ greater (p -ℤ q) (pos 0)
    part-is = ap₂ ◌-ℤ◌ r-is s-is

    part-fits : SFits w32 (read r -ℤ read s)
    part-fits =
        rw part-is
        (fits-small _ 67108864
        (omega (
          arith,
          sub_small (greater (p +ℤ q) (pos 0)) (greater (p -ℤ q) (pos 0)),
          greater-small (p +ℤ q) (pos 0) 33554432 (omega (arith, add_small p q)) (omega arith),
          greater-small (p -ℤ q) (pos 0) 33554432 (omega (arith, sub_small p q)) (omega arith),
        ))
        (omega arith))

    fold_is : read (read r -ℤ read s) -ℤ read q ≡ free_value p q
    fold_is = ap₂ ◌-ℤ◌ (to_z-of_z {w = w32} part-fits ∙ part-is) (to_z-of_z {w = w32} fq) ∙ free-coded p q

    fold-fits : SFits w32 (read (read r -ℤ read s) -ℤ read q)
    fold-fits = rw fold_is (fits-small (free_value p q) 16777216 (free-small p q 16777216 hp hq) (omega arith))

pub overflow_add-p : goal.overflow_add-p
overflow_add-p c = sum_fits c.args.p c.args.q c.ranges.p c.ranges.q c.requires.0 c.requires.1

pub overflow_sub-p : goal.overflow_sub-p
overflow_sub-p c = let e = c in less-fits e.args.p e.args.q e.ranges.p e.ranges.q e.requires.0 e.requires.1

pub overflow_sub-result : goal.overflow_sub-result
overflow_sub-result c =
    let d = c in
    let e = d in
    part-fits e.args.p e.args.q e.ranges.p e.ranges.q e.requires.0 e.requires.1 d.above.result c.above-2.result
    (record { sfits = d.above.type_inv }) (record { sfits = c.above-2.type_inv }) d.above.ensures c.above-2.ensures

pub overflow_sub-result-2 : goal.overflow_sub-result-2
overflow_sub-result-2 c =
    let d = c in
    let e = d in
    fold-fits e.args.p e.args.q e.ranges.p e.ranges.q e.requires.0 e.requires.1 d.above.result c.above-2.result
    (record { sfits = d.above.type_inv }) (record { sfits = c.above-2.type_inv }) d.above.ensures c.above-2.ensures

pub returns : goal.returns
returns c =
    let d = c in
    let e = d in
    to_z-of_z {w = w32} (overflow_sub-result-2 c) ∙ fold_is e.args.p e.args.q e.ranges.p e.ranges.q e.requires.0 e.requires.1 d.above.result c.above-2.result
    (record { sfits = d.above.type_inv }) (record { sfits = c.above-2.type_inv }) d.above.ensures c.above-2.ensures
