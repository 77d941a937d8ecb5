-- `grid::column_sum` meets its contract: after r turns c is the sum of the first r chosen rows. Assumes nothing.
use mathlib.Core.Path.{◌∙◌}
use mathlib.Core.Bool.{Bool}
use Prim.Native.Nat.{ℕ}
use native.Mathlib.Omega.{arith}
use lib.Bits.{xor_lt}
use lib.ListN.{get_or}
use mir.Val.{Fits}
use mir.Syntax.{w16}
use Rattle.bits.proofs.Packed.{bits-shift}
use Rattle.kernel.specs.Rows.{row_bit}
use Rattle.kernel.proofs.Rows.{summed-none, summed-row, summed-skip, summed-all}
use borrow.Author.Rules.{rules}
use borrow.Author.Tests.{eq-eqb, ne_eqb}
use Rattle.grid.proofs.column_sum.Goals as goal
use Rattle.grid.proofs.column_sum.Goals.{else-choosing-r-eq1, then-choosing-r-eq1}

pub loop-r-init : goal.loop-r-init
loop-r-init c = (search rules, summed-none c.args.rows (λ s. row_bit c.args.choosing s c.args.j))

pub loop-r-preserved : goal.loop-r-preserved
loop-r-preserved c =
    let a = c.args in
    let l = c.loop-r in
    let b = bits-shift 15 (get_or a.choosing l.r 0) a.j (omega arith) in
    let f : ℕ → Bool = λ s. row_bit a.choosing s a.j in
    (elim c.if-choosing-r-eq1.branch [
      | then-choosing-r-eq1 w ↦ let row : Fits w16 (get_or a.rows l.r 0) = search rules in (
        rw w.c-is (xor_lt 16 l.c (get_or a.rows l.r 0) l.invariant.0 row.fits),
        summed-row a.rows f l.c c.if-choosing-r-eq1.c l.r (b ∙ eq-eqb _ _ w.if-choosing-r-eq1.true) w.c-is l.invariant.1,
      )
      | else-choosing-r-eq1 w ↦ (
        rw w.c-is l.invariant.0,
        summed-skip a.rows f l.c c.if-choosing-r-eq1.c l.r (b ∙ ne_eqb _ _ w.if-choosing-r-eq1.false) w.c-is l.invariant.1,
      )
    ])

pub returns : goal.returns
returns c =
    let a = c.args in
    let l = c.loop-r in
    summed-all a.rows (λ s. row_bit a.choosing s a.j) l.c l.r (search rules) l.invariant.0 l.invariant.1
