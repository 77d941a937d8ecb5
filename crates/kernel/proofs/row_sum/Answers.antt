-- `kernel::row_sum` meets its contract: after n turns c is the sum of the first n chosen rows. Assumes nothing.
use mathlib.Core.Path.{ap, ◌∙◌}
use Prim.Native.Nat.{ℕ, ◌-◌, ◌/◌, ◌%◌, ◌^◌}
use native.Mathlib.Omega.{arith}
use lib.Bits.{bit_xor, xor_lt, xor_zero_r}
use mir.Val.{Fits}
use mir.Syntax.{w16}
use borrow.Author.Rules.{rules}
use borrow.Author.Tests.{eq-eqb, ne_eqb}
use Rattle.base.specs.Bit.{bit}
use Rattle.bits.specs.Packed.{bits}
use Rattle.bits.proofs.Packed.{bits-shift}
use Rattle.kernel.proofs.Rows.{summed-none, summed-row, summed-skip, summed-all}
use Rattle.kernel.proofs.row_sum.Goals as goal
use Rattle.kernel.proofs.row_sum.Goals.{else-x-s-eq0, then-x-s-eq0}

pub loop-s-init : goal.loop-s-init
loop-s-init c = (search rules, summed-none c.args.rows (bit (bits 16 c.args.x)), search rules)

pub loop-s-preserved : goal.loop-s-preserved
loop-s-preserved c =
    let a = c.args in
    let l = c.loop-s in
    let b = bits-shift 15 a.x l.s (omega arith) in
    let y : ℕ = a.x / 2 ^ (15 - l.s) % 2 in
    let f = bit (bits 16 a.x) in
    let row = c.if-x-s-eq0.row in
    let fits : Fits w16 row = search rules in (
      search rules,
      (elim c.if-x-s-eq0.branch [ then-x-s-eq0 w ↦ summed-skip a.rows f l.c _ l.s (b ∙ ne_eqb y 1 (λ e. omega (arith, e, w.if-x-s-eq0.true))) (ap (bit_xor l.c) w.row-is ∙ xor_zero_r l.c) l.invariant.1 | else-x-s-eq0 w ↦ summed-row a.rows f l.c _ l.s (b ∙ eq-eqb y 1 (omega (arith, w.if-x-s-eq0.false))) (ap (bit_xor l.c) w.row-is) l.invariant.1 ]),
      xor_lt 16 l.c row l.invariant.2 fits.fits,
    )

pub returns : goal.returns
returns c =
    let a = c.args in
    let l = c.loop-s in
    summed-all a.rows (bit (bits 16 a.x)) l.c l.s (search rules) l.invariant.2 l.invariant.1
