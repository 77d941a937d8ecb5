-- `penalty_sums::add_row` meets its contract: the sums of the first i phases are written. Assumes nothing.
use Prim.Native.Nat.{◌+◌, ◌≤◌}
use native.Mathlib.Omega.{arith}
use lib.ListN.{get_or}
use lib.Seq.{paste-zero}
use Rattle.polar.proofs.Minima.{sum-none, sum-part}
use Rattle.penalty_sums.proofs.Sums.{row_sums, next-sum, next-stored}
use borrow.Author.Rules.{rules}
use Rattle.penalty_sums.proofs.add_row.Goals as goal

pub loop-i-init : goal.loop-i-init
loop-i-init c = (omega (arith, sum-none (λ j. get_or c.args.paid.now j 0)), paste-zero c.args.out.now c.args.at (row_sums c.args.paid.now c.args.start))

-- The next sum is small.
pub overflow_add-penalty : goal.overflow_add-penalty
overflow_add-penalty c =
    let k = c.loop-i in
    let e : k.i + 1 ≤ 16 = search rules in
    omega (arith, next-sum c.args.paid.now c.args.start k.i k.penalty k.invariant.0, c.requires.1, sum-part (k.i + 1) 16 (λ j. get_or c.args.paid.now j 0) e)

pub loop-i-preserved : goal.loop-i-preserved
loop-i-preserved c =
    let a = c.args in
    let k = c.loop-i in (
      next-sum a.paid.now a.start k.i k.penalty k.invariant.0,
      next-stored a.paid.now a.start k.i k.penalty k.invariant.0 a.at a.out.now k.out (search rules) (search rules) k.invariant.1,
    )
