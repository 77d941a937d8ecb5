-- `list_run::next_planes` meets its contract: the first i paths have their planes. Assumes nothing.
use mathlib.Core.Path.{◌≡◌, ap, ◌∙◌}
use mathlib.Core.List.{[]}
use Prim.Native.Nat.{ℕ, ◌<◌}
use native.Mathlib.Omega.{arith}
use lib.ListN.{length, get_or, set, length-set}
use Rattle.base.proofs.List.{each_next}
use Rattle.bits.specs.Packed.{bits}
use Rattle.kernel.specs.Rows.{row_sum}
use Rattle.list_step.specs.Step.{row_symbols}
use Rattle.list_run.proofs.Outer.{rooms-set}
use Rattle.list_run.proofs.next_planes.Goals as goal

pub loop-i-preserved : goal.loop-i-preserved
loop-i-preserved c =
    let z = c in
    let k = c.loop-i in
    let lt = c.loop-i-test.true in
    let h = z.requires.r_bound.3 k.i lt in
    let lk : k.i < length k.out = omega (arith, z.requires.r_bound.1, k.invariant.0, lt) in
    let w = c.row_word in
    let e = c.with_word.ensures ∙ ap (λ v. set (get_or z.args.planes.now (get_or z.args.home.now k.i 0) []) z.args.r v) c.row_sum-word.ensures in (
      length-set k.out k.i _ ∙ k.invariant.0,
      rooms-set 8 k.out k.i _ lk (ap length e ∙ length-set (get_or z.args.planes.now (get_or z.args.home.now k.i 0) []) z.args.r (row_sum z.args.matrix w.result) ∙ z.requires.by_index _ h) k.invariant.1,
      each_next (λ j x. (y : ℕ) × (bits 16 y ≡ row_symbols z.args.scratch.now z.args.r 16 j) × (x ≡ set (get_or z.args.planes.now (get_or z.args.home.now j 0) []) z.args.r (row_sum z.args.matrix y))) k.out k.i [] _ lk k.invariant.2
          (w.result, w.ensures, e),
    )

pub returns-clause-next : goal.returns-clause-next
returns-clause-next c = λ i l. c.loop-i.invariant.2 i (omega arith)
