-- `frame_run::single_run` meets its contract. Assumes nothing.
use mathlib.Core.Path.{◌≡◌, sym, ap, ◌∙◌}
use Prim.Native.Nat.{◌*◌, ◌<◌}
use native.Mathlib.Omega.{arith}
use lib.IntN.{ℤ}
use lib.ListN.{length, drop}
use lib.Seq.{take_all}
use mathlib.Core.List.{List, ◌++◌}
use Rattle.folds.specs.Range.{value_limit}
use Rattle.folds.proofs.Range.{outside-all, outside-none, outside_wider}
use Rattle.folds.proofs.Limit.{frame-inside}
use Rattle.frame_run.proofs.Runs.{single-scored}
use borrow.Author.Rules.{rules}
use Rattle.frame_run.proofs.single_run.Goals as goal
use Rattle.frame_run.proofs.single_run.Goals.{After-kernel_values-wide}

wide-long : (c : After-kernel_values-wide) → length c.kernel_values-wide.result ≡ 16
wide-long c =
    search rules

pub hadamard_run-row-requires : goal.hadamard_run-row-requires
hadamard_run-row-requires c =
    let z = c in
    let w = c.kernel_values-wide in
    let long : length w.result ≡ 16 = wide-long (goal.at.hadamard_run-row-requires c).After-kernel_values-wide in
    (z.requires.0, long, outside_wider (16 * 127) value_limit frame-inside w.result (outside-all (16 * 127) w.result (λ i l. let li : i < 16 = omega (arith, long) in rw (w.ensures i li) (omega (arith, outside-none 127 z.args.values.now (z.requires.2 ∙ sym z.requires.1) i)))) ∙ long)

pub returns : goal.returns
returns c =
    let a = c.args in
    let row = c.hadamard_run-row in
    single-scored a.kernels a.values.now c.kernel_values-wide.result c.kernel_values-wide.ensures a.free.now a.given.now _ _ a.scores.now row.result.scores row.ensures
    (ap (λ (l : List ℤ). l ++ drop 16 a.scores.now) (c.copy_from_slice.ensures.after ∙ sym (take_all 16 row.result.scores (search rules))))
