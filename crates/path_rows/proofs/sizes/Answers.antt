-- `path_rows::sizes` meets its contract: one more size is added. Assumes nothing.
use Rattle.std.proofs.Common.{rules, ◌≡◌, ◌≤◌, nat_abs, get_or, pos}
use Rattle.path_rows.proofs.Totals.{total-none, total-next}
use Rattle.path_rows.proofs.sizes.Goals as goal

pub loop-x-init : goal.loop-x-init
loop-x-init g c = total-none 4194304 _

pub loop-x-preserved : goal.loop-x-preserved
loop-x-preserved g c =
    let k = c.loop-x in
    let e : c.size-sum.result ≡ nat_abs (get_or c.args.values.now k.x-index (pos 0)) = search rules in
    let l : c.size-sum.result ≤ 4194304 = rw e (c.requires.1 k.x-index (search rules)) in
    total-next 4194304 k.x-index _ k.sum c.size-sum.result k.invariant e l
