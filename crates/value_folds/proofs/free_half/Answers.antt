-- `value_folds::free_half` meets its contract: one more entry is stored. Assumes nothing.
use Rattle.std.proofs.Common.{rules, ◌≡◌, ◌+◌, pos, get_or, w32, to_z, of_z}
use Rattle.values.specs.Value.{free_value}
use Rattle.value_folds.proofs.Filling.{fill_one}
use Rattle.value_folds.proofs.free_half.Goals as goal

pub loop-i-preserved : goal.loop-i-preserved
loop-i-preserved g c =
    let k = c.loop-i in
    let xs = c.args.values.now in
    let e : to_z w32 (of_z w32 c.free.result) ≡ free_value (get_or xs k.i (pos 0)) (get_or xs (g.row.N + k.i) (pos 0)) = search rules in
    fill_one (pos 0) g.row.N k.i _ k.out k.invariant _ (search rules) e
