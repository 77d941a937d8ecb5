-- `path_rows::turned` meets its contract: one more value is turned. Assumes nothing.
use Rattle.std.proofs.Common.{rules, ◌≡◌, false, pos, get_or, w32, to_z, of_z}
use Rattle.values.specs.Value.{turned}
use Rattle.value_folds.proofs.Filling.{fill_one}
use Rattle.path_rows.proofs.turned.Goals as goal

pub loop-i-preserved : goal.loop-i-preserved
loop-i-preserved g c =
    let k = c.loop-i in
    let e : to_z w32 (of_z w32 c.turned.result) ≡ turned (get_or c.args.word.now k.i false) (get_or c.args.values.now k.i (pos 0)) = search rules in
    fill_one (pos 0) g.row.N k.i _ k.out k.invariant _ (search rules) e
