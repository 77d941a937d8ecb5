-- `value_folds::known_half` meets its contract: one more entry is stored. Assumes nothing.
use Rattle.std.proofs.Common.{rules, ◌≡◌, ◌+◌, false, pos, get_or, w32, to_z, of_z}
use Rattle.values.specs.Value.{known_value}
use Rattle.value_folds.proofs.Filling.{fill_one}
use Rattle.value_folds.proofs.known_half.Goals as goal

pub loop-i-preserved : goal.loop-i-preserved
loop-i-preserved g c =
    let k = c.loop-i in
    let xs = c.args.values.now in
    let e : to_z w32 (of_z w32 c.known.result) ≡ known_value (get_or c.args.word.now k.i false) (get_or xs k.i (pos 0)) (get_or xs (g.row.N + k.i) (pos 0)) = search rules in
    fill_one (pos 0) g.row.N k.i _ k.out k.invariant _ (search rules) e
