-- `paths::values10` meets its contract: each entry is what the closure makes of its index. Assumes nothing.
use Rattle.std.proofs.Common.{rules, ◌≡◌, pos, get_or}
use mathlib.Core.Path.{ap, ◌∙◌}
use Rattle.base.specs.Bit.{bit}
use Rattle.values.specs.Value.{turned, free_value}
use Rattle.values.specs.Path.{path_number}
use Rattle.values.proofs.Numbers.{path-below, v5-and-v6, v5-and-v6-at}
use Rattle.paths.proofs.values10.Goals as goal

pub returns : goal.returns
returns c d g a =
    let n = path_number d g a in
    let k = c.filled.ensures n (pos 0) (path-below d g a) in
    let x = free_value (get_or c.args.even.now n (pos 0)) (get_or c.args.odd.now n (pos 0)) in
    let e : get_or c.filled.result n (pos 0) ≡ turned (bit v5-and-v6 n) x = search (rules, k) in
    e ∙ ap (λ b. turned b x) (v5-and-v6-at d g a)
