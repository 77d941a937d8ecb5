-- `paths::values11` meets its contract: each entry is what the closure makes of its index. Assumes nothing.
use Rattle.std.proofs.Common.{rules, ◌≡◌, pos, get_or}
use mathlib.Core.Path.{ap, ◌∙◌}
use Rattle.base.specs.Bit.{◌⊕◌, bit}
use Rattle.values.specs.Value.{known_value}
use Rattle.values.specs.Path.{path_number}
use Rattle.values.proofs.Numbers.{path-below, v5-and-v6, v5-and-v6-at}
use Rattle.paths.proofs.Signs.{differ}
use Rattle.paths.proofs.values11.Goals as goal

pub returns : goal.returns
returns c d g a =
    let n = path_number d g a in
    let k = c.filled.ensures n (pos 0) (path-below d g a) in
    let p = get_or c.args.even.now n (pos 0) in
    let q = get_or c.args.odd.now n (pos 0) in
    let e : get_or c.filled.result n (pos 0) ≡ known_value (c.args.t ⊕ bit v5-and-v6 n) p q = search (rules, k, differ c.args.t (bit v5-and-v6 n)) in
    e ∙ ap (λ b. known_value (c.args.t ⊕ b) p q) (v5-and-v6-at d g a)
