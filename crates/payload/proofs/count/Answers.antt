-- `payload::count` meets its contract: the machine's counts of the bytes add up to the ones. Assumes nothing.
use mathlib.Core.Path.{◌≡◌, ◌∙◌}
use lib.Count
use Rattle.std.specs.List.{sum_by}
use Rattle.payload.proofs.Payload.{count_bytes}
use borrow.Author.Rules.{rules}
use Rattle.payload.proofs.count.Goals as goal

pub returns : goal.returns
returns c =
    let e : c.sum-n.result ≡ sum_by lib.Count.ones c.args.s.now = search rules in
    e ∙ count_bytes c.args.s.now c.type_inv.s
