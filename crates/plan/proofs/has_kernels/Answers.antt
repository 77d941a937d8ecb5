-- `plan::has_kernels` meets its contract: it looks at the kernels of the layers, and at no other. Assumes nothing.
use mathlib.Core.Path.{◌≡◌, ◌∙◌}
use native.Mathlib.Omega.{arith}
use borrow.Author.Rules.{rules}
use lib.ListN.{length, take}
use Rattle.std.proofs.Common.{tests}
use Rattle.std.proofs.lemmas.Iterator.{YieldsList-from_slice}
use Rattle.std.proofs.lemmas.Iterator.Search.{all_from_yields_List}
use Rattle.kernel.specs.Jobs.{is_kernel}
use Rattle.plan.proofs.Layered.{layers-few, kernels-all}
use Rattle.plan.proofs.has_kernels.Goals as goal

pub shared_ref_as_front-iter : goal.shared_ref_as_front-iter
shared_ref_as_front-iter c = omega (arith, layers-few _ c.requires, c.from-m.ensures)

pub returns : goal.returns
returns c =
    let a = c.args.plan in
    let n : length a.kernels ≡ 3 = search rules in
    let e = all_from_yields_List is_kernel _ _ c.all.result c.all.ensures.ran (YieldsList-from_slice (take c.from-m.result a.kernels) cc) (λ x b q k. search (rules, tests)) in
    e ∙ kernels-all a _ c.from-m.ensures (omega (arith, n, layers-few _ c.requires))
