-- `side_follow::place_costs` meets its contract: one lane more has what its value pays. Assumes nothing.
use mathlib.Core.Path.{◌≡◌, ◌∙◌}
use mathlib.Core.Bool.{true, false}
use Prim.Native.Nat.{◌+◌, ◌*◌}
use borrow.Author.Rules.{rules}
use lib.IntN.{pos, nat_abs}
use lib.ListN.{get_or}
use Rattle.folds.proofs.Fill.{fill_one}
use Rattle.folds.proofs.Signs.{neg-pays, pos-pays}
use Rattle.side_follow.proofs.place_costs.Goals as goal
use Rattle.side_follow.proofs.place_costs.Goals.{else-y-lt0, then-y-lt0}

pub loop-l-preserved : goal.loop-l-preserved
loop-l-preserved c =
    let k = c.loop-l in
    let y = get_or c.args.values.now (16 * c.args.t + k.l) (pos 0) in
    let e : c.size-paid.result ≡ nat_abs y = search rules in
    elim c.if-y-lt0.branch [
      | then-y-lt0 w ↦ let p = neg-pays y (search (rules, w.if-y-lt0.true)) in
          rw w.out-is (fill_one 0 16 k.l _ k.out k.invariant false _ (search rules) (e ∙ p.0) p.1)
      | else-y-lt0 w ↦ let p = pos-pays y (search (rules, w.if-y-lt0.false)) in
          rw w.out-is (fill_one 0 16 k.l _ k.out k.invariant true _ (search rules) (e ∙ p.0) p.1)
    ]
