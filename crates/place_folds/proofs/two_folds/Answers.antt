-- `place_folds::two_folds` meets its contract: the first fold doubles the bound. Assumes nothing.
use Prim.Native.Nat.{◌+◌}
use native.Mathlib.Omega.{arith}
use borrow.Author.Rules.{rules}
use Rattle.folds.specs.Range.{value_limit}
use Rattle.folds.specs.Rows.{costs_of}
use Rattle.folds.proofs.Limit.{limit-room}
use Rattle.folds.proofs.Pairs.{pays-small}
use Rattle.place_folds.proofs.two_folds.Goals as goal

pub fold_pair-folded-requires : goal.fold_pair-folded-requires
fold_pair-folded-requires g c =
    let m = costs_of c.args.rows.now in
    let left = g.A.Fold.folded c.args.first.now 8 m in
    let most = g.met.A.Fold.doubles c.args.first.now 8 m value_limit (λ j b _. c.requires j b) in
    let p = pays-small left _ _ _ (value_limit + value_limit) (omega (arith, limit-room)) (λ b. most _ b (search rules)) c.half-p.ensures in
    let q = pays-small left _ _ _ (value_limit + value_limit) (omega (arith, limit-room)) (λ b. most _ b (search rules)) c.half-q.ensures in
    (p.0, p.1, q.0, q.1)
