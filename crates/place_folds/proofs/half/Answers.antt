-- `place_folds::half` meets its contract: what it folds is small enough. Assumes nothing.
use native.Mathlib.Omega.{arith}
use Rattle.folds.specs.Range.{value_limit}
use Rattle.folds.specs.Rows.{costs_of}
use Rattle.folds.proofs.Limit.{limit-room}
use Rattle.folds.proofs.Pairs.{pays-small}
use Rattle.place_folds.proofs.half.Goals as goal

pub fold_pair-requires : goal.fold_pair-requires
fold_pair-requires g c =
    let m = costs_of c.args.rows.now in
    let p = pays-small m _ _ _ value_limit (omega (arith, limit-room)) (c.requires.1 _) c.place.ensures in
    let q = pays-small m _ _ _ value_limit (omega (arith, limit-room)) (c.requires.1 _) c.place-2.ensures in
    (p.0, p.1, q.0, q.1)
