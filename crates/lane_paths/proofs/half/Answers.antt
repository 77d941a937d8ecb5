-- `lane_paths::half` meets its contract: what it folds is small enough. Assumes nothing.
use Prim.Native.Nat.{◌+◌}
use borrow.Author.Rules.{rules}
use Rattle.base.specs.Bit.{bit}
use Rattle.bits.specs.Packed.{bits}
use Rattle.lane_paths.proofs.Turn.{node-inside, read-asks}
use Rattle.lane_paths.proofs.half.Goals as goal

pub fold_pair-requires : goal.fold_pair-requires
fold_pair-requires g c =
    let a = c.args in
    let f = bit (bits 16 a.other) in
    let n = node-inside f a.i _ (search rules) c.node.ensures in
    let k = node-inside f (4 + a.i) _ (search rules) c.node-2.ensures in
    read-asks a.nodes.now _ _ a.l _ _ _ _ c.requires.small n k c.requires.index.1 c.at-p.ensures c.at-q.ensures
