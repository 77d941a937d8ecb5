-- `lane_words::Phase::paths` meets its contract. Assumes nothing.
use Prim.Native.Nat.{◌-◌}
use Rattle.windows.proofs.Words.{pow-le, paths-are}
use Rattle.lane_words.proofs.Phase.paths.Goals as goal

pub returns : goal.returns
returns c =
    let p = c.args.self.now in
    let e = paths-are (p.high - p.number) p.within.2 in
    (e, rw e (pow-le (p.high - p.number) p.within.2))
