-- `quarters::joined` meets its contract. Assumes nothing.
use mathlib.Core.Bool.{false}
use lib.IntN.{pos}
use Rattle.quarters.proofs.Following.{four-fours}
use Rattle.quarters.proofs.joined.Goals as goal

pub returns : goal.returns
returns c sc f g ha hb hc hd =
    let s = c.args in
    rw (c.sixteen.ensures (pos 0))
    (rw (c.sixteen-2.ensures false)
    (four-fours sc f g s.a.scores s.b.scores s.c.scores s.d.scores s.a.symbols s.b.symbols s.c.symbols s.d.symbols ha hb hc hd))
