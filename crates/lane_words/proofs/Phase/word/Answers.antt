-- `lane_words::Phase::word` meets its contract: the own row and the first t rows of the window are summed. Assumes nothing.
use Prim.Native.Nat.{◌-◌}
use native.Mathlib.Omega.{arith}
use Rattle.lane_words.proofs.Sums.{window-own, window-next, window-whole}
use Rattle.lane_words.proofs.Phase.word.Goals as goal

pub loop-t-init : goal.loop-t-init
loop-t-init c =
    let p = c.args.self.now in
    window-own p.table.now p.number c.args.own (p.high - p.number) c.args.path _ c.only-c.ensures

pub loop-t-preserved : goal.loop-t-preserved
loop-t-preserved c =
    let p = c.args.self.now in
    let l = c.loop-t in
    window-next p.table.now p.number c.args.own (p.high - p.number) c.args.path l.c _ l.t (omega arith) c.only-c-in-loop-t.ensures l.invariant

pub returns : goal.returns
returns c =
    let p = c.args.self.now in
    let l = c.loop-t in
    λ j _. window-whole p.table.now p.number c.args.own (p.high - p.number) c.args.path l.c l.t (omega arith) l.invariant j
