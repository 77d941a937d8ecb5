-- `frame::frame_undo` meets its contract: there is room for the rows and the symbols. Assumes nothing.
use mathlib.Core.Path.{ap, sym, ◌∙◌}
use Prim.Native.Nat.{◌/◌}
use native.Mathlib.Omega.{arith}
use lib.ListN.{replicate}
use lib.Seq.{length-take-le}
use Rattle.answer.specs.Verdict.{is_accepted}
use Rattle.plan.proofs.Layered.{bytes-rows}
use Rattle.frame.proofs.Accepted.{request-accepted}
use Rattle.frame.proofs.frame_undo.Goals as goal

pub invariant_of-work : goal.invariant_of-work
invariant_of-work c =
    let n = c.bytes-n in
    let q = request-accepted _ _ _ _ (ap is_accepted (sym c.in_ok-request_check.ensures)) in
    let e = n.ensures.0 q.layered in
    record {
      layered = q.layered;
      known = q.known;
      symbols_len = length-take-le n.result (replicate 512 0) n.ensures.1 ∙ e;
      rows_len = length-take-le (n.result / 2) (replicate 256 0) (omega (arith, n.ensures.1)) ∙ omega (arith, e, bytes-rows _ q.layered);
    }
