-- `frame::frame_encode` meets its contract: it writes the word. Assumes nothing.
use mathlib.Core.Path.{ap, sym, ◌∙◌}
use Prim.Native.Nat.{◌/◌}
use native.Mathlib.Omega.{arith}
use lib.ListN.{length, replicate}
use lib.Seq.{length-take-le}
use Rattle.answer.specs.Verdict.{is_accepted}
use Rattle.plan.proofs.Layered.{bytes-rows}
use Rattle.frame.proofs.Accepted.{EncodeAccepted, encode-accepted}
use Rattle.frame.proofs.frame_encode.Goals as goal
use Rattle.frame.proofs.frame_encode.Goals.{In_ok-encode_check}

-- The inputs pass the checks.
passed : (c : In_ok-encode_check) → (let a = c.args in EncodeAccepted a.plan a.mask.now (length a.payload.now) (length a.word.now))
passed c = encode-accepted _ _ _ _ (ap is_accepted (sym c.in_ok-encode_check.ensures))

pub invariant_of-work : goal.invariant_of-work
invariant_of-work c =
    let n = c.bytes-n in
    let q = passed (goal.at.invariant_of-work c).In_ok-encode_check in
    let e = n.ensures.0 q.layered in
    record {
      layered = q.layered;
      known = q.known;
      symbols_len = length-take-le n.result (replicate 512 0) n.ensures.1 ∙ e;
      rows_len = length-take-le (n.result / 2) (replicate 256 0) (omega (arith, n.ensures.1)) ∙ omega (arith, e, bytes-rows _ q.layered);
    }

pub encode-requires-clause-mask_len : goal.encode-requires-clause-mask_len
encode-requires-clause-mask_len c = (passed (goal.at.encode-requires-clause-mask_len c).In_ok-encode_check).count

pub encode-requires-clause-payload_len : goal.encode-requires-clause-payload_len
encode-requires-clause-payload_len c = (passed (goal.at.encode-requires-clause-payload_len c).In_ok-encode_check).filled

pub encode-requires-clause-word_len : goal.encode-requires-clause-word_len
encode-requires-clause-word_len c = (passed (goal.at.encode-requires-clause-word_len c).In_ok-encode_check).room-enough
