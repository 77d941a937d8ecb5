-- `frame_checks::request_check` meets its contract: each exit answers the first check that holds. Assumes nothing.
use borrow.Author.Rules.{rules}
use native.Mathlib.Omega.{arith}
use Rattle.std.proofs.lemmas.Grind.{common_steps}
use Rattle.frame_checks.specs.Checks.{request_checks}
use Rattle.frame_checks.proofs.Masks.{mask-refused, mask-passed}
use Rattle.frame_checks.proofs.request_check.Goals as goal

pub returns-then-bytes-eq0 : goal.returns-then-bytes-eq0
unfolding request_checks
returns-then-bytes-eq0 c =
    let bad = mask-refused _ _ _ c.if-mask-n.false c.payload_bytes-bytes.ensures c.if-bytes-eq0.true in
    search rules

pub returns-then-room-bytes : goal.returns-then-room-bytes
unfolding request_checks
returns-then-room-bytes c =
    let passed = mask-passed _ _ _ c.if-mask-n.false c.payload_bytes-bytes.ensures c.if-bytes-eq0.false in
    grind (arith, common_steps)

pub returns : goal.returns
unfolding request_checks
returns c =
    let passed = mask-passed _ _ _ c.if-mask-n.false c.payload_bytes-bytes.ensures c.if-bytes-eq0.false in
    grind (arith, common_steps)
