-- `decode_checks::decode_check` meets its contract: each exit answers the first check that holds. Assumes nothing.
use mathlib.Core.Path.{◌≡◌}
use lib.ListN.{length}
use borrow.Author.Rules.{rules}
use Rattle.decode_checks.specs.Checks.{value_check, frame_decode_checks}
use Rattle.decode_checks.proofs.Taken.{refused, good, eighth}
use Rattle.decode_checks.proofs.decode_check.Goals as goal

pub returns-then-bytes-eq0 : goal.returns-then-bytes-eq0
unfolding frame_decode_checks
returns-then-bytes-eq0 c =
    let n : length c.args.mask.now ≡ c.bytes-mask_bytes.result = search rules in
    search (rules, refused _ _ _ n c.payload_bytes-bytes.ensures c.if-bytes-eq0.true)

pub returns-then-score_room-n : goal.returns-then-score_room-n
unfolding frame_decode_checks
returns-then-score_room-n c =
    let n : length c.args.mask.now ≡ c.bytes-mask_bytes.result = search rules in
    search (rules, good _ _ _ n c.payload_bytes-bytes.ensures c.if-bytes-eq0.false, eighth _ _ _ n c.payload_bytes-bytes.ensures c.if-bytes-eq0.false)

pub returns-in-Some : goal.returns-in-Some
unfolding frame_decode_checks value_check
returns-in-Some c =
    let n : length c.args.mask.now ≡ c.bytes-mask_bytes.result = search rules in
    search (rules, good _ _ _ n c.payload_bytes-bytes.ensures c.if-bytes-eq0.false, eighth _ _ _ n c.payload_bytes-bytes.ensures c.if-bytes-eq0.false)

pub returns : goal.returns
unfolding frame_decode_checks value_check
returns c =
    let n : length c.args.mask.now ≡ c.bytes-mask_bytes.result = search rules in
    search (rules, good _ _ _ n c.payload_bytes-bytes.ensures c.if-bytes-eq0.false, eighth _ _ _ n c.payload_bytes-bytes.ensures c.if-bytes-eq0.false)
