-- `list_checks::list_check` meets its contract: each exit answers the first check that holds. Assumes nothing.
use mathlib.Core.Path.{◌≡◌, ap}
use mathlib.Core.Bool.{true, false, ◌||◌}
use native.Mathlib.Omega.{arith}
use lib.Dec.{ltb}
use lib.ListN.{length}
use borrow.Author.Rules.{rules}
use borrow.Author.Tests.{lt-ltb, le-ltb}
use Rattle.mask.specs.Mask.{marked}
use Rattle.plan.specs.Plan.{bad_layers}
use Rattle.decode_checks.specs.Checks.{value_check}
use Rattle.decode_checks.proofs.Taken.{refused, good, eighth, marks}
use Rattle.list_checks.specs.Checks.{list_decode_checks}
use Rattle.list_checks.proofs.list_check.Goals as goal

pub has_kernels-requires : goal.has_kernels-requires
unfolding bad_layers
has_kernels-requires c = ap (λ m. ltb m 1 || ltb 3 m) c.if-plan-ne2.false

pub returns-then-bytes-eq0 : goal.returns-then-bytes-eq0
unfolding list_decode_checks
returns-then-bytes-eq0 c =
    let n : length c.args.mask.now ≡ 32 = search rules in
    search (rules, refused _ _ _ n c.requires c.if-bytes-eq0.true)

pub returns-then-bytes-lt3 : goal.returns-then-bytes-lt3
unfolding list_decode_checks
returns-then-bytes-lt3 c =
    let n : length c.args.mask.now ≡ 32 = search rules in
    let m = marks _ _ _ n c.requires c.if-bytes-eq0.false in
    let few : ltb (marked c.args.mask.now) 24 ≡ true = lt-ltb _ _ (omega (arith, m, c.if-bytes-lt3.true)) in
    search (rules, good _ _ _ n c.requires c.if-bytes-eq0.false, few)

pub returns-then-payload_room-bytes : goal.returns-then-payload_room-bytes
unfolding list_decode_checks
returns-then-payload_room-bytes c =
    let n : length c.args.mask.now ≡ 32 = search rules in
    let m = marks _ _ _ n c.requires c.if-bytes-eq0.false in
    let enough : ltb (marked c.args.mask.now) 24 ≡ false = le-ltb _ _ (omega (arith, m, c.if-bytes-lt3.false)) in
    search (rules, good _ _ _ n c.requires c.if-bytes-eq0.false, eighth _ _ _ n c.requires c.if-bytes-eq0.false, enough)

pub returns-in-Some : goal.returns-in-Some
unfolding list_decode_checks value_check
returns-in-Some c =
    let n : length c.args.mask.now ≡ 32 = search rules in
    let m = marks _ _ _ n c.requires c.if-bytes-eq0.false in
    let enough : ltb (marked c.args.mask.now) 24 ≡ false = le-ltb _ _ (omega (arith, m, c.if-bytes-lt3.false)) in
    search (rules, good _ _ _ n c.requires c.if-bytes-eq0.false, eighth _ _ _ n c.requires c.if-bytes-eq0.false, enough)

pub returns : goal.returns
unfolding list_decode_checks value_check
returns c =
    let n : length c.args.mask.now ≡ 32 = search rules in
    let m = marks _ _ _ n c.requires c.if-bytes-eq0.false in
    let enough : ltb (marked c.args.mask.now) 24 ≡ false = le-ltb _ _ (omega (arith, m, c.if-bytes-lt3.false)) in
    search (rules, good _ _ _ n c.requires c.if-bytes-eq0.false, eighth _ _ _ n c.requires c.if-bytes-eq0.false, enough)
