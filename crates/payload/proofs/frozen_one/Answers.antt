-- `payload::frozen_one` meets its contract: the first i bytes have no symbol outside the mask. Assumes nothing.
use mathlib.Core.Path.{◌≡◌, ap}
use native.Mathlib.Omega.{arith}
use borrow.Author.Rules.{rules}
use lib.ListN.{length, drop}
use lib.Seq.{drop-length}
use Rattle.bits.specs.Packed.{unpack}
use Rattle.payload.specs.Payload.{frozen_one}
use Rattle.payload.proofs.Bytes.{frozen-none, frozen-some}
use Rattle.payload.proofs.frozen_one.Goals as goal

pub returns-then-x-ne0 : goal.returns-then-x-ne0
returns-then-x-ne0 c =
    let a = c.args in
    let l = c.loop-i in
    let f = frozen-some a.mask.now a.symbols.now l.i (search rules) (search rules) c.if-x-ne0.true (c.type_inv.symbols l.i).fits in
    (omega (arith, f.0), omega (arith, l.invariant, f.1))

pub loop-i-preserved : goal.loop-i-preserved
loop-i-preserved c =
    let a = c.args in
    let l = c.loop-i in
    omega (arith, l.invariant, frozen-none a.mask.now a.symbols.now l.i (search rules) (search rules) c.if-x-ne0.false)

pub returns : goal.returns
unfolding unpack frozen_one
returns c =
    let a = c.args in
    let e : c.loop-i.i ≡ length a.mask.now = search rules in
    let f : frozen_one (unpack (drop (length a.mask.now) a.mask.now)) (unpack (drop c.loop-i.i a.symbols.now)) ≡ 0 =
    ap (λ t. frozen_one (unpack t) (unpack (drop c.loop-i.i a.symbols.now))) (drop-length a.mask.now) in
    omega (arith, c.loop-i.invariant, ap (λ n. frozen_one (unpack (drop n a.mask.now)) (unpack (drop c.loop-i.i a.symbols.now))) e)
