-- `mask::payload_bytes` meets its contract: each exit has the mask's number of bytes. Assumes nothing.
use mathlib.Core.Bool.{or-true}
use Prim.Native.Nat.{◌%◌}
use native.Mathlib.Omega.{arith}
use borrow.Author.Tests.{eq-eqb, ne_eqb}
use Rattle.mask.specs.Mask.{marked, bad_mask, payload_bytes}
use Rattle.mask.proofs.Mask.{whole-bytes}
use Rattle.mask.proofs.payload_bytes.Goals as goal

pub returns-then-mask-n : goal.returns-then-mask-n
unfolding payload_bytes
returns-then-mask-n c = simp (ne_eqb _ _ c.if-mask-n.true, payload_bytes)

pub returns-then-k-ne0 : goal.returns-then-k-ne0
unfolding payload_bytes bad_mask marked
returns-then-k-ne0 c =
    let k = c.count-k in
    simp (eq-eqb _ _ c.if-mask-n.false, ← k.ensures, ne_eqb (k.result % 8) 0 (λ e. omega (arith, c.if-k-ne0.true)), or-true, payload_bytes, bad_mask)

pub returns : goal.returns
unfolding marked
returns c =
    let k = c.count-k in
    let a = c.args in
    omega (arith, whole-bytes a.n a.mask.now c.if-mask-n.false (omega (arith, k.ensures)), k.ensures)
