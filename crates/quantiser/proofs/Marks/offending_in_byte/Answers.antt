-- `quantiser::Marks::offending_in_byte` meets its contract: the search has passed j marks of the byte. Assumes nothing.
use mathlib.Core.Path.{◌∙◌}
use Prim.Native.Nat.{◌+◌, ◌*◌}
use native.Mathlib.Omega.{arith}
use Rattle.quantiser.specs.Marks.{not_finite, place_in_mark}
use Rattle.quantiser.proofs.Lowest.{lowest-none, found, passed}
use Rattle.quantiser.proofs.Request.{mark-in-byte, tag-of, place-below}
use Rattle.quantiser.proofs.Marks.offending_in_byte.Goals as goal

pub overflow_mul-result : goal.overflow_mul-result
overflow_mul-result c = omega (arith, c.loop-j-test.true)

pub returns-in-Some : goal.returns-in-Some
returns-in-Some c =
    let a = c.args in
    let j = c.loop-j.j in
    let b = place-below c.in-Some.side in
    let f = found 2 j (place_in_mark c.in-Some.side) (λ i. not_finite a.self.now.amplitudes.now a.self.now.blanked.now (16 * a.m + i)) c.loop-j.invariant
    (mark-in-byte _ _ a.m j _ c.mark_at.ensures ∙ c.in-Some.ensures) 16 b (omega (arith, b, c.loop-j-test.true)) in
    rw (tag-of c.in-Some.side) f

pub loop-j-preserved : goal.loop-j-preserved
loop-j-preserved c =
    let a = c.args in
    let j = c.loop-j.j in
    passed 2 j 2 (λ i. not_finite a.self.now.amplitudes.now a.self.now.blanked.now (16 * a.m + i)) c.loop-j.invariant
    (mark-in-byte _ _ a.m j _ c.mark_at.ensures ∙ c.in_default.ensures) (omega arith)

pub returns : goal.returns
returns c = lowest-none 16 (λ i. not_finite c.args.self.now.amplitudes.now c.args.self.now.blanked.now (16 * c.args.m + i)) (λ k l. c.loop-j.invariant k (omega arith))
