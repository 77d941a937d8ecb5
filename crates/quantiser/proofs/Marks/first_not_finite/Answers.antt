-- `quantiser::Marks::first_not_finite` meets its contract: the search has passed m bytes of the mask. Assumes nothing.
use native.Mathlib.Omega.{arith}
use Rattle.quantiser.specs.Marks.{not_finite, first_not_finite}
use Rattle.quantiser.proofs.Lowest.{lowest-none, found, passed}
use Rattle.quantiser.proofs.Marks.first_not_finite.Goals as goal

pub returns-in-Some : goal.returns-in-Some
unfolding first_not_finite
returns-in-Some c =
    let a = c.args in
    let e = c.in-Some.ensures in
    found 16 c.loop-m.m c.in-Some.place (not_finite a.self.now.amplitudes.now a.self.now.blanked.now) c.loop-m.invariant e.1 256 e.0 (omega (arith, e.0, c.loop-m-test.true))

pub loop-m-preserved : goal.loop-m-preserved
loop-m-preserved c =
    let a = c.args in
    passed 16 c.loop-m.m 16 (not_finite a.self.now.amplitudes.now a.self.now.blanked.now) c.loop-m.invariant c.in_default.ensures (omega arith)

pub returns : goal.returns
unfolding first_not_finite
returns c = lowest-none 256 (not_finite c.args.self.now.amplitudes.now c.args.self.now.blanked.now) (λ k l. c.loop-m.invariant k (omega arith))
