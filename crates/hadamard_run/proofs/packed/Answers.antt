-- `hadamard_run::packed` meets its contract. The first s bits are the first s symbols. Assumes nothing.
use Rattle.bits.specs.Packed.{bits}
use Rattle.hadamard_run.proofs.Packing.{packing-none, packing-next, packing-all}
use Rattle.hadamard_run.proofs.packed.Goals as goal

pub loop-s-init : goal.loop-s-init
loop-s-init c = packing-none c.args.symbols.now

pub loop-s-preserved : goal.loop-s-preserved
loop-s-preserved c =
    let k = c.loop-s in
    packing-next c.args.symbols.now (bits 16 k.out) _ k.s c.loop-s-test.true k.invariant c.with_bit-out.ensures

pub returns : goal.returns
returns c = packing-all c.args.symbols.now (bits 16 c.loop-s.out) c.loop-s.s c.loop-s-test.false c.loop-s.invariant
