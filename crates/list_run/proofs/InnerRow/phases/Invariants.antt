use Prim.Native.Nat.{◌-◌}
use Rattle.base.specs.Bit.{bit}
use Rattle.bits.specs.Packed.{bits}
use Rattle.list_run.specs.Run.{InRow}
use Rattle.list_run.proofs.InnerRow.phases.Given as goal

abbrev pub invariant-loop-s : goal.invariant-loop-s
invariant-loop-s l =
    InRow l.self.kernel l.self.number l.self.list (λ i. bit (bits 16 l.marks) i) l.initial.state.count l.initial.scratch l.initial.state.costs.now l.s l.state.count l.state.stepped l.scratch l.state.costs.now l.state.halves.now l.state.rows.now l.state.home

abbrev pub decreases-loop-s : goal.decreases-loop-s
decreases-loop-s l = 16 - l.s
