-- `list_run::row_phases` meets its contract. Assumes nothing.
use native.Mathlib.Omega.{arith}
use Rattle.pair_run.proofs.Premises.{lanes-wider}
use borrow.Author.Rules.{rules}
use Rattle.list_run.proofs.row_phases.Goals as goal

pub invariant_of-state : goal.invariant_of-state
invariant_of-state c =
    let p = c.requires in
    let h = c.free_eight-halves in
    record {
      lanes = record {
        costs-within = p.lanes_within.0;
        halves-within = lanes-wider 4094 4095 h.result (omega arith) (h.ensures.within 2047 p.lanes_within.0);
        halves_are = h.ensures.nodes;
        cost-room = search rules;
        row_room = search rules;
        costs-twins = p.lanes_within.3;
      };
      few = (p.n_bound.0, p.n_bound.1);
      homes = search rules;
    }
