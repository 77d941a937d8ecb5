-- `list_step::settle` meets its contract. Assumes nothing.
use mathlib.Core.Path.{subst}
use mathlib.Core.List.{List}
use Prim.Native.Nat.{ℕ, ◌≤◌}
use native.Mathlib.Omega.{arith}
use lib.ListN.{get_or}
use Rattle.path.specs.Path.{path_at}
use Rattle.list_phase.specs.Next.{Candidate}
use Rattle.list_step.proofs.Candidates.{penalties-small, inside}
use Rattle.list_step.proofs.settle.Goals as goal

pub in_order-order-requires : goal.in_order-order-requires
in_order-order-requires c =
    let s = c in
    let d = c.candidate_penalties-pens in
    penalties-small s.args.pair.now s.args.n d.result d.ensures s.requires.at_bound.4 s.requires.by_index

pub next_list-requires : goal.next_list-requires
next_list-requires c =
    let s = c in
    let k = c.kept in
    let l : k.result ≤ 8 = omega (arith, k.ensures, s.requires.at_bound.2) in
    let e = c.in_order-order in
    (l, s.requires.at_bound.0, s.requires.at_bound.5, λ i li. inside c.candidate_penalties-pens.result e.result e.ensures i (omega (arith, li, l)))

pub returns : goal.returns
returns c =
    let s = c in
    let a = s.args in
    let k = c.kept in
    let d = c.candidate_penalties-pens in
    let e = c.in_order-order in
    let n = c.next_list in record {
      rest = (n.ensures.0, n.ensures.1);
      settled = record {
        pens = d.result;
        pens-are = d.ensures;
        order_is = e.ensures;
        record-so = λ j l. subst (λ (o : List ℕ). Candidate a.at (get_or o j 0) (get_or d.result (get_or o j 0) 0) a.scratch.now (path_at j n.new.scratch)) e.ensures (n.ensures.2 j (omega (arith, l, k.ensures)));
      };
    }
