-- `list_step::one_phase` meets its contract. Assumes nothing.
use mathlib.Core.Path.{◌≡◌, ap, ◌∙◌, subst⁻¹}
use mathlib.Core.List.{List, []}
use Prim.Native.Nat.{ℕ, ◌-◌, ◌*◌, ◌%◌, ◌^◌, ◌≤◌}
use native.Mathlib.Omega.{arith}
use lib.ListN.{get_or}
use Rattle.windows.specs.Tables.{shape_at}
use Rattle.windows.proofs.Stepping.{in-range}
use Rattle.windows.proofs.Words.{pow-le, paths-are}
use Rattle.list_step.specs.Step.{PhaseStep}
use Rattle.list_step.proofs.Stepping.{totals-small, other-rows, marked_step, frozen-step}
use borrow.Author.Rules.{rules}
use Rattle.list_step.proofs.one_phase.Goals as goal

pub returns-then-not-marked : goal.returns-then-not-marked
returns-then-not-marked c =
    let s = c in
    let a = s.args in
    let p = s.requires in
    let t = c.totals-pair in
    let rows = t.new.rows in
    let f = c.freeze_list in
    let new = f.new.scratch in
    let clean = p.clean_2 in
    let q = frozen-step a.inner a.r a.s a.n p.inner_bound.0 p.inner_bound.1 p.inner_bound.2 p.inner_bound.5 p.inner_bound.6 t.result a.scratch.now a.costs.now rows clean t.ensures.totals a.list a.home.now new f.ensures.2 in record {
      lanes = (other-rows a.costs.now a.halves.now a.rows.now rows p.lanes_2 (search rules), search rules);
      rest = (f.ensures.0, f.ensures.1);
      clean = q.1;
      phase = subst⁻¹ (λ m. PhaseStep a.inner a.r a.s a.list m a.n a.scratch.now a.costs.now a.home.now a.n new a.costs.now rows a.home.now) c.if-not-marked.true q.0;
    }

pub overflow_cast-high : goal.overflow_cast-high
overflow_cast-high c =
    let s = c in
    let z = in-range s.args.inner s.args.s s.requires.inner_bound.0 s.requires.inner_bound.2 0 _ (ap (λ (t : List (List ℕ)). get_or t s.args.s []) s.requires.shapes_value.0) in
    record { fits = omega (arith, z.1) }

pub overflow_sub-high : goal.overflow_sub-high
overflow_sub-high c =
    let s = c in
    let z = in-range s.args.inner s.args.s s.requires.inner_bound.0 s.requires.inner_bound.2 0 _ (ap (λ (t : List (List ℕ)). get_or t s.args.s []) s.requires.shapes_value.0) in
    omega (arith, z.0)

pub overflow_shl-high : goal.overflow_shl-high
overflow_shl-high c =
    let s = c in
    let z = in-range s.args.inner s.args.s s.requires.inner_bound.0 s.requires.inner_bound.2 0 _ (ap (λ (t : List (List ℕ)). get_or t s.args.s []) s.requires.shapes_value.0) in
    omega (arith, z.2)

pub marked_phase-requires : goal.marked_phase-requires
marked_phase-requires c =
    let s = c in
    let a = s.args in
    let p = s.requires in
    let h = p.lanes_2 in
    let t = c.totals-pair in
    let z = in-range a.inner a.s p.inner_bound.0 p.inner_bound.2 0 _ (ap (λ (t : List (List ℕ)). get_or t a.s []) p.shapes_value.0) in
    let d : ℕ = get_or (get_or a.shapes.now a.s []) 0 0 - a.s in record {
      at_bound = (omega (arith, p.inner_bound.1, p.inner_bound.2), p.inner_bound.3, p.inner_bound.4, p.inner_bound.5, p.inner_bound.6, omega (arith, paths-are d z.2, pow-le d z.2), p.inner_bound.7);
      by_index = totals-small a.inner a.r a.s a.n t.result a.scratch.now a.costs.now h.costs-within h.cost-room p.inner_bound.6 t.ensures.totals;
      lanes_2 = other-rows a.costs.now a.halves.now a.rows.now t.new.rows h (search rules);
    }

pub returns : goal.returns
returns c =
    let s = c in
    let a = s.args in
    let p = s.requires in
    let h = p.lanes_2 in
    let t = c.totals-pair in
    let rows = t.new.rows in
    let m = c.marked_phase in
    let e : get_or (get_or a.shapes.now a.s []) 0 0 ≡ shape_at a.inner a.s 0 = ap (λ (t : List (List ℕ)). get_or (get_or t a.s []) 0 0) p.shapes_value.0 in
    let z = in-range a.inner a.s p.inner_bound.0 p.inner_bound.2 0 _ (ap (λ (t : List (List ℕ)). get_or t a.s []) p.shapes_value.0) in
    let d : ℕ = get_or (get_or a.shapes.now a.s []) 0 0 - a.s in
    let narrow : shape_at a.inner a.s 0 - a.s ≤ 4 = omega (arith, e, z.2) in
    let paths : 1 * 2 ^ (get_or (get_or a.shapes.now a.s []) 0 0 - a.s) % 2 ^ 64 ≡ 2 ^ (shape_at a.inner a.s 0 - a.s) = paths-are d z.2 ∙ ap (λ n. 2 ^ (n - a.s)) e in
    let small = totals-small a.inner a.r a.s a.n t.result a.scratch.now a.costs.now h.costs-within h.cost-room p.inner_bound.6 t.ensures.totals in
    let home = m.new.home in
    let rows' = m.new.rows in
    let costs' = m.new.costs in
    let new = m.new.scratch in
    let clean = p.clean_2 in
    let q = marked_step a.inner a.r a.s a.n p.inner_bound.0 p.inner_bound.1 p.inner_bound.2 p.inner_bound.5 p.inner_bound.6 t.result a.scratch.now a.costs.now rows clean t.ensures.totals a.list p.inner_bound.3 p.inner_bound.4 a.home.now _ m.result new costs' rows' home narrow paths t.ensures.held small m.ensures.marked in record {
      lanes = (m.ensures.lanes, search rules);
      rest = m.ensures.rest;
      clean = q.1;
      phase = subst⁻¹ (λ b. PhaseStep a.inner a.r a.s a.list b a.n a.scratch.now a.costs.now a.home.now m.result new costs' rows' home) c.if-not-marked.false q.0;
    }
