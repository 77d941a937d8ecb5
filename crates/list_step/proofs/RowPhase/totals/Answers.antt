-- `list_step::RowPhase::totals` meets its contract: the planes have the symbols of each path in its lane. Assumes nothing.
use mathlib.Core.Path.{◌≡◌, ap, ◌∙◌, subst, subst⁻¹}
use mathlib.Core.Bool.{Bool}
use mathlib.Core.List.{List, [], ◌∷◌, ◌++◌}
use Prim.Native.Nat.{ℕ, ◌*◌, ◌≤◌, ◌<◌}
use native.Mathlib.Omega.{arith}
use lib.ListN.{get_or, drop}
use Rattle.bits.specs.Packed.{unpack}
use Rattle.polar.specs.Code.{least}
use Rattle.kernel.specs.Kernels.{kernel_code}
use Rattle.windows.specs.Tables.{shape_at}
use Rattle.windows.specs.Paths.{Held}
use Rattle.lane.specs.Lanes.{lane_costs}
use Rattle.lane_phases.specs.Rows.{column, score_rows, HeldLane, KeptLane}
use Rattle.lane_totals.specs.Totals.{Again, LeastLane}
use Rattle.path.specs.Path.{path_at}
use Rattle.list_step.specs.Step.{row_symbols}
use Rattle.list_step.proofs.Rows.{column-is, kept-lane}
use borrow.Author.Rules.{rules}
use Rattle.list_step.proofs.RowPhase.totals.Goals as goal
use Rattle.list_step.proofs.RowPhase.totals.Goals.{then-stepped, else-stepped}

pub totals_from-requires : goal.totals_from-requires
totals_from-requires c =
    let o = c.args.self.now in
    let j = c.if-stepped in
    let l : j.first ≤ o.number = elim j.branch [ then-stepped w ↦ omega (arith, w.first-is) | else-stepped w ↦ omega (arith, w.first-is, w.opening-first.ensures.0) ] in
    let h = c.requires.lanes in
    record {
      kernel_bound = (search rules, search rules, l);
      tables_of = (search rules, search rules);
      lanes_within = (h.costs-within, h.halves-within, h.halves_are);
    }

pub returns : goal.returns
returns c =
    let a = c.args in
    let o = a.self.now in
    let p = c.requires in
    let j = c.if-stepped in
    let planes = c.planes_of-planes in
    let words = c.row_words-words in
    let costs = a.costs.now in
    let rows = c.totals_from.new.rows in
    let ls : o.number < 16 = search rules in
    let col : (i : ℕ) → i < a.n → column planes.result o.number i ≡ row_symbols a.scratch.now o.row o.number i =
    λ i l. column-is planes.result (get_or words.result i 0) i o.number (drop (16 * o.row) (unpack (path_at i a.scratch.now).symbols)) (omega arith) (words.ensures i l)
    (λ t lt. planes.ensures t i lt (omega arith)) in
    let before : (i : ℕ) → i < a.n → 0 < j.first → Again o.kernel j.first → KeptLane o.kernel costs planes.result j.first a.rows.now i =
    λ i l. elim j.branch [
      | then-stepped w ↦ λ _ _. subst⁻¹ (λ f. KeptLane o.kernel costs planes.result f a.rows.now i) w.first-is
          (kept-lane o.kernel costs planes.result a.rows.now i o.number (row_symbols a.scratch.now o.row o.number i) (col i l) (p.s_nonzero w.if-stepped.true).0 ((p.s_nonzero w.if-stepped.true).1 i l))
      | else-stepped w ↦ λ _ again. absurd (again (ap (λ f. shape_at o.kernel f 1) w.first-is ∙ w.opening-first.ensures.1))
    ] in
    let lanes : (i : ℕ) → i < a.n → HeldLane o.kernel costs planes.result o.number rows i × LeastLane o.kernel costs planes.result o.number c.totals_from.result i =
    λ i l. c.totals_from.ensures.lanes i (omega arith) (before i l) in record {
      held = λ i l. subst (λ (us : List Bool). Held o.kernel (lane_costs costs i) us (score_rows rows i)) (col i l) (lanes i l).0;
      totals = λ i b l. (lanes i l).1 b ∙ ap (λ (us : List Bool). least (kernel_code o.kernel) (lane_costs costs i) (us ++ (b ∷ []))) (col i l);
    }
