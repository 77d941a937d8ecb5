-- `list_step::RowPhase::next_totals` meets its contract: lane 8 + i has the symbols of path i and then 1. Assumes nothing.
use mathlib.Core.Path.{◌≡◌, ap, ◌∙◌, subst}
use mathlib.Core.Bool.{Bool}
use mathlib.Core.List.{List, [], ◌∷◌, ◌++◌}
use Prim.Native.Nat.{ℕ, ◌+◌, ◌*◌, ◌<◌}
use native.Mathlib.Omega.{arith}
use lib.ListN.{get_or, drop}
use Rattle.bits.specs.Packed.{unpack}
use Rattle.polar.specs.Code.{least}
use Rattle.kernel.specs.Kernels.{kernel_code}
use Rattle.windows.specs.Paths.{Held}
use Rattle.lane.specs.Lanes.{lane_costs}
use Rattle.lane_phases.specs.Rows.{column, score_rows, HeldLane}
use Rattle.lane_totals.specs.Totals.{LeastLane}
use Rattle.path.specs.Path.{path_at}
use Rattle.list_step.specs.Step.{row_symbols}
use Rattle.list_step.specs.Two.{lane_of}
use Rattle.list_step.proofs.Two.{lane_in, twin-column}
use borrow.Author.Rules.{rules}
use Rattle.list_step.proofs.RowPhase.next_totals.Goals as goal

pub totals-requires : goal.totals-requires
totals-requires c =
    let o = c.args.self.now in
    let h = c.requires.lanes in
    let k : o.kernel < 3 = search rules in
    record {
      kernel_bound = (k, omega (arith, c.requires.next_bound.0));
      tables_of = (search rules, search rules);
      lanes_within = (h.costs-within, h.halves-within, h.halves_are);
    }

pub returns : goal.returns
returns c =
    let a = c.args in
    let o = a.self.now in
    let p = c.requires.next_bound in
    let planes = c.twin_planes-planes in
    let single = c.planes_of-single in
    let words = c.row_words-words in
    let costs = a.costs.now in
    let rows = c.totals.new.rows in
    let col : (i : ℕ) (b : Bool) → i < a.n → column planes.result (o.number + 1) (lane_of i b) ≡ row_symbols a.scratch.now o.row o.number i ++ (b ∷ []) =
    λ i b l. twin-column single.result planes.result (get_or words.result i 0) i o.number (drop (16 * o.row) (unpack (path_at i a.scratch.now).symbols)) b (omega (arith, l, p.2)) (omega (arith, p.0)) (words.ensures i l)
    (λ t lt. single.ensures t i lt (omega (arith, l, p.2))) planes.ensures.others planes.ensures.own in
    let lanes : (i : ℕ) (b : Bool) → i < a.n → HeldLane o.kernel costs planes.result (o.number + 1) rows (lane_of i b) × LeastLane o.kernel costs planes.result (o.number + 1) c.totals.result (lane_of i b) =
    λ i b l. c.totals.ensures.lanes (lane_of i b) (lane_in i b (omega (arith, l, p.2))) (λ _ again. absurd (again p.1)) in record {
      held = λ i b l. subst (λ (us : List Bool). Held o.kernel (lane_costs costs (lane_of i b)) us (score_rows rows (lane_of i b))) (col i b l) (lanes i b l).0;
      totals = λ i b d l. (lanes i b l).1 d ∙ ap (λ (us : List Bool). least (kernel_code o.kernel) (lane_costs costs (lane_of i b)) (us ++ (d ∷ []))) (col i b l);
    }
