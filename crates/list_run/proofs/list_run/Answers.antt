-- `list_run::list_run` meets its contract: row after row. Assumes nothing.
use mathlib.Core.Path.{◌≡◌, refl, ap, ◌∙◌, subst}
use mathlib.Core.Bool.{Bool}
use mathlib.Core.List.{List, [], ◌∷◌}
use Prim.Native.Nat.{ℕ, zero, suc, ◌+◌, ◌-◌, ◌*◌, ◌≤◌, ◌<◌}
use native.Mathlib.Omega.{arith}
use lib.IntN.{ℤ}
use lib.ListN.{get_or, replicate}
use Rattle.polar.specs.Code.{channel}
use Rattle.lane_totals.specs.Totals.{Again}
use Rattle.pair_run.proofs.Premises.{lanes-wider}
use Rattle.list_run.specs.Run.{NextPlanes}
use Rattle.list_run.proofs.Outer.{rooms}
use Rattle.list_run.proofs.Rows.{no_row, row_next, run-done, no_more, rows-clean}
use borrow.Author.Rules.{rules}
use Rattle.list_run.proofs.list_run.Goals as goal

-- Each path is its own home at first.
own : (i : ℕ) → i < 8 → get_or (0 ∷ 1 ∷ 2 ∷ 3 ∷ 4 ∷ 5 ∷ 6 ∷ 7 ∷ []) i 0 ≡ i
own i l = go (8 - suc i) i (omega arith)
  where
    go : (k i : ℕ) → k + suc i ≡ 8 → get_or (0 ∷ 1 ∷ 2 ∷ 3 ∷ 4 ∷ 5 ∷ 6 ∷ 7 ∷ []) i 0 ≡ i
    go k zero e = refl
    go k (suc zero) e = refl
    go k (suc (suc zero)) e = refl
    go k (suc (suc (suc zero))) e = refl
    go k (suc (suc (suc (suc zero)))) e = refl
    go k (suc (suc (suc (suc (suc zero))))) e = refl
    go k (suc (suc (suc (suc (suc (suc zero)))))) e = refl
    go k (suc (suc (suc (suc (suc (suc (suc zero))))))) e = refl
    go k (suc (suc (suc (suc (suc (suc (suc (suc i)))))))) e = absurd (omega arith)

lt-le : {a b n : ℕ} → a < b → b ≤ n → a < n
lt-le l m = omega arith

-- The values that a run reads are the first 256.
first-values : (ys : List ℤ) (j t : ℕ) (d : Bool) → channel ys (256 * 0 + (16 * j + t)) d ≡ channel ys (16 * j + t) d
first-values ys j t d = let e : 256 * 0 + (16 * j + t) ≡ 16 * j + t = omega arith in ap (λ i. channel ys i d) e

pub free_eight-requires : goal.free_eight-requires
free_eight-requires c = lanes-wider 127 16383 c.outer_costs-costs.result (omega arith) c.outer_costs-costs.ensures.1

pub invariant_of-kernels : goal.invariant_of-kernels
invariant_of-kernels c =
    let o = c.outer_costs-costs.ensures in
    let h = c.free_eight in
    record {
      tables_of = (c.requires.inner_bound.1, (c.shapes_of.ensures, c.tables_of.ensures));
      pays = (search rules, o.1, lanes-wider 254 4095 h.result (omega arith) (h.ensures.within 127 o.1), h.ensures.nodes);
    }

pub loop-r-init : goal.loop-r-init
loop-r-init c =
    no_row _ _ _ _ _ _ _ _ _ _ refl refl (rooms (replicate 16 0) refl 8) refl (rooms (replicate 16 (replicate 2 (replicate 16 0))) refl 8) c.first_path.ensures.path

pub row_costs-lanes-requires : goal.row_costs-lanes-requires
row_costs-lanes-requires c =
    let k = c.loop-r in
    let z = c in
    let g = k.invariant in
    record {
      r_bound = (c.loop-r-test.true, g.few);
      held_len = g.held-room;
      kept_lane = g.kept;
    }

pub row_phases-n-requires : goal.row_phases-n-requires
row_phases-n-requires c =
    let k = c.loop-r in
    let z = c in
    let g = k.invariant in
    let a = z.args in
    let h = c.row_costs-lanes.ensures in record {
      n_bound = (g.some, g.few, omega (arith, g.room, c.first_path.ensures.rest.0, z.requires.inner_bound.4));
      lanes_within = (h.lanes-within, own, rows-clean a.inner a.outer a.list a.values.now a.marks _ _ k.r k.n k.planes k.held _ g, h.twins);
    }

pub next_planes-next-requires : goal.next_planes-next-requires
next_planes-next-requires c =
    let k = c.loop-r in
    let z = c in
    let g = k.invariant in
    let d = c.row_phases-n.ensures in
    record {
      r_bound = (c.loop-r-test.true, d.few, omega (arith, d.room, g.room, c.first_path.ensures.rest.0, z.requires.inner_bound.4), λ i l. lt-le (d.home-in i l) g.few);
      by_index = g.plane-room;
    }

pub next_held-requires : goal.next_held-requires
next_held-requires c =
    let k = c.loop-r in
    let z = c in
    let g = k.invariant in
    let d = c.row_phases-n.ensures in
    let h = c.row_costs-lanes.ensures in
    record {
      r_bound = (c.loop-r-test.true, d.few, (λ i l. lt-le (d.home-in i l) g.few), h.held-room);
    }

pub loop-r-preserved : goal.loop-r-preserved
loop-r-preserved c =
    let k = c.loop-r in
    let z = c in
    let a = z.args in
    let o = c.outer_costs-costs.ensures in
    let g = k.invariant in
    let lr = c.loop-r-test.true in
    let h = c.row_costs-lanes in
    let d = c.row_phases-n in
    let p = c.next_planes-next in
    let e = c.next_held.ensures in
    let scratch = d.new.scratch in
    let home = d.new.home in
    row_next a.inner a.outer a.list a.values.now a.marks _ _ z.requires.inner_bound.0 (λ j t e lj lt. o.0 j t e lj lt ∙ first-values a.values.now j t e) k.r k.n k.planes k.held _ g lr
    h.new.held h.result h.ensures d.result scratch home d.ensures
    p.result _ (subst (λ (x : List ℕ). NextPlanes x k.r d.result scratch home k.planes p.result) c.kernel_rows-matrix.ensures p.ensures.next)
    p.ensures.room (search rules) e.room e.moved (λ q f. no_more a.outer z.requires.inner_bound.1 (subst (λ n. Again a.outer n) (let x : k.r + 1 ≡ 16 = omega arith in x) f))

pub returns : goal.returns
returns c =
    let k = c.loop-r in
    let a = c.args in
    let g = k.invariant in
    let f = c.first_path.ensures in
    record {
      rest = (g.room ∙ f.rest.0, g.rest ∙ f.rest.1);
      list = run-done a.inner a.outer a.list a.values.now a.marks _ _ k.r k.n k.planes k.held _ (search rules) g;
    }
