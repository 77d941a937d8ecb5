-- One row more of a frame. Assumes nothing.
use mathlib.Core.Path.{◌≡◌, refl, sym, ap, ap₂, ◌∙◌, subst}
use mathlib.Core.Bool.{Bool}
use mathlib.Core.List.{List, [], ◌∷◌, ◌++◌}
use Prim.Native.Nat.{ℕ, zero, suc, ◌+◌, ◌*◌, ◌<◌}
use native.Mathlib.Nat.{add-zero}
use native.Mathlib.Numerals.{add-one}
use native.Mathlib.Decide.{dec_lt}
use native.Mathlib.Omega.{arith}
use lib.IntN.{ℤ}
use lib.ListN.{length, get_or, drop, length-drop}
use lib.Seq.{get_or-set_other}
use Rattle.base.specs.Bit.{bit, tabulate}
use Rattle.base.proofs.List.{length-tabulate}
use Rattle.bits.specs.Packed.{bits}
use Rattle.polar.specs.Code.{Code, Costs, channel, least}
use Rattle.polar.specs.Kernel.{code}
use Rattle.polar.specs.Stages.{rows, column}
use Rattle.kernel.specs.Kernels.{kernel}
use Rattle.kernel.specs.Rows.{row_sum, table}
use Rattle.grid.specs.Grid.{rows_bits}
use Rattle.grid.proofs.Grid.{rows-bits-at}
use Rattle.plan.specs.Pairs.{frame_code}
use Rattle.lane.specs.Lanes.{lane_bit, lane_costs}
use Rattle.lane_phases.specs.Rows.{column as lane_column, KeptLane}
use Rattle.lane_phases.proofs.Phases.{held-kept-lane}
use Rattle.lane_totals.specs.Totals.{Again}
use Rattle.pair_run.proofs.Prefixes.{column-next, planes-next}
use Rattle.pair_run.proofs.Premises.{word_of}
use Rattle.pair_run.proofs.Layered.{pair_is, row-least}
use Rattle.list.specs.Paths.{phase, paths}
use Rattle.list.proofs.Sort.{all-at}
use Rattle.list.proofs.Paths.{all-long, paths-long}
use Rattle.path.specs.Path.{HasSymbols, path_at}
use Rattle.list_step.specs.Step.{Listed, Paid}
use Rattle.list_step.specs.Marked.{Clean}
use Rattle.list_run.specs.Run.{advance, Prices, RowList, RowDone, frame_paths, AfterRows, RowCosts, NextPlanes, ListRun}
use Rattle.list_run.proofs.Phases.{two-parts, row-symbols, listed-clean}

-- Marks that agree give the same paths.
advance-cong : (penalty : List Bool → ℕ) (L : ℕ) (mark mark' : ℕ → Bool) (s : ℕ) (ps : List (List Bool)) → ((i : ℕ) → i < s → mark i ≡ mark' i)
    → advance penalty L mark s ps ≡ advance penalty L mark' s ps
unfolding advance
advance-cong penalty L mark mark' zero ps h = refl
advance-cong penalty L mark mark' (suc s) ps h =
    ap₂ (λ b (l : List (List Bool)). phase penalty L b l) (h s (omega arith)) (advance-cong penalty L mark mark' s ps (λ i l. h i (omega arith)))

-- Paths after more phases.
paths-advance : (C : Code) (m : Costs) (mark : ℕ → Bool) (L n s : ℕ) → paths C m mark L (n + s) ≡ advance (least C m) L (λ i. mark (n + i)) s (paths C m mark L n)
unfolding advance paths
paths-advance C m mark L n zero = ap (paths C m mark L) (add-zero n)
paths-advance C m mark L n (suc s) =
    let e : n + suc s ≡ suc (n + s) = omega arith in
    ap (paths C m mark L) e ∙ ap (phase (least C m) L (mark (n + s))) (paths-advance C m mark L n s)

module _ (a b L : ℕ) (ys : List ℤ) (marks : List ℕ) (costs : List (List (List ℕ))) (scratch₀ : List ℕ) (la : a < 3)
    (agree : (j t : ℕ) (c : Bool) → j < 16 → t < 16 → lane_costs costs j t c ≡ channel ys (16 * j + t) c)
    (r n : ℕ) (planes : List (List ℕ)) (held₀ : List (List (List (List ℕ)))) (scratch : List ℕ)
    (g : AfterRows a b L ys marks costs scratch₀ r n planes held₀ scratch) (lr : r < 16) where
  abbrev C : Code
  C = frame_code a b

  abbrev m : Costs
  m = channel ys

  abbrev ps : List (List Bool)
  ps = frame_paths a b L ys marks (16 * r)

  long-at : (i : ℕ) → i < length ps → length (get_or ps i []) ≡ 16 * r
  long-at i l = paths-long C m (bit (rows_bits 16 marks)) L (16 * r) i l

  turned : (n : ℕ) → 16 * n ≡ n * 16
  turned n = omega arith

  col-long : (i j : ℕ) → length (lane_column (get_or planes i []) r j) ≡ r
  col-long i j = length-tabulate r (λ s. lane_bit (get_or (get_or planes i []) s 0) j)

  module _ (held : List (List (List (List ℕ)))) (lanes : List (List (List ℕ))) (h : RowCosts b costs r n planes held lanes) where
    -- The inner kernel's least totals in a lane are the penalties of the lane's path with symbols of the row.
    pub prices : Prices a (least C m) lanes ps
    prices i p l lp =
        let u = get_or ps i [] in
        let ln : i < n = omega (arith, g.count-is) in
        let lu : length u ≡ r * 16 = long-at i l ∙ turned r in
        sym (row-least a b ys costs agree r lr u lu (lane_costs lanes i)
        (λ j lj c. h.least-so i j c ln lj ∙ pair_is a b ys costs agree r lr u lu j lj (lane_column (get_or planes i []) r j) (omega (arith, col-long i j)) (g.columns i j ln lj) c)
        p lp)

    module _ (count : ℕ) (scratch' home : List ℕ) (d : RowDone a r L (λ s. bit (bits 16 (get_or marks r 0)) s) n scratch lanes count scratch' home) where
      more : 16 * (r + 1) ≡ 16 * r + 16
      more = omega arith

      abbrev qs : List (List Bool)
      qs = frame_paths a b L ys marks (16 * (r + 1))

      qs-are : advance (least C m) L (λ s. bit (bits 16 (get_or marks r 0)) s) 16 ps ≡ qs
      qs-are =
          advance-cong (least C m) L _ (λ s. bit (rows_bits 16 marks) (16 * r + s)) 16 ps (λ s l. sym (rows-bits-at 16 marks r s lr l))
          ∙ sym (paths-advance C m (bit (rows_bits 16 marks)) L (16 * r) 16)
          ∙ ap (frame_paths a b L ys marks) (sym more)

      done : RowList (least C m) r 16 ps qs count scratch' home
      done = subst (λ (l : List (List Bool)). RowList (least C m) r 16 ps l count scratch' home) qs-are (d.list-so ps (least C m) g.count-is (all-long C m (bit (rows_bits 16 marks)) L (16 * r)) g.listed prices)

      module _ (planes' : List (List ℕ)) (held' : List (List (List (List ℕ)))) (next : NextPlanes (get_or table a []) r count scratch' home planes planes') where
        -- A path's planes with the word of its row are its columns.
        columns-next : (i j : ℕ) → i < count → j < 16 → lane_column (get_or planes' i []) (r + 1) j ≡ column (code (kernel a)) (rows 16 (r + 1) (get_or qs i [])) j
        columns-next i j l lj =
            let q = get_or qs i [] in
            let f = get_or home i 0 in
            let lf : f < n = d.home-in i l in
            let lq : i < length qs = omega (arith, done.count-is) in
            let u : List Bool = get_or ps f [] in
            let p : List Bool = drop (16 * r) q in
            let lu : length u ≡ r * 16 = long-at f (omega (arith, g.count-is)) ∙ turned r in
            let long-q : length q ≡ 16 * r + 16 = all-at (λ p. length p ≡ 16 * r + 16) qs i [] lq done.long in
            let lp : length p ≡ 16 = length-drop (16 * r) q ∙ omega arith in
            let whole : q ≡ u ++ p = sym (two-parts (16 * r) q) ∙ ap (λ (x : List Bool). x ++ p) (done.begun i l) in
            let x = (next i l).0 in
            let symbols : bits 16 x ≡ p = (next i l).1 ∙ row-symbols scratch' r 16 i q (done.listed i lq) long-q in
            let old = get_or planes f [] in
            ap (λ (t : List ℕ). lane_column t (r + 1) j) (next i l).2
            ∙ planes-next old r (row_sum (get_or table a []) x) j (omega (arith, g.plane-room f (omega (arith, g.few))))
            ∙ ap₂ (λ (t : List Bool) c. t ++ (c ∷ [])) (g.columns f j lf lj) (word_of a x j la lj ∙ ap (λ (v : List Bool). (code (kernel a)).word v j) symbols)
            ∙ sym (column-next (code (kernel a)) r u p j lu lp)
            ∙ ap₂ (λ k (v : List Bool). column (code (kernel a)) (rows 16 k v) j) (sym (add-one r)) (sym whole)

        -- One row more.
        pub row_next : ((i : ℕ) → i < 8 → length (get_or planes' i []) ≡ 16) → length held' ≡ 8 → ((i : ℕ) → i < 8 → length (get_or held' i []) ≡ 16)
            → (r < 15 → Again b (r + 1) → (i : ℕ) → i < count → get_or held' i [] ≡ get_or held (get_or home i 0) [])
            → (r ≡ 15 → Again b (r + 1) → ⊥)
            → AfterRows a b L ys marks costs scratch₀ (r + 1) count planes' held' scratch'
        row_next plane-room held-count held-room moved last = record {
          within = omega arith;
          some = d.some;
          few = d.few;
          room = d.room ∙ g.room;
          rest = d.rest ∙ g.rest;
          plane-room = plane-room;
          held-count = held-count;
          held-room = held-room;
          count-is = done.count-is;
          listed = done.listed;
          columns = columns-next;
          kept = λ _ again i j l lj.
              let f = get_or home i 0 in
              let late : r < 15 = not_last again in
              let lf : f < n = d.home-in i l in
              subst (λ (t : List (List (List ℕ))). KeptLane b costs (get_or planes' i []) (r + 1) t j) (sym (moved late again i l))
              (held-kept-lane b costs (get_or planes f []) (get_or planes' i []) r (get_or held f [])
              (λ s ls. ap (λ (t : List ℕ). get_or t s 0) (next i l).2 ∙ get_or-set_other (get_or planes f []) r s (row_sum (get_or table a []) (next i l).0) 0 (λ e. omega arith))
              j (h.held-so f j lf lj));
          paid = λ _. done.paid refl;
        }
          where
            not_last : Again b (r + 1) → r < 15
            not_last again = go (decide r)
              where
                decide : (r : ℕ) → Dec (r < 15)
                decide r = dec_lt r 15

                go : Dec (r < 15) → r < 15
                go (yes l) = l
                go (no l) = absurd (last (omega arith) again)

-- After the last phase nothing is asked for.
pub no_more : (b : ℕ) → b < 3 → Again b 16 → ⊥
no_more zero l f = f refl
no_more (suc zero) l f = f refl
no_more (suc (suc zero)) l f = f refl
no_more (suc (suc (suc b))) l f = absurd (omega arith)

-- Before the first row there is one path, with no symbol.
pub no_row : (a b L : ℕ) (ys : List ℤ) (marks : List ℕ) (costs : List (List (List ℕ))) (scratch₀ : List ℕ) (planes : List (List ℕ)) (held : List (List (List (List ℕ)))) (scratch : List ℕ)
    → length scratch ≡ length scratch₀ → drop 4096 scratch ≡ drop 4096 scratch₀ → ((i : ℕ) → i < 8 → length (get_or planes i []) ≡ 16)
    → length held ≡ 8 → ((i : ℕ) → i < 8 → length (get_or held i []) ≡ 16) → HasSymbols [] (path_at 0 scratch)
    → AfterRows a b L ys marks costs scratch₀ 0 1 planes held scratch
unfolding paths rows tabulate
no_row a b L ys marks costs scratch₀ planes held scratch room rest plane-room held-count held-room first = record {
  within = omega arith;
  some = omega arith;
  few = omega arith;
  room = room;
  rest = rest;
  plane-room = plane-room;
  held-count = held-count;
  held-room = held-room;
  count-is = refl;
  listed = λ i l. one i l;
  columns = λ i j l lj. refl;
  kept = λ l. absurd (omega arith);
  paid = λ e. absurd (omega arith);
}
  where
    one : (i : ℕ) → i < 1 → HasSymbols (get_or ([] ∷ []) i []) (path_at i scratch)
    one zero l = first
    one (suc i) l = absurd (omega arith)

-- After the last row.
pub run-done : (a b L : ℕ) (ys : List ℤ) (marks : List ℕ) (costs : List (List (List ℕ))) (scratch₀ : List ℕ)
    (r n : ℕ) (planes : List (List ℕ)) (held : List (List (List (List ℕ)))) (scratch : List ℕ) → r ≡ 16
    → AfterRows a b L ys marks costs scratch₀ r n planes held scratch → ListRun a b L ys marks n scratch
run-done a b L ys marks costs scratch₀ r n planes held scratch e g =
    let x : 16 * r ≡ 256 = omega arith in
    record {
      few = g.few;
      count-is = ap (λ k. length (frame_paths a b L ys marks k)) (sym x) ∙ g.count-is;
      listed = subst (λ k. Listed (frame_paths a b L ys marks k) scratch) x g.listed;
      paid = subst (λ k. Paid (least (frame_code a b) (channel ys)) (frame_paths a b L ys marks k) scratch) x (g.paid e);
    }

-- The records of a frame's paths have no symbol from the next row on.
pub rows-clean : (a b L : ℕ) (ys : List ℤ) (marks : List ℕ) (costs : List (List (List ℕ))) (scratch₀ : List ℕ)
    (r n : ℕ) (planes : List (List ℕ)) (held : List (List (List (List ℕ)))) (scratch : List ℕ)
    → AfterRows a b L ys marks costs scratch₀ r n planes held scratch → Clean (16 * r) n scratch
rows-clean a b L ys marks costs scratch₀ r n planes held scratch g =
    let ps = frame_paths a b L ys marks (16 * r) in
    subst (λ k. Clean (16 * r) k scratch) g.count-is (listed-clean (16 * r) ps scratch (all-long (frame_code a b) (channel ys) (bit (rows_bits 16 marks)) L (16 * r)) g.listed)
