-- The run of two layers, row after row: what holds after r of them. Assumes nothing.
use mathlib.Core.Path.{◌≡◌, refl, sym, ap, ap₂, ◌∙◌, subst}
use mathlib.Core.Bool.{Bool}
use mathlib.Core.List.{List, [], ◌++◌}
use Prim.Native.Nat.{ℕ, suc, ◌+◌, ◌*◌, ◌≤◌, ◌<◌}
use native.Mathlib.Numerals.{add-one}
use native.Mathlib.Omega.{arith}
use lib.IntN.{ℤ, pos}
use lib.ListN.{length, get_or, take, set, length-set}
use lib.Seq.{paste, paste-zero, length-take-le, get_or-set_other}
use Rattle.base.specs.Bit.{bit, tabulate}
use Rattle.base.proofs.List.{length-tabulate, tabulate-cong}
use Rattle.bits.specs.Packed.{bits}
use Rattle.bits.proofs.Packed.{length-bits}
use Rattle.polar.specs.Code.{Code, pay, channel, score}
use Rattle.polar.specs.Follow.{scores}
use Rattle.polar.specs.Kernel.{code}
use Rattle.polar.specs.Stages.{rows, column, staged, block}
use Rattle.polar.proofs.Minima.{quot, rest}
use Rattle.polar.proofs.Follow.{length-scores}
use Rattle.polar.proofs.Matrix.{kernel-onto}
use Rattle.polar.proofs.Frame.{frame-staged}
use Rattle.kernel.specs.Kernels.{kernel, kernel_code}
use Rattle.kernel.proofs.Solved.{invertible}
use Rattle.run.specs.Run.{symbol_by, SymbolsBy, KernelRun}
use Rattle.run.proofs.Phases.{score-cong}
use Rattle.layer_turns.specs.Turned.{Ran, Turned}
use Rattle.layer_turns.proofs.Turning.{turned_none, turned-next}
use Rattle.layer_turns.proofs.Pasted.{paste_more}
use Rattle.lane.specs.Lanes.{lane_bit, lane_costs}
use Rattle.lane_phases.specs.Rows.{column as lane_column, HeldLanes, KeptLanes}
use Rattle.lane_phases.proofs.Phases.{held_kept}
use Rattle.pair_run.specs.Run.{front, held_costs, PairRun}
use Rattle.pair_run.proofs.Prefixes.{length_front, front-next, planes-next}
use Rattle.pair_run.proofs.Layered.{code-score}

-- A run of a kernel by its relations is one of its matrix.
pub kernel-ran : (a : ℕ) (ys : List ℤ) (fr gi x : ℕ) (sc : List ℤ) (free given : ℕ → Bool)
    → ((s : ℕ) → s < 16 → bit (bits 16 fr) s ≡ free s) → ((s : ℕ) → s < 16 → bit (bits 16 gi) s ≡ given s)
    → KernelRun a ys fr gi x sc → Ran (code (kernel a)) (channel ys) free given (bits 16 x) sc
unfolding scores
kernel-ran a ys fr gi x sc free given free-is given_is row =
    let l16 = length-bits 16 x in
    let same : (i : ℕ) → i < 16 → score (kernel_code a) (channel ys) (take i (bits 16 x)) ≡ score (code (kernel a)) (channel ys) (take i (bits 16 x)) =
    λ i l. sym (code-score a (channel ys) (take i (bits 16 x)) (omega (arith, length-take-le i (bits 16 x) (omega (arith, l16))))) in
    record {
      long = l16;
      symbols-by = λ i l.
          let li : i < 16 = omega (arith, l16) in
          row.symbols-by i l ∙ ap₂ (λ f g. symbol_by f g (score (kernel_code a) (channel ys) (take i (bits 16 x)))) (free-is i li) (given_is i li)
          ∙ ap (symbol_by (free i) (given i)) (same i li);
      scores-are = row.scores-are ∙ tabulate-cong (length (bits 16 x)) (λ i l. same i (omega (arith, l16)));
    }

module _ (a b : ℕ) (costs : List (List (List ℕ))) (free given : ℕ → Bool) (at : ℕ) (old : List ℤ) where
  abbrev A : Code
  A = code (kernel a)

  abbrev B : Code
  B = code (kernel b)

  -- After r rows.
  pub record AfterRows (r : ℕ) (symbols planes : List ℕ) (rows3 : List (List (List ℕ))) (new_scores : List ℤ) : Type 0 where
    pub within : r ≤ 16
    pub room : length symbols ≡ 16
    pub plane-room : length planes ≡ 16
    pub row_room : length rows3 ≡ 16
    pub scored : List ℤ
    pub turned : Turned A B (held_costs costs) free given r (front r symbols) scored (λ j. lane_column planes r j)
    pub scores-so : new_scores ≡ paste old at scored (r * 16)
    pub kept-so : 0 < r → KeptLanes b costs planes r rows3

  -- The score of outer kernel j over its places.
  pub outer-is : (j : ℕ) (col : List Bool) → length col < 16 → score (kernel_code b) (lane_costs costs j) col ≡ score B (block 16 (held_costs costs) j) col
  outer-is j col l =
      score-cong (kernel_code b) (λ t lt c. ap₂ (λ q d. lane_costs costs q d c) (sym (quot 16 j t lt)) (sym (rest 16 j t lt))) col
      ∙ sym (code-score b (block 16 (held_costs costs) j) col l)

  module _ (fits : at + 256 ≤ length old)
      (r : ℕ) (symbols planes : List ℕ) (rows₀ : List (List (List ℕ))) (new_scores : List ℤ) (g : AfterRows r symbols planes rows₀ new_scores) (lr : r < 16)
      (found : List ℤ) (is : (j : ℕ) → j < 16 → get_or found j (pos 0) ≡ score (kernel_code b) (lane_costs costs j) (lane_column planes r j))
      (fr gi x : ℕ) (sc : List ℤ)
      (free-is : (s : ℕ) → s < 16 → bit (bits 16 fr) s ≡ free (r * 16 + s)) (given_is : (s : ℕ) → s < 16 → bit (bits 16 gi) s ≡ given (r * 16 + s))
      (row : KernelRun a found fr gi x sc)
      (w : ℕ) (word-is : (j : ℕ) → j < 16 → lane_bit w j ≡ A.word (bits 16 x) j)
      (rows3 : List (List (List ℕ))) (long3 : length rows3 ≡ 16) (held : HeldLanes b costs planes r rows3) where
    ran : Ran A (channel found) (λ i. free (r * 16 + i)) (λ i. given (r * 16 + i)) (bits 16 x) sc
    ran = kernel-ran a found fr gi x sc _ _ free-is given_is row

    soft-is : (j : ℕ) → j < 16 → (c : Bool) → channel found j c ≡ pay (score B (block 16 (held_costs costs) j) (lane_column planes r j)) c
    soft-is j l c = ap (λ y. pay y c) (is j l ∙ outer-is j (lane_column planes r j) (omega (arith, length-tabulate r (λ s. lane_bit (get_or planes s 0) j))))

    next : Turned A B (held_costs costs) free given (suc r) (front r symbols ++ bits 16 x) (g.scored ++ sc) (λ j. lane_column (set planes r w) (r + 1) j)
    next =
        turned-next A B (kernel-onto (kernel a) (invertible a)) (held_costs costs) free given r (front r symbols) g.scored (λ j. lane_column planes r j) g.turned lr
        (channel found) soft-is (bits 16 x) sc ran (λ j. lane_column (set planes r w) (r + 1) j) (lane_bit w)
        (λ j l. planes-next planes r w j (omega (arith, g.plane-room))) word-is

    lsc : length sc ≡ 16
    lsc = ap length row.scores-are ∙ length-scores (kernel_code a) (channel found) (bits 16 x) ∙ length-bits 16 x

    lso : length g.scored ≡ r * 16
    lso = ap length g.turned.scores-so ∙ length-scores (staged A B) (held_costs costs) (front r symbols) ∙ length_front r symbols

    pub row_next : (new_scores' : List ℤ) → new_scores' ≡ paste new_scores (at + r * 16) sc 16 → AfterRows (r + 1) (set symbols r x) (set planes r w) rows3 new_scores'
    row_next new_scores' e = record {
      within = omega arith;
      room = length-set symbols r x ∙ g.room;
      plane-room = length-set planes r w ∙ g.plane-room;
      row_room = long3;
      scored = g.scored ++ sc;
      turned =
          subst (λ n. Turned A B (held_costs costs) free given n (front n (set symbols r x)) (g.scored ++ sc) (λ j. lane_column (set planes r w) (r + 1) j)) (sym (add-one r))
          (subst (λ u. Turned A B (held_costs costs) free given (suc r) u (g.scored ++ sc) (λ j. lane_column (set planes r w) (r + 1) j))
          (sym (front-next r symbols x (omega (arith, g.room)))) next);
      scores-so =
          e ∙ ap (λ (l : List ℤ). paste l (at + r * 16) sc 16) g.scores-so
          ∙ paste_more old g.scored sc at (r * 16) 16 (omega arith) lso lsc
          ∙ ap (paste old at (g.scored ++ sc)) (let k : r * 16 + 16 ≡ (r + 1) * 16 = omega arith in k);
      kept-so = λ _. held_kept b costs planes (set planes r w) r rows3 (λ i li. get_or-set_other planes r i w 0 (λ e. omega arith)) held;
    }

  -- Before the first row.
  pub no_row : (symbols planes : List ℕ) (rows3 : List (List (List ℕ))) → length symbols ≡ 16 → length planes ≡ 16 → length rows3 ≡ 16 → AfterRows 0 symbols planes rows3 old
  unfolding front tabulate
  no_row symbols planes rows3 ls lp lr = record {
    within = omega arith;
    room = ls;
    plane-room = lp;
    row_room = lr;
    scored = [];
    turned = turned_none A B (held_costs costs) free given (λ j. lane_column planes 0 j) (λ j. refl);
    scores-so = paste-zero old at [];
    kept-so = λ l. absurd (omega arith);
  }

-- After the last row.
pub all-rows : (a b : ℕ) (costs : List (List (List ℕ))) (free given : List ℕ) (at : ℕ) (old : List ℤ) (r : ℕ) (symbols planes : List ℕ) (rows3 : List (List (List ℕ))) (new_scores : List ℤ)
    → r ≡ 16 → AfterRows a b costs (bit (front 16 free)) (bit (front 16 given)) at old r symbols planes rows3 new_scores
    → PairRun a b costs free given symbols planes at new_scores old
all-rows a b costs free given at old r symbols planes rows3 new_scores e g =
    let C = staged (code (kernel a)) (code (kernel b)) in
    let f = sym (frame-staged (kernel a) (kernel b)) in
    record {
      symbols-by = subst (λ D. SymbolsBy D (held_costs costs) (bit (front 16 free)) (bit (front 16 given)) (front 16 symbols)) f
          (subst (λ n. SymbolsBy C (held_costs costs) (bit (front 16 free)) (bit (front 16 given)) (front n symbols)) e g.turned.symbols-so);
      scores-are =
          g.scores-so ∙ ap₂ (λ (l : List ℤ) n. paste old at l (n * 16)) g.turned.scores-so e
          ∙ ap₂ (λ D n. paste old at (scores D (held_costs costs) (front n symbols)) 256) f e;
      planes-are = λ j l. subst (λ n. lane_column planes n j ≡ column (code (kernel a)) (rows 16 n (front n symbols)) j) e (g.turned.columns-so j l);
    }
