-- The run of three layers, row after row: what holds after r of them. Assumes nothing.
use mathlib.Core.Path.{◌≡◌, refl, sym, ap, ap₂, ◌∙◌, subst}
use mathlib.Core.Bool.{Bool, false, ◌&&◌}
use mathlib.Core.List.{List, [], ◌∷◌, ◌++◌}
use Prim.Native.Nat.{ℕ, suc, ◌+◌, ◌*◌, ◌/◌, ◌%◌, ◌≤◌, ◌<◌}
use native.Mathlib.Numerals.{add-one}
use native.Mathlib.Omega.{arith}
use lib.IntN.{ℤ, pos, nat_abs}
use lib.ListN.{length, get_or, set, length-set, length-append}
use lib.Seq.{paste, paste-zero, length-paste, get_or-set_other}
use Rattle.base.specs.Bit.{bit, tabulate}
use Rattle.base.proofs.Bool.{parity-cong}
use Rattle.base.proofs.List.{length-tabulate, tabulate-at}
use Rattle.bits.specs.Packed.{bits}
use Rattle.polar.specs.Code.{Code, pay, channel, score}
use Rattle.polar.specs.Follow.{scores}
use Rattle.polar.specs.Kernel.{code}
use Rattle.polar.specs.Stages.{rows, column, staged, block}
use Rattle.polar.proofs.Follow.{length-scores}
use Rattle.polar.proofs.Frame.{frame-staged, frame-onto}
use Rattle.kernel.specs.Kernels.{kernel, kernel_code}
use Rattle.kernel.specs.Rows.{row_bit, table}
use Rattle.kernel.proofs.Rows.{chosen-sum-at}
use Rattle.kernel.proofs.Table.{table-row}
use Rattle.kernel.proofs.Solved.{invertible}
use Rattle.plan.specs.Pairs.{frame_code}
use Rattle.grid.specs.Grid.{column_sum, column_sums}
use Rattle.run.specs.Run.{symbol_by, SymbolsBy}
use Rattle.run.proofs.Phases.{score-cong}
use Rattle.layer_turns.specs.Turned.{Ran, Turned}
use Rattle.layer_turns.proofs.Turning.{turned_none, turned-next}
use Rattle.layer_turns.proofs.Pasted.{paste_more}
use Rattle.lane.specs.Lanes.{lane_bit, lane_costs}
use Rattle.lane_phases.specs.Rows.{column as lane_column}
use Rattle.lane_phases.proofs.Phases.{held_kept}
use Rattle.pair_run.specs.Run.{front, held_costs, PairRun}
use Rattle.pair_run.proofs.Prefixes.{length_front, planes-next}
use Rattle.pair_run.proofs.Layered.{code-score}
use Rattle.pair_run.proofs.Premises.{lane-small}
use Rattle.triple_run.specs.Groups.{Room, Groups, Loaded, KeptGroups, HeldGroups, own_symbols, ScoresOf}
use Rattle.triple_run.specs.Run.{triple_code, TripleRun}
use Rattle.triple_run.proofs.Fronts.{front-pasted, front-taken}

-- The scores of the outer kernels are small.
pub found-small : (k : ℕ) (costs halves : List (List (List (List ℕ)))) → Groups costs halves → (planes : List (List ℕ)) (r : ℕ) (found : List ℤ) → ScoresOf k costs planes r 256 found
    → (j : ℕ) → j < 256 → nat_abs (get_or found j (pos 0)) ≤ 2032
found-small k costs halves groups planes r found is j l =
    rw (is j l) (lane-small k 127 (get_or costs (j / 16) []) (groups (j / 16) (omega arith)).0 (j % 16) (omega arith) (own_symbols planes r j))

-- The word of a run of two layers, by sums of the outer kernel's rows.
pub pair-word : (a b : ℕ) → b < 3 → (u : List Bool) (planes : List ℕ) → ((j : ℕ) → j < 16 → lane_column planes 16 j ≡ column (code (kernel a)) (rows 16 16 u) j)
    → (j : ℕ) → j < 256 → lane_bit (get_or (column_sums (get_or table b []) planes) (j / 16) 0) (j % 16) ≡ (frame_code a b).word u j
unfolding column_sums
pair-word a b lb u planes is j l =
    let g : ℕ = j / 16 in
    let t : ℕ = j % 16 in
    ap (λ x. bit (bits 16 x) t) (tabulate-at 16 (column_sum (get_or table b []) planes) g 0 (omega arith))
    ∙ chosen-sum-at (get_or table b []) (λ r. row_bit planes r g) t (omega arith)
    ∙ parity-cong 16 (λ r lr. ap₂ (λ x y. x && y)
    (sym (tabulate-at 16 (λ s. lane_bit (get_or planes s 0) g) r false lr) ∙ ap (λ v. bit v r) (is g (omega arith))) (table-row b r t lb lr (omega arith)))
    ∙ ap (λ C. C.word u j) (sym (frame-staged (kernel a) (kernel b)))

-- A run of two layers over the values of its places.
pub pair-ran : (a b : ℕ) (inner : List (List (List ℕ))) (fr gi x planes : List ℕ) (at : ℕ) (new old : List ℤ) (free given : ℕ → Bool)
    → ((i : ℕ) → i < 256 → bit (front 16 fr) i ≡ free i) → ((i : ℕ) → i < 256 → bit (front 16 gi) i ≡ given i)
    → PairRun a b inner fr gi x planes at new old → Ran (frame_code a b) (held_costs inner) free given (front 16 x) (scores (frame_code a b) (held_costs inner) (front 16 x))
pair-ran a b inner fr gi x planes at new old free given free-is given_is row = record {
  long = length_front 16 x;
  symbols-by = λ i l.
      let li : i < 256 = omega (arith, length_front 16 x) in
      row.symbols-by i l ∙ ap₂ (λ f g. symbol_by f g (score (frame_code a b) (held_costs inner) (lib.ListN.take i (front 16 x)))) (free-is i li) (given_is i li);
  scores-are = refl;
}

module _ (ks : List ℕ) (values : List ℤ) (costs : List (List (List (List ℕ)))) (free given : List ℕ) (old : List ℤ) where
  abbrev a : ℕ
  a = get_or ks 0 0

  abbrev b : ℕ
  b = get_or ks 1 0

  abbrev k : ℕ
  k = get_or ks 2 0

  abbrev A : Code
  A = frame_code a b

  abbrev B : Code
  B = code (kernel k)

  abbrev fr : ℕ → Bool
  fr = bit (front 256 free)

  abbrev gi : ℕ → Bool
  gi = bit (front 256 given)

  -- After r rows.
  pub record AfterRows (r : ℕ) (symbols : List ℕ) (planes : List (List ℕ)) (rows4 : List (List (List (List ℕ)))) (new : List ℤ) : Type 0 where
    pub within : r ≤ 16
    pub room : length symbols ≡ 256
    pub plane-room : length planes ≡ 16
    pub planes-room : (g : ℕ) → g < 16 → length (get_or planes g []) ≡ 16
    pub row_room : Room rows4
    pub scored : List ℤ
    pub turned : Turned A B (channel values) fr gi r (front (16 * r) symbols) scored (own_symbols planes r)
    pub scores-so : new ≡ paste old 0 scored (r * 256)
    pub kept-so : 0 < r → KeptGroups k costs planes r rows4

  -- The score of outer kernel j over its places.
  outer-is : (halves : List (List (List (List ℕ)))) → Loaded values costs halves → (j : ℕ) → j < 256 → (col : List Bool) → length col < 16
      → score (kernel_code k) (lane_costs (get_or costs (j / 16) []) (j % 16)) col ≡ score B (block 16 (channel values) j) col
  outer-is halves loaded j l col lc =
      score-cong (kernel_code k) (λ t lt c. loaded.0 (j / 16) (omega arith) (j % 16) t c (omega arith) lt ∙ ap (λ i. channel values i c) (let e : 256 * (j / 16) + (16 * (j % 16) + t) ≡ 16 * j + t = omega arith in e)) col
      ∙ sym (code-score k (block 16 (channel values) j) col lc)

  module _ (halves : List (List (List (List ℕ)))) (loaded : Loaded values costs halves) (lb : b < 3) (fits : 4096 ≤ length old)
      (r : ℕ) (symbols : List ℕ) (planes : List (List ℕ)) (rows₀ : List (List (List (List ℕ)))) (new : List ℤ) (g : AfterRows r symbols planes rows₀ new) (lr : r < 16)
      (found : List ℤ) (is : ScoresOf k costs planes r 256 found)
      (inner : List (List (List ℕ))) (inner-is : (j t : ℕ) (c : Bool) → j < 16 → t < 16 → lane_costs inner j t c ≡ channel found (16 * j + t) c)
      (free16 given16 : List ℕ) (free-is : (i : ℕ) → i < 16 → get_or free16 i 0 ≡ get_or free (16 * r + i) 0) (given_is : (i : ℕ) → i < 16 → get_or given16 i 0 ≡ get_or given (16 * r + i) 0)
      (x own : List ℕ) (lx : length x ≡ 16) (new' : List ℤ) (row : PairRun a b inner free16 given16 x own (256 * r) new' new)
      (planes' : List (List ℕ)) (lp : length planes' ≡ 16) (fed : (i : ℕ) → i < 16 → get_or planes' i [] ≡ set (get_or planes i []) r (get_or (column_sums (get_or table b []) own) i 0))
      (rows4 : List (List (List (List ℕ)))) (room4 : Room rows4) (held : HeldGroups k costs planes r rows4) where
    abbrev sc : List ℤ
    sc = scores A (held_costs inner) (front 16 x)

    ran : Ran A (held_costs inner) (λ i. fr (r * 256 + i)) (λ i. gi (r * 256 + i)) (front 16 x) sc
    ran = pair-ran a b inner free16 given16 x own (256 * r) new' new _ _ (front-taken free free16 r lr free-is) (front-taken given given16 r lr given_is) row

    soft-is : (j : ℕ) → j < 256 → (c : Bool) → held_costs inner j c ≡ pay (score B (block 16 (channel values) j) (own_symbols planes r j)) c
    soft-is j l c =
        inner-is (j / 16) (j % 16) c (omega arith) (omega arith)
        ∙ ap (λ i. channel found i c) (let e : 16 * (j / 16) + j % 16 ≡ j = omega arith in e)
        ∙ ap (λ y. pay y c) (is j l ∙ outer-is halves loaded j l (own_symbols planes r j) (omega (arith, length-tabulate r (λ s. lane_bit (get_or (get_or planes (j / 16) []) s 0) (j % 16)))))

    own-next : (j : ℕ) → j < 256 → own_symbols planes' (r + 1) j ≡ own_symbols planes r j ++ (lane_bit (get_or (column_sums (get_or table b []) own) (j / 16) 0) (j % 16) ∷ [])
    own-next j l =
        ap (λ (p : List ℕ). lane_column p (r + 1) (j % 16)) (fed (j / 16) (omega arith))
        ∙ planes-next (get_or planes (j / 16) []) r (get_or (column_sums (get_or table b []) own) (j / 16) 0) (j % 16) (omega (arith, g.planes-room (j / 16) (omega arith)))

    next : Turned A B (channel values) fr gi (suc r) (front (16 * r) symbols ++ front 16 x) (g.scored ++ sc) (own_symbols planes' (r + 1))
    next =
        turned-next A B (frame-onto (kernel a) (kernel b) (invertible a) (invertible b)) (channel values) fr gi r (front (16 * r) symbols) g.scored (own_symbols planes r) g.turned lr
        (held_costs inner) soft-is (front 16 x) sc ran (own_symbols planes' (r + 1)) (λ j. lane_bit (get_or (column_sums (get_or table b []) own) (j / 16) 0) (j % 16))
        own-next (pair-word a b lb (front 16 x) own row.planes-are)

    lsc : length sc ≡ 256
    lsc = length-scores A (held_costs inner) (front 16 x) ∙ length_front 16 x

    lso : length g.scored ≡ r * 256
    lso = ap length g.turned.scores-so ∙ length-scores (staged A B) (channel values) (front (16 * r) symbols) ∙ length_front (16 * r) symbols ∙ (let e : 16 * r * 16 ≡ r * 256 = omega arith in e)

    next-symbols : front (16 * (r + 1)) (paste symbols (16 * r) x 16) ≡ front (16 * r) symbols ++ front 16 x
    next-symbols = ap (λ n. front n (paste symbols (16 * r) x 16)) (let e : 16 * (r + 1) ≡ 16 * r + 16 = omega arith in e) ∙ front-pasted (16 * r) symbols x (omega (arith, g.room)) lx

    pub row_next : (symbols' : List ℕ) → symbols' ≡ paste symbols (16 * r) x 16 → AfterRows (r + 1) symbols' planes' rows4 new'
    row_next symbols' e = record {
      within = omega arith;
      room = ap length e ∙ length-paste symbols (16 * r) x 16 (omega (arith, g.room)) (omega arith) ∙ g.room;
      plane-room = lp;
      planes-room = λ i l. ap length (fed i l) ∙ length-set (get_or planes i []) r _ ∙ g.planes-room i l;
      row_room = room4;
      scored = g.scored ++ sc;
      turned =
          subst (λ u. Turned A B (channel values) fr gi (r + 1) u (g.scored ++ sc) (own_symbols planes' (r + 1))) (sym (ap (front (16 * (r + 1))) e ∙ next-symbols))
          (subst (λ n. Turned A B (channel values) fr gi n (front (16 * r) symbols ++ front 16 x) (g.scored ++ sc) (own_symbols planes' (r + 1))) (sym (add-one r)) next);
      scores-so =
          row.scores-are ∙ ap₂ (λ (l : List ℤ) n. paste l n sc 256) g.scores-so (let e : 256 * r ≡ 0 + r * 256 = omega arith in e)
          ∙ paste_more old g.scored sc 0 (r * 256) 256 (omega arith) lso lsc
          ∙ ap (paste old 0 (g.scored ++ sc)) (let e : r * 256 + 256 ≡ (r + 1) * 256 = omega arith in e);
      kept-so = λ _ i l.
          held_kept k (get_or costs i []) (get_or planes i []) (get_or planes' i []) r (get_or rows4 i [])
          (λ s ls. ap (λ (p : List ℕ). get_or p s 0) (fed i l) ∙ get_or-set_other (get_or planes i []) r s _ 0 (λ q. omega arith)) (held i l);
    }

  -- Before the first row.
  pub no_row : (symbols : List ℕ) (planes : List (List ℕ)) (rows4 : List (List (List (List ℕ)))) → length symbols ≡ 256 → length planes ≡ 16 → ((g : ℕ) → g < 16 → length (get_or planes g []) ≡ 16) → Room rows4
      → AfterRows 0 symbols planes rows4 old
  unfolding front tabulate
  no_row symbols planes rows4 ls lp lg lr = record {
    within = omega arith;
    room = ls;
    plane-room = lp;
    planes-room = lg;
    row_room = lr;
    scored = [];
    turned = turned_none A B (channel values) fr gi (own_symbols planes 0) (λ j. refl);
    scores-so = paste-zero old 0 [];
    kept-so = λ l. absurd (omega arith);
  }

  -- After the last row.
  pub all-rows : (r : ℕ) (symbols : List ℕ) (planes : List (List ℕ)) (rows4 : List (List (List (List ℕ)))) (new : List ℤ) → r ≡ 16 → AfterRows r symbols planes rows4 new
      → TripleRun ks values free given symbols new old
  all-rows r symbols planes rows4 new e g = record {
    symbols-by = subst (λ n. SymbolsBy (triple_code ks) (channel values) fr gi (front (16 * n) symbols)) e g.turned.symbols-so;
    scores-are = g.scores-so ∙ ap₂ (λ (l : List ℤ) n. paste old 0 l (n * 256)) (g.turned.scores-so ∙ ap (λ n. scores (triple_code ks) (channel values) (front (16 * n) symbols)) e) e;
  }
