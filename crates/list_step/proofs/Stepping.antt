-- What a marked phase, or an unmarked one, does to records and lanes is a step of the list decoder. Assumes nothing.
use mathlib.Core.Path.{◌≡◌, refl, sym, ap, subst⁻¹, ◌∙◌}
use mathlib.Core.Bool.{Bool, true, false, true≢false}
use mathlib.Core.List.{List, [], ◌∷◌, ◌++◌}
use Prim.Native.Nat.{ℕ, ◌+◌, ◌-◌, ◌*◌, ◌/◌, ◌^◌, ◌≤◌, ◌<◌}
use native.Mathlib.Omega.{arith}
use lib.ListN.{length, take, get_or, length-append}
use lib.Seq.{take_at}
use Rattle.base.specs.Bit.{odd}
use Rattle.bits.specs.Packed.{unpack}
use Rattle.polar.specs.Code.{least}
use Rattle.folds.specs.Rows.{cell}
use Rattle.kernel.specs.Kernels.{kernel_code}
use Rattle.windows.specs.Tables.{shape_at}
use Rattle.windows.specs.Paths.{Held}
use Rattle.lane.specs.Lanes.{lane_costs, LanesWithin}
use Rattle.lane_phases.specs.Rows.{score_rows}
use Rattle.list.specs.Paths.{phase, candidate}
use Rattle.path.specs.Path.{HasSymbols, path_at}
use Rattle.list_phase.specs.Next.{Frozen}
use Rattle.list_step.specs.Step.{Listed, Paid, row_symbols, KeptRow, Lanes, PhaseStep}
use Rattle.list_step.specs.Marked.{Clean, chosen, Marked}
use Rattle.list_step.proofs.Candidates.{chosen-below, penalty-is, phase-count, phase-at, unmarked-count, unmarked-at}
use Rattle.list_step.proofs.Rows.{row_next, clean_of, clean-long, row-long, followed, total-small}

-- The totals of a phase, as its paths' penalties are asked to be.
abbrev Totals : ℕ → List (List (List ℕ)) → List ℕ → ℕ → ℕ → ℕ → List (List ℕ) → Type 0
Totals k costs scratch r s n pair = (i : ℕ) (b : Bool) → i < n → cell 0 pair i b ≡ least (kernel_code k) (lane_costs costs i) (row_symbols scratch r s i ++ (b ∷ []))

-- No total is more than what a candidate that there is not has.
pub totals-small : (k r s n : ℕ) (pair : List (List ℕ)) (scratch : List ℕ) (costs : List (List (List ℕ))) → LanesWithin 2047 costs → length costs ≡ 16 → n ≤ 8
    → Totals k costs scratch r s n pair → (i : ℕ) (b : Bool) → i < n → cell 0 pair i b ≤ 32766
totals-small k r s n pair scratch costs within room ln totals i b l =
    omega (arith, totals i b l, total-small k costs i (row_symbols scratch r s i ++ (b ∷ [])) within room (omega arith))

-- Lanes with other rows.
pub other-rows : (costs halves rows rows' : List (List (List ℕ))) → Lanes costs halves rows → length rows' ≡ 16 → Lanes costs halves rows'
other-rows costs halves rows rows' h e =
    record { costs-within = h.costs-within; halves-within = h.halves-within; halves_are = h.halves_are; cost-room = h.cost-room; row_room = e; costs-twins = h.costs-twins }

module _ (k r s n : ℕ) (lk : k < 3) (lr : r < 16) (ls : s < 16) (one : 1 ≤ n) (ln : n ≤ 8) (pair : List (List ℕ)) (scratch : List ℕ) (costs rows : List (List (List ℕ)))
    (clean : Clean (16 * r + s) n scratch) (totals : Totals k costs scratch r s n pair) where
  -- The symbols of a record up to this phase.
  own-long : (i : ℕ) → i < n → length (take (16 * r + s) (unpack (path_at i scratch).symbols)) ≡ 16 * r + s
  own-long i li = (clean-long (unpack (path_at i scratch).symbols) (16 * r + s) (omega arith) (clean i li)).1

  module _ (L : ℕ) (some : 1 ≤ L) (few : L ≤ 8) (home : List ℕ) (paths count : ℕ) (scratch' : List ℕ) (costs' rows' : List (List (List ℕ))) (home' : List ℕ)
      (narrow : shape_at k s 0 - s ≤ 4) (ep : paths ≡ 2 ^ (shape_at k s 0 - s))
      (held : (i : ℕ) → i < n → Held k (lane_costs costs i) (row_symbols scratch r s i) (score_rows rows i))
      (small : (i : ℕ) (b : Bool) → i < n → cell 0 pair i b ≤ 32766)
      (m : Marked (16 * r + s) L n paths pair scratch costs rows home count scratch' costs' rows' home') where
    inside : (j : ℕ) → j < count → j < 2 * n
    inside j l = omega (arith, m.count-is)

    parent_in : (j : ℕ) → j < count → chosen m.pens j / 2 < n
    parent_in j l = omega (arith, chosen-below pair n m.pens m.pens-are ln small j (inside j l))

    grown : (j : ℕ) → j < count
        → HasSymbols (take (16 * r + s) (unpack (path_at (chosen m.pens j / 2) scratch).symbols) ++ (odd (chosen m.pens j) ∷ [])) (path_at j scratch')
    grown j l =
        let i = chosen m.pens j / 2 in
        (m.record-so j l).0 (take (16 * r + s) (unpack (path_at i scratch).symbols)) (own-long i (parent_in j l)) (clean i (parent_in j l))

    marked-clean : Clean (16 * r + (s + 1)) count scratch'
    marked-clean j l =
        let i = chosen m.pens j / 2 in
        let p = take (16 * r + s) (unpack (path_at i scratch).symbols) in
        let b = odd (chosen m.pens j) in
        clean_of (unpack (path_at j scratch').symbols) (p ++ (b ∷ [])) (16 * r + (s + 1)) (omega (arith, length-append p (b ∷ []), own-long i (parent_in j l))) (grown j l)

    row-grown : (j : ℕ) → j < count → row_symbols scratch' r (s + 1) j ≡ row_symbols scratch r s (chosen m.pens j / 2) ++ (odd (chosen m.pens j) ∷ [])
    row-grown j l =
        let i = chosen m.pens j / 2 in
        row_next (unpack (path_at i scratch).symbols) (unpack (path_at j scratch').symbols) (take (16 * r + s) (unpack (path_at i scratch).symbols)) (odd (chosen m.pens j)) (16 * r) s
        (own-long i (parent_in j l)) (clean i (parent_in j l)) (grown j l)

    kept : (j : ℕ) → j < count → KeptRow k costs' rows' scratch' r (s + 1) j
    kept j l =
        let i = chosen m.pens j / 2 in
        followed k s lk ls costs costs' rows rows' (row_symbols scratch r s i) (row_symbols scratch' r (s + 1) j) (odd (chosen m.pens j)) i j narrow
        (row-long (unpack (path_at i scratch).symbols) (16 * r) s (omega arith) (clean i (parent_in j l)))
        (row-grown j l)
        (λ t c lt. m.lane-so j t c l lt)
        (λ t c lt. m.row-so j t c l (subst⁻¹ (λ p. t < p) ep lt))
        (held i (parent_in j l))

    module _ (ps : List (List Bool)) (penalty : List Bool → ℕ) (el : length ps ≡ n) (long : (i : ℕ) → i < n → length (get_or ps i []) ≡ 16 * r + s) (listed : Listed ps scratch)
        (pays : (i : ℕ) (b : Bool) → i < n → penalty (get_or ps i [] ++ (b ∷ [])) ≡ least (kernel_code k) (lane_costs costs i) (row_symbols scratch r s i ++ (b ∷ []))) where
      are : (i : ℕ) (b : Bool) → i < n → cell 0 pair i b ≡ penalty (get_or ps i [] ++ (b ∷ []))
      are i b l = totals i b l ∙ sym (pays i b l)

      count-so : length (phase penalty L true ps) ≡ count
      count-so = phase-count pair n m.pens m.pens-are ln small penalty L ps el are ∙ sym m.count-is

      at : (j : ℕ) → j < count → get_or (phase penalty L true ps) j [] ≡ candidate ps (chosen m.pens j)
      at j l = phase-at pair n m.pens m.pens-are ln small penalty L ps el are j (omega (arith, m.count-is))

      next-listed : Listed (phase penalty L true ps) scratch'
      next-listed j l =
          let lj : j < count = omega (arith, count-so) in
          let i = chosen m.pens j / 2 in
          let li : chosen m.pens j / 2 < length ps = omega (arith, parent_in j lj) in
          subst⁻¹ (λ (p : List Bool). HasSymbols p (path_at j scratch')) (at j lj)
          ((m.record-so j lj).0 (get_or ps i []) (long i (parent_in j lj)) (listed i li))

      next-paid : Paid penalty (phase penalty L true ps) scratch'
      next-paid j l =
          let lj : j < count = omega (arith, count-so) in
          (m.record-so j lj).1 ∙ penalty-is pair n m.pens m.pens-are ln small penalty L ps el are j (inside j lj) ∙ ap penalty (sym (at j lj))

      next-from : (j : ℕ) → j < count → take (16 * r + s) (get_or (phase penalty L true ps) j []) ≡ get_or ps (chosen m.pens j / 2) []
      next-from j l =
          let i = chosen m.pens j / 2 in
          ap (take (16 * r + s)) (at j l) ∙ take_at (get_or ps i []) (odd (chosen m.pens j) ∷ []) (16 * r + s) (long i (parent_in j l))

    -- A marked phase is a step of the list decoder, and the records have no symbol after it.
    pub marked_step : PhaseStep k r s L true n scratch costs home count scratch' costs' rows' home' × Clean (16 * r + (s + 1)) count scratch'
    marked_step = (
      record {
        from = λ j. chosen m.pens j / 2;
        from_in = parent_in;
        some = omega (arith, m.count-is);
        few = omega (arith, m.count-is);
        lane-so = m.lane-so;
        home-so = m.home-so;
        kept-so = λ _. kept;
        list-so = λ ps penalty el long listed pays. (
          count-so ps penalty el long listed pays,
          next-listed ps penalty el long listed pays,
          next-paid ps penalty el long listed pays,
          next-from ps penalty el long listed pays,
        );
      },
      marked-clean,
    )

  module _ (L : ℕ) (home : List ℕ) (scratch' : List ℕ)
      (frozen : (i : ℕ) → i < n → Frozen (cell 0 pair i false) (path_at i scratch) (path_at i scratch')) where
    frozen-clean : Clean (16 * r + (s + 1)) n scratch'
    frozen-clean i l =
        let p = take (16 * r + s) (unpack (path_at i scratch).symbols) in
        clean_of (unpack (path_at i scratch').symbols) (p ++ (false ∷ [])) (16 * r + (s + 1)) (omega (arith, length-append p (false ∷ []), own-long i l))
        ((frozen i l).0 p 1 (omega (arith, own-long i l)) (clean i l))

    module _ (ps : List (List Bool)) (penalty : List Bool → ℕ) (el : length ps ≡ n) (long : (i : ℕ) → i < n → length (get_or ps i []) ≡ 16 * r + s) (listed : Listed ps scratch)
        (pays : (i : ℕ) (b : Bool) → i < n → penalty (get_or ps i [] ++ (b ∷ [])) ≡ least (kernel_code k) (lane_costs costs i) (row_symbols scratch r s i ++ (b ∷ []))) where
      same_count : length (phase penalty L false ps) ≡ n
      same_count = unmarked-count penalty L ps ∙ el

      same_at : (j : ℕ) → j < n → get_or (phase penalty L false ps) j [] ≡ get_or ps j [] ++ (false ∷ [])
      same_at j l = unmarked-at penalty L ps j (omega arith)

      frozen-listed : Listed (phase penalty L false ps) scratch'
      frozen-listed j l =
          let lj : j < n = omega (arith, same_count) in
          subst⁻¹ (λ (p : List Bool). HasSymbols p (path_at j scratch')) (same_at j lj) ((frozen j lj).0 (get_or ps j []) 1 (omega (arith, long j lj)) (listed j (omega arith)))

      frozen-paid : Paid penalty (phase penalty L false ps) scratch'
      frozen-paid j l =
          let lj : j < n = omega (arith, same_count) in
          (frozen j lj).1 ∙ totals j false lj ∙ sym (pays j false lj) ∙ ap penalty (sym (same_at j lj))

      frozen-from : (j : ℕ) → j < n → take (16 * r + s) (get_or (phase penalty L false ps) j []) ≡ get_or ps j []
      frozen-from j l = ap (take (16 * r + s)) (same_at j l) ∙ take_at (get_or ps j []) (false ∷ []) (16 * r + s) (long j l)

    -- An unmarked phase is a step where all paths stay.
    pub frozen-step : PhaseStep k r s L false n scratch costs home n scratch' costs rows home × Clean (16 * r + (s + 1)) n scratch'
    frozen-step = (
      record {
        from = λ j. j;
        from_in = λ j l. l;
        some = one;
        few = ln;
        lane-so = λ j t c l lt. refl;
        home-so = λ j l. refl;
        kept-so = λ e. absurd (true≢false (sym e));
        list-so = λ ps penalty el long listed pays. (
          same_count ps penalty el long listed pays,
          frozen-listed ps penalty el long listed pays,
          frozen-paid ps penalty el long listed pays,
          frozen-from ps penalty el long listed pays,
        );
      },
      frozen-clean,
    )
