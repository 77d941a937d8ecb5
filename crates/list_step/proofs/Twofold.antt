-- What two marked phases do to records and lanes are two steps of the list decoder. Assumes nothing.
use mathlib.Core.Path.{◌≡◌, refl, sym, ap, ap₂, subst, subst⁻¹, ◌∙◌}
use mathlib.Core.Bool.{Bool, true, false}
use mathlib.Core.List.{List, [], ◌∷◌, ◌++◌, append_assoc}
use Prim.Native.Nat.{ℕ, ◌+◌, ◌-◌, ◌*◌, ◌/◌, ◌%◌, ◌^◌, ◌≤◌, ◌<◌, min}
use native.Mathlib.Omega.{arith}
use lib.ListN.{length, take, get_or, length-append}
use lib.Seq.{take-take}
use Rattle.base.specs.Bit.{odd}
use Rattle.bits.specs.Packed.{unpack}
use Rattle.polar.specs.Code.{least}
use Rattle.polar.proofs.Least.{least-cong, least_step}
use Rattle.folds.specs.Rows.{cell}
use Rattle.kernel.specs.Kernels.{kernel_code}
use Rattle.windows.specs.Tables.{shape_at}
use Rattle.windows.specs.Paths.{Held}
use Rattle.lane.specs.Lanes.{lane_costs, LanesWithin}
use Rattle.lane_phases.specs.Rows.{score_rows}
use Rattle.lane_moves.specs.Moves.{Twins}
use Rattle.list.specs.Paths.{phase, candidate}
use Rattle.path.specs.Path.{path_at}
use Rattle.list_step.specs.Step.{Listed, Paid, row_symbols, KeptRow, TwoSteps}
use Rattle.list_step.specs.Marked.{Clean, chosen}
use Rattle.list_step.specs.Two.{lane_of, SettledTwo}
use Rattle.list_step.proofs.Rows.{row-long, followed, total-small}
use Rattle.list_step.proofs.Two.{lane_in, one-small, parent_in, settled-clean, settled-row, settled-count, settled_at, settled-long, settled-listed, settled-paid, settled-from}

-- The totals of the second phase, in the lanes of both symbols of the first.
abbrev pub TwinTotals : ℕ → List (List (List ℕ)) → List ℕ → ℕ → ℕ → ℕ → List (List ℕ) → Type 0
TwinTotals k costs scratch r s n pair =
    (i : ℕ) (b c : Bool) → i < n → cell 0 pair (lane_of i b) c ≡ least (kernel_code k) (lane_costs costs (lane_of i b)) ((row_symbols scratch r s i ++ (b ∷ [])) ++ (c ∷ []))

pub twin-small : (k r s n : ℕ) (pair : List (List ℕ)) (scratch : List ℕ) (costs : List (List (List ℕ))) → LanesWithin 2047 costs → length costs ≡ 16 → n ≤ 8
    → TwinTotals k costs scratch r s n pair → (i : ℕ) (b c : Bool) → i < n → cell 0 pair (lane_of i b) c ≤ 32766
twin-small k r s n pair scratch costs within room ln totals i b c l =
    omega (arith, totals i b c l, total-small k costs (lane_of i b) ((row_symbols scratch r s i ++ (b ∷ [])) ++ (c ∷ [])) within room (lane_in i b (omega arith)))

-- What a lane pays is what its twin pays.
twin-costs : (costs : List (List (List ℕ))) → Twins 16 costs → (i t : ℕ) (b c : Bool) → i < 8 → t < 16 → lane_costs costs (lane_of i b) t c ≡ lane_costs costs i t c
twin-costs costs h i t false c l lt = refl
twin-costs costs h i t true c l lt = h i t c l lt

lane_low : (i : ℕ) (b : Bool) → i < 8 → lane_of i b % 8 ≡ i
lane_low i false l = omega arith
lane_low i true l = omega arith

module _ (k r s n : ℕ) (lk : k < 3) (lr : r < 16) (ls : s < 15) (one : 1 ≤ n) (ln : n ≤ 8) (pair : List (List ℕ)) (scratch : List ℕ) (costs rows : List (List (List ℕ)))
    (clean : Clean (16 * r + s) n scratch) (twins : Twins 16 costs) (totals : TwinTotals k costs scratch r s n pair)
    (small : (i : ℕ) (b c : Bool) → i < n → cell 0 pair (lane_of i b) c ≤ 32766)
    (held : (i : ℕ) (b : Bool) → i < n → Held k (lane_costs costs (lane_of i b)) (row_symbols scratch r s i ++ (b ∷ [])) (score_rows rows (lane_of i b)))
    (L : ℕ) (some : 1 ≤ L) (few : L ≤ 8) (home : List ℕ) (paths : ℕ) (lanes : List ℕ) (scratch' : List ℕ) (costs' rows' : List (List (List ℕ))) (home' : List ℕ)
    (narrow : shape_at k (s + 1) 0 - (s + 1) ≤ 4) (ep : paths ≡ 2 ^ (shape_at k (s + 1) 0 - (s + 1)))
    (m : SettledTwo (16 * r + s) L n pair scratch lanes scratch')
    (lane-so : (j t : ℕ) (c : Bool) → j < min L (2 * min L (2 * n)) → t < 16 → lane_costs costs' j t c ≡ lane_costs costs (get_or lanes j 0 % 8) t c)
    (row-so : (j t : ℕ) (c : Bool) → j < min L (2 * min L (2 * n)) → t < paths → lane_costs rows' j t c ≡ lane_costs rows (get_or lanes j 0) t c)
    (home-so : (j : ℕ) → j < min L (2 * min L (2 * n)) → get_or home' j 0 ≡ get_or home (get_or lanes j 0 % 8) 0) where
  small₁ : (i : ℕ) (b : Bool) → i < n → cell 0 m.one i b ≤ 32766
  small₁ = one-small n pair m.one ln small m.one-is

  -- The candidate of the first phase that path j between them is, its path and its symbol.
  first-in : (j : ℕ) → j < min L (2 * n) → chosen m.first.pens j / 2 < n
  first-in = parent_in (16 * r + s) n (omega arith) ln m.one scratch clean L m.places m.between small₁ m.first

  between-few : min L (2 * n) ≤ 8
  between-few = omega arith

  clean₁ : Clean (16 * r + s + 1) (min L (2 * n)) m.between
  clean₁ = settled-clean (16 * r + s) n (omega arith) ln m.one scratch clean L m.places m.between small₁ m.first

  small₂ : (j : ℕ) (b : Bool) → j < min L (2 * n) → cell 0 m.two j b ≤ 32766
  small₂ j b l = omega (arith, m.two_is j b l, small (chosen m.first.pens j / 2) (odd (chosen m.first.pens j)) b (first-in j l))

  second-in : (j : ℕ) → j < min L (2 * min L (2 * n)) → chosen m.second.pens j / 2 < min L (2 * n)
  second-in = parent_in (16 * r + s + 1) (min L (2 * n)) (omega arith) between-few m.two m.between clean₁ L m.places' scratch' small₂ m.second

  -- The candidate of the first phase that path j goes on from.
  abbrev via : ℕ → ℕ
  via j = chosen m.first.pens (chosen m.second.pens j / 2)

  from_in : (j : ℕ) → j < min L (2 * min L (2 * n)) → via j / 2 < n
  from_in j l = first-in (chosen m.second.pens j / 2) (second-in j l)

  low : (j : ℕ) → j < min L (2 * min L (2 * n)) → get_or lanes j 0 % 8 ≡ via j / 2
  low j l = ap (λ i. i % 8) (m.lanes-are j l) ∙ lane_low (via j / 2) (odd (via j)) (omega (arith, from_in j l))

  row₁ : (j : ℕ) → j < min L (2 * n) → row_symbols m.between r (s + 1) j ≡ row_symbols scratch r s (chosen m.first.pens j / 2) ++ (odd (chosen m.first.pens j) ∷ [])
  row₁ = settled-row (16 * r + s) n (omega arith) ln m.one scratch clean L m.places m.between small₁ m.first (16 * r) s (omega arith)

  row₂ : (j : ℕ) → j < min L (2 * min L (2 * n)) → row_symbols scratch' r (s + 1 + 1) j ≡ row_symbols m.between r (s + 1) (chosen m.second.pens j / 2) ++ (odd (chosen m.second.pens j) ∷ [])
  row₂ = settled-row (16 * r + s + 1) (min L (2 * n)) (omega arith) between-few m.two m.between clean₁ L m.places' scratch' small₂ m.second (16 * r) (s + 1) (omega arith)

  kept : (j : ℕ) → j < min L (2 * min L (2 * n)) → KeptRow k costs' rows' scratch' r (s + 1 + 1) j
  kept j l =
      let i = via j / 2 in
      let b = odd (via j) in
      let us = row_symbols scratch r s i ++ (b ∷ []) in
      let short : length (row_symbols scratch r s i) ≡ s = row-long (unpack (path_at i scratch).symbols) (16 * r) s (omega arith) (clean i (from_in j l)) in
      followed k (s + 1) lk (omega arith) costs costs' rows rows' us (row_symbols scratch' r (s + 1 + 1) j) (odd (chosen m.second.pens j)) (lane_of i b) j narrow
      (omega (arith, length-append (row_symbols scratch r s i) (b ∷ []), short))
      (row₂ j l ∙ ap (λ (x : List Bool). x ++ (odd (chosen m.second.pens j) ∷ [])) (row₁ (chosen m.second.pens j / 2) (second-in j l)))
      (λ t c lt. lane-so j t c l lt ∙ ap (λ a. lane_costs costs a t c) (low j l) ∙ sym (twin-costs costs twins i t b c (omega (arith, from_in j l)) lt))
      (λ t c lt. row-so j t c l (subst⁻¹ (λ p. t < p) ep lt) ∙ ap (λ a. lane_costs rows a t c) (m.lanes-are j l))
      (held i b (from_in j l))

  -- The totals of a lane are the least totals of its path.
  path-total : (i : ℕ) (b : Bool) (p : List Bool) → i < n → least (kernel_code k) (lane_costs costs (lane_of i b)) p ≡ least (kernel_code k) (lane_costs costs i) p
  path-total i b p l = least-cong (kernel_code k) (λ t lt c. twin-costs costs twins i t b c (omega arith) lt) p

  module _ (ps : List (List Bool)) (penalty : List Bool → ℕ) (el : length ps ≡ n) (long : (i : ℕ) → i < n → length (get_or ps i []) ≡ 16 * r + s) (listed : Listed ps scratch)
      (pays : (i : ℕ) (b : Bool) → i < n → penalty (get_or ps i [] ++ (b ∷ [])) ≡ least (kernel_code k) (lane_costs costs i) (row_symbols scratch r s i ++ (b ∷ [])))
      (pays-two : (i : ℕ) (b c : Bool) → i < n → penalty (get_or ps i [] ++ (b ∷ c ∷ [])) ≡ least (kernel_code k) (lane_costs costs i) (row_symbols scratch r s i ++ (b ∷ c ∷ []))) where
    are₁ : (i : ℕ) (b : Bool) → i < n → cell 0 m.one i b ≡ penalty (get_or ps i [] ++ (b ∷ []))
    are₁ i b l =
        let us = row_symbols scratch r s i ++ (b ∷ []) in
        let short : length (row_symbols scratch r s i) ≡ s = row-long (unpack (path_at i scratch).symbols) (16 * r) s (omega arith) (clean i l) in
        let few : length (row_symbols scratch r s i ++ (b ∷ [])) < 16 = omega (arith, length-append (row_symbols scratch r s i) (b ∷ []), short) in
        m.one-is i b (omega arith)
        ∙ ap₂ min (totals i b false l) (totals i b true l)
        ∙ sym (least_step (kernel_code k) (lane_costs costs (lane_of i b)) us few)
        ∙ path-total i b us l
        ∙ sym (pays i b l)

    abbrev qs : List (List Bool)
    qs = phase penalty L true ps

    count₁ : length qs ≡ min L (2 * n)
    count₁ = settled-count (16 * r + s) n (omega arith) ln m.one scratch clean L m.places m.between small₁ m.first ps penalty el long listed are₁

    at₁ : (j : ℕ) → j < min L (2 * n) → get_or qs j [] ≡ candidate ps (chosen m.first.pens j)
    at₁ = settled_at (16 * r + s) n (omega arith) ln m.one scratch clean L m.places m.between small₁ m.first ps penalty el long listed are₁

    long₁ : (j : ℕ) → j < min L (2 * n) → length (get_or qs j []) ≡ 16 * r + s + 1
    long₁ = settled-long (16 * r + s) n (omega arith) ln m.one scratch clean L m.places m.between small₁ m.first ps penalty el long listed are₁

    listed₁ : Listed qs m.between
    listed₁ = settled-listed (16 * r + s) n (omega arith) ln m.one scratch clean L m.places m.between small₁ m.first ps penalty el long listed are₁

    from₁ : (j : ℕ) → j < min L (2 * n) → take (16 * r + s) (get_or qs j []) ≡ get_or ps (chosen m.first.pens j / 2) []
    from₁ = settled-from (16 * r + s) n (omega arith) ln m.one scratch clean L m.places m.between small₁ m.first ps penalty el long listed are₁

    are₂ : (j : ℕ) (b : Bool) → j < min L (2 * n) → cell 0 m.two j b ≡ penalty (get_or qs j [] ++ (b ∷ []))
    are₂ j b l =
        let i = chosen m.first.pens j / 2 in
        let d = odd (chosen m.first.pens j) in
        let us = row_symbols scratch r s i in
        m.two_is j b l
        ∙ totals i d b (first-in j l)
        ∙ path-total i d ((us ++ (d ∷ [])) ++ (b ∷ [])) (first-in j l)
        ∙ ap (least (kernel_code k) (lane_costs costs i)) (append_assoc us (d ∷ []) (b ∷ []))
        ∙ sym (pays-two i d b (first-in j l))
        ∙ ap penalty (sym (append_assoc (get_or ps i []) (d ∷ []) (b ∷ [])))
        ∙ ap (λ (q : List Bool). penalty (q ++ (b ∷ []))) (sym (at₁ j l))

    two-list : (length (phase penalty L true qs) ≡ min L (2 * min L (2 * n))) × Listed (phase penalty L true qs) scratch' × Paid penalty (phase penalty L true qs) scratch'
        × ((j : ℕ) → j < min L (2 * min L (2 * n)) → take (16 * r + s) (get_or (phase penalty L true qs) j []) ≡ get_or ps (via j / 2) [])
    two-list = (
      settled-count (16 * r + s + 1) (min L (2 * n)) (omega arith) between-few m.two m.between clean₁ L m.places' scratch' small₂ m.second qs penalty count₁ long₁ listed₁ are₂,
      settled-listed (16 * r + s + 1) (min L (2 * n)) (omega arith) between-few m.two m.between clean₁ L m.places' scratch' small₂ m.second qs penalty count₁ long₁ listed₁ are₂,
      settled-paid (16 * r + s + 1) (min L (2 * n)) (omega arith) between-few m.two m.between clean₁ L m.places' scratch' small₂ m.second qs penalty count₁ long₁ listed₁ are₂,
      λ j l.
          sym (take-take (16 * r + s) (16 * r + s + 1) (get_or (phase penalty L true qs) j []) (omega arith))
          ∙ ap (take (16 * r + s)) (settled-from (16 * r + s + 1) (min L (2 * n)) (omega arith) between-few m.two m.between clean₁ L m.places' scratch' small₂ m.second qs penalty count₁ long₁ listed₁ are₂ j l)
          ∙ from₁ (chosen m.second.pens j / 2) (second-in j l),
    )

  -- Two marked phases are two steps of the list decoder, and the records have no symbol after them.
  pub two_steps : (count : ℕ) → count ≡ min L (2 * min L (2 * n)) → TwoSteps k r s L n scratch costs home count scratch' costs' rows' home' × Clean (16 * r + (s + 2)) count scratch'
  two_steps count e =
      let z : s + 1 + 1 ≡ s + 2 = omega arith in
      let w : 16 * r + s + 1 + 1 ≡ 16 * r + (s + 2) = omega arith in
      subst⁻¹ (λ count. TwoSteps k r s L n scratch costs home count scratch' costs' rows' home' × Clean (16 * r + (s + 2)) count scratch') e (
        record {
          from = λ j. via j / 2;
          from_in = from_in;
          some = omega arith;
          few = omega arith;
          lane-so = λ j t c l lt. lane-so j t c l lt ∙ ap (λ i. lane_costs costs i t c) (low j l);
          home-so = λ j l. home-so j l ∙ ap (λ i. get_or home i 0) (low j l);
          kept-so = λ j l. subst (λ n. KeptRow k costs' rows' scratch' r n j) z (kept j l);
          list-so = two-list;
        },
        subst (λ at. Clean at (min L (2 * min L (2 * n))) scratch') w (settled-clean (16 * r + s + 1) (min L (2 * n)) (omega arith) between-few m.two m.between clean₁ L m.places' scratch' small₂ m.second),
      )
