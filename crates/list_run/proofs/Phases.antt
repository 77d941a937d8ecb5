-- One phase more of a row, stepped or not. Assumes nothing.
use mathlib.Core.Path.{◌≡◌, refl, sym, ap, ap₂, ◌∙◌, subst, subst⁻¹}
use mathlib.Core.Bool.{Bool, true, false, false≢true}
use mathlib.Core.Logic.{inl, inr}
use mathlib.Core.List.{List, [], ◌∷◌, ◌++◌, append_assoc, map}
use Prim.Native.Nat.{ℕ, zero, suc, ◌+◌, ◌-◌, ◌*◌, ◌≤◌, ◌<◌}
use native.Mathlib.Numerals.{add-one}
use native.Mathlib.Omega.{arith}
use lib.ListN.{length, get_or, take, drop, replicate, length-append, length-map, length-drop, length-take, length-replicate}
use lib.Seq.{take_all, take-append-le, take-append-add, take-append_seam, drop-append-le, length-take-le, take-take}
use Rattle.bits.specs.Packed.{unpack}
use Rattle.polar.specs.Code.{least}
use Rattle.polar.proofs.Least.{least-cong}
use Rattle.folds.specs.Rows.{select}
use Rattle.kernel.specs.Kernels.{kernel_code}
use Rattle.lane.specs.Lanes.{lane_costs}
use Rattle.list.specs.Paths.{phase}
use Rattle.list.proofs.Sort.{all-at}
use Rattle.list.proofs.Paths.{phase-long}
use Rattle.path.specs.Path.{HasSymbols, path_at}
use Rattle.list_step.specs.Step.{Listed, row_symbols, Lanes, PhaseStep, TwoSteps}
use Rattle.list_step.specs.Marked.{Clean}
use Rattle.list_run.specs.Run.{advance, Prices, Long, RowList, InRow, Turned, Advanced, RowDone}

-- A list in two parts.
pub two-parts : (n : ℕ) (l : List Bool) → take n l ++ drop n l ≡ l
two-parts zero l = refl
two-parts (suc n) [] = refl
two-parts (suc n) (x ∷ l) = ap (λ (t : List Bool). x ∷ t) (two-parts n l)

-- The symbols of a row in a record that has the path p.
pub row-symbols : (scratch : List ℕ) (r s i : ℕ) (p : List Bool) → HasSymbols p (path_at i scratch) → length p ≡ 16 * r + s → row_symbols scratch r s i ≡ drop (16 * r) p
row-symbols scratch r s i p h e =
    let zeros : List Bool = replicate (256 - length p) false in
    let d : length (drop (16 * r) p) ≡ s = length-drop (16 * r) p ∙ omega arith in
    ap (λ (l : List Bool). take s (drop (16 * r) l)) h
    ∙ ap (take s) (drop-append-le (16 * r) p zeros (omega arith))
    ∙ ap (λ n. take n (drop (16 * r) p ++ zeros)) (sym d)
    ∙ take-append_seam (drop (16 * r) p) zeros

-- One more symbol 0 is there already.
pub more-zero : (p : List Bool) (i : ℕ) (scratch : List ℕ) → length p < 256 → HasSymbols p (path_at i scratch) → HasSymbols (p ++ (false ∷ [])) (path_at i scratch)
more-zero p i scratch l h =
    let e : 256 - length p ≡ suc (256 - length (p ++ (false ∷ []))) = omega (arith, length-append p (false ∷ [])) in
    h ∙ ap (λ n. p ++ replicate n false) e ∙ sym (append_assoc p (false ∷ []) (replicate (256 - length (p ++ (false ∷ []))) false))

-- Records with no symbol from phase n on have none from the next one on,
pub clean-more : (at n : ℕ) (scratch : List ℕ) → at < 256 → Clean at n scratch → Clean (suc at) n scratch
clean-more at n scratch l c i li =
    let full = unpack (path_at i scratch).symbols in
    let p : List Bool = take at full in
    let h = c i li in
    let zeros : List Bool = replicate (256 - length p) false in
    let lf : length full ≡ length p + (256 - length p) = ap length h ∙ length-append p zeros ∙ ap (λ n. length p + n) (length-replicate (256 - length p) false) in
    let lp : length p ≡ at = length-take-le at full (omega (arith, length-take at full)) in
    let e : 256 - length p ≡ suc (255 - at) = omega arith in
    let one : take (suc at) full ≡ p ++ (false ∷ []) =
    ap (take (suc at)) (h ∙ ap (λ n. p ++ replicate n false) e)
    ∙ ap (λ n. take n (p ++ (false ∷ replicate (255 - at) false))) (let z : suc at ≡ length p + 1 = omega arith in z)
    ∙ take-append-add p (false ∷ replicate (255 - at) false) 1 in
    subst⁻¹ (λ q. HasSymbols q (path_at i scratch)) one (more-zero p i scratch (omega arith) h)

-- and records of a list have none from its length on.
pub listed-clean : (at : ℕ) (ps : List (List Bool)) (scratch : List ℕ) → Long at ps → Listed ps scratch → Clean at (length ps) scratch
listed-clean at ps scratch long listed i l =
    let p = get_or ps i [] in
    let e : length p ≡ at = all-at (λ p. length p ≡ at) ps i [] l long in
    let t : take at (unpack (path_at i scratch).symbols) ≡ p =
    ap (take at) (listed i l) ∙ ap (λ n. take n (p ++ replicate (256 - length p) false)) (sym e) ∙ take-append_seam p (replicate (256 - length p) false) in
    subst⁻¹ (λ q. HasSymbols q (path_at i scratch)) t (listed i l)

module _ (k r L : ℕ) (mark : ℕ → Bool) (n : ℕ) (scratch₀ : List ℕ) (costs₀ : List (List (List ℕ)))
    (s count : ℕ) (stepped : Bool) (scratch : List ℕ) (costs halves rows : List (List (List ℕ))) (home : List ℕ)
    (lr : r < 16) (ls : s < 16) (g : InRow k r L mark n scratch₀ costs₀ s count stepped scratch costs halves rows home) where
  module _ (ps : List (List Bool)) (penalty : List Bool → ℕ) (e : length ps ≡ n) (long : Long (16 * r) ps) (listed : Listed ps scratch₀) (prices : Prices k penalty costs₀ ps) where
    abbrev qs : List (List Bool)
    qs = advance penalty L mark s ps

    now : RowList penalty r s ps qs count scratch home
    now = g.list-so ps penalty e long listed prices

    long-at : (i : ℕ) → i < length qs → length (get_or qs i []) ≡ 16 * r + s
    long-at i l = all-at (λ p. length p ≡ 16 * r + s) qs i [] l now.long

    -- The penalties of the paths with symbols more are the inner kernel's least totals in their lanes.
    priced : (i : ℕ) (p : List Bool) → i < count → s + length p ≤ 16 → penalty (get_or qs i [] ++ p) ≡ least (kernel_code k) (lane_costs costs i) (row_symbols scratch r s i ++ p)
    priced i p l lp =
        let q = get_or qs i [] in
        let li : i < length qs = omega (arith, now.count-is) in
        let h = get_or home i 0 in
        let t : List Bool = drop (16 * r) q in
        let lt : length (t ++ p) ≤ 16 = omega (arith, length-append t p, length-drop (16 * r) q, long-at i li) in
        let whole : q ≡ get_or ps h [] ++ t = sym (two-parts (16 * r) q) ∙ ap (λ (x : List Bool). x ++ t) (now.begun i l) in
        ap (λ (x : List Bool). penalty (x ++ p)) whole
        ∙ ap penalty (append_assoc (get_or ps h []) t p)
        ∙ prices h (t ++ p) (omega (arith, g.home-in i l)) lt
        ∙ least-cong (kernel_code k) (λ j lj c. sym (g.lane-so i j c l lj)) (t ++ p)
        ∙ ap (λ (x : List Bool). least (kernel_code k) (lane_costs costs i) (x ++ p)) (sym (row-symbols scratch r s i q (now.listed i li) (long-at i li)))

    more : 16 * r + (s + 1) ≡ suc (16 * r + s)
    more = omega arith

    -- The paths with this phase.
    next-is : advance penalty L mark (s + 1) ps ≡ phase penalty L (mark s) qs
    unfolding advance
    next-is = ap (λ n. advance penalty L mark n ps) (add-one s)

    next-long : Long (16 * r + (s + 1)) (phase penalty L (mark s) qs)
    next-long = subst (λ n. Long n (phase penalty L (mark s) qs)) (sym more) (phase-long penalty L (16 * r + s) (mark s) qs now.long)

    -- A phase that is stepped.
    module _ (count' : ℕ) (scratch' : List ℕ) (costs' rows' : List (List (List ℕ))) (home' : List ℕ)
        (h : PhaseStep k r s L (mark s) count scratch costs home count' scratch' costs' rows' home') where
      pub stepped-list : RowList penalty r (s + 1) ps (advance penalty L mark (s + 1) ps) count' scratch' home'
      stepped-list =
          let x = h.list-so qs penalty now.count-is (λ i l. long-at i (omega (arith, now.count-is))) now.listed (λ i b l. priced i (b ∷ []) l (omega arith)) in
          subst (λ (l : List (List Bool)). RowList penalty r (s + 1) ps l count' scratch' home') (sym next-is)
          record {
            count-is = x.0;
            listed = x.1;
            long = next-long;
            begun = λ j l.
                let f = h.from j in
                let q = get_or (phase penalty L (mark s) qs) j [] in
                sym (take-take (16 * r) (16 * r + s) q (omega arith))
                ∙ ap (take (16 * r)) (x.3 j l)
                ∙ now.begun f (h.from_in j l)
                ∙ ap (λ n. get_or ps n []) (sym (h.home-so j l));
            paid = λ _. x.2;
          }

    -- Two phases at once.
    module _ (count' : ℕ) (scratch' : List ℕ) (costs' rows' : List (List (List ℕ))) (home' : List ℕ) (early : s < 15) (here : mark s ≡ true) (next : mark (s + 1) ≡ true)
        (h : TwoSteps k r s L count scratch costs home count' scratch' costs' rows' home') where
      abbrev twice : List (List Bool)
      twice = phase penalty L true (phase penalty L true qs)

      twice-is : advance penalty L mark (s + 2) ps ≡ twice
      unfolding advance
      twice-is =
          let z : s + 2 ≡ suc (suc s) = omega arith in
          ap (λ n. advance penalty L mark n ps) z
          ∙ ap₂ (λ a b. phase penalty L a (phase penalty L b qs)) (ap mark (sym (add-one s)) ∙ next) here

      twice-long : Long (16 * r + (s + 2)) twice
      twice-long =
          let z : suc (suc (16 * r + s)) ≡ 16 * r + (s + 2) = omega arith in
          subst (λ n. Long n twice) z (phase-long penalty L (suc (16 * r + s)) true (phase penalty L true qs) (phase-long penalty L (16 * r + s) true qs now.long))

      pub twice-list : RowList penalty r (s + 2) ps (advance penalty L mark (s + 2) ps) count' scratch' home'
      twice-list =
          let x = h.list-so qs penalty now.count-is (λ i l. long-at i (omega (arith, now.count-is))) now.listed (λ i b l. priced i (b ∷ []) l (omega arith)) (λ i b c l. priced i (b ∷ c ∷ []) l (omega arith)) in
          subst (λ (l : List (List Bool)). RowList penalty r (s + 2) ps l count' scratch' home') (sym twice-is)
          record {
            count-is = x.0;
            listed = x.1;
            long = twice-long;
            begun = λ j l.
                let f = h.from j in
                let q = get_or twice j [] in
                sym (take-take (16 * r) (16 * r + s) q (omega arith))
                ∙ ap (take (16 * r)) (x.3 j l)
                ∙ now.begun f (h.from_in j l)
                ∙ ap (λ n. get_or ps n []) (sym (h.home-so j l));
            paid = λ _. x.2;
          }

    -- An unmarked phase that is not.
    module _ (unmarked : mark s ≡ false) (early : s < 15) where
      stay : phase penalty L (mark s) qs ≡ map (λ p. p ++ (false ∷ [])) qs
      unfolding phase
      stay = ap (λ b. phase penalty L b qs) unmarked

      stay-at : (i : ℕ) → i < length qs → get_or (map (λ p. p ++ (false ∷ [])) qs) i [] ≡ get_or qs i [] ++ (false ∷ [])
      stay-at i l = go qs i l
        where
          go : (qs : List (List Bool)) (i : ℕ) → i < length qs → get_or (map (λ p. p ++ (false ∷ [])) qs) i [] ≡ get_or qs i [] ++ (false ∷ [])
          go [] i l = absurd (omega arith)
          go (q ∷ qs) zero l = refl
          go (q ∷ qs) (suc i) l = go qs i (omega arith)

      pub skipped-list : RowList penalty r (s + 1) ps (advance penalty L mark (s + 1) ps) count scratch home
      skipped-list =
          let zs : List (List Bool) = map (λ p. p ++ (false ∷ [])) qs in
          let n : length zs ≡ length qs = length-map qs _ in
          subst (λ (l : List (List Bool)). RowList penalty r (s + 1) ps l count scratch home) (sym (next-is ∙ stay))
          record {
            count-is = n ∙ now.count-is;
            listed = λ i l.
                let li : i < length qs = omega arith in
                subst (λ q. HasSymbols q (path_at i scratch)) (sym (stay-at i li)) (more-zero (get_or qs i []) i scratch (omega (arith, long-at i li)) (now.listed i li));
            long = subst (Long (16 * r + (s + 1))) stay next-long;
            begun = λ i l.
                let li : i < length qs = omega (arith, now.count-is) in
                ap (take (16 * r)) (stay-at i li)
                ∙ take-append-le (16 * r) (get_or qs i []) (false ∷ []) (omega (arith, long-at i li))
                ∙ now.begun i l;
            paid = λ e. absurd (omega arith);
          }

  -- One phase more: stepped,
  pub turn-stepped : (count' : ℕ) (scratch' : List ℕ) (costs' halves' rows' : List (List (List ℕ))) (home' : List ℕ)
      → length scratch' ≡ length scratch → drop 4096 scratch' ≡ drop 4096 scratch → Lanes costs' halves' rows' → length home' ≡ 8
      → Clean (16 * r + (s + 1)) count' scratch' → PhaseStep k r s L (mark s) count scratch costs home count' scratch' costs' rows' home'
      → InRow k r L mark n scratch₀ costs₀ (s + 1) count' (mark s) scratch' costs' halves' rows' home'
  turn-stepped count' scratch' costs' halves' rows' home' room rest lanes home-room clean h = record {
    within = omega arith;
    some = h.some;
    few = h.few;
    room = room ∙ g.room;
    rest = rest ∙ g.rest;
    lanes = lanes;
    clean = clean;
    home-room = home-room;
    home-in = λ j l. rw (h.home-so j l) (g.home-in (h.from j) (h.from_in j l));
    lane-so = λ j t c l lt. h.lane-so j t c l lt ∙ g.lane-so (h.from j) t c (h.from_in j l) lt ∙ ap (λ i. lane_costs costs₀ i t c) (sym (h.home-so j l));
    stepped-so = λ m. (omega arith, h.kept-so m);
    list-so = λ ps penalty e long listed prices. stepped-list ps penalty e long listed prices count' scratch' costs' rows' home' h;
  }

  -- two of them at once,
  pub turn_twice : (count' : ℕ) (scratch' : List ℕ) (costs' halves' rows' : List (List (List ℕ))) (home' : List ℕ) → s < 15 → mark s ≡ true → mark (s + 1) ≡ true
      → Lanes costs' halves' rows' → length home' ≡ 8 → length scratch' ≡ length scratch → drop 4096 scratch' ≡ drop 4096 scratch
      → Clean (16 * r + (s + 2)) count' scratch' → TwoSteps k r s L count scratch costs home count' scratch' costs' rows' home'
      → InRow k r L mark n scratch₀ costs₀ (s + 2) count' true scratch' costs' halves' rows' home'
  turn_twice count' scratch' costs' halves' rows' home' early here next lanes home-room room rest clean h = record {
    within = omega arith;
    some = h.some;
    few = h.few;
    room = room ∙ g.room;
    rest = rest ∙ g.rest;
    lanes = lanes;
    clean = clean;
    home-room = home-room;
    home-in = λ j l. rw (h.home-so j l) (g.home-in (h.from j) (h.from_in j l));
    lane-so = λ j t c l lt. h.lane-so j t c l lt ∙ g.lane-so (h.from j) t c (h.from_in j l) lt ∙ ap (λ i. lane_costs costs₀ i t c) (sym (h.home-so j l));
    stepped-so = λ m. (omega arith, h.kept-so);
    list-so = λ ps penalty e long listed prices. twice-list ps penalty e long listed prices count' scratch' costs' rows' home' early here next h;
  }

  -- or not, where it is unmarked and not the last one.
  pub turn-skipped : mark s ≡ false → s < 15 → InRow k r L mark n scratch₀ costs₀ (s + 1) count (mark s) scratch costs halves rows home
  turn-skipped unmarked early = record {
    within = omega arith;
    some = g.some;
    few = g.few;
    room = g.room;
    rest = g.rest;
    lanes = g.lanes;
    clean = subst (λ n. Clean n count scratch) (let z : suc (16 * r + s) ≡ 16 * r + (s + 1) = omega arith in z) (clean-more (16 * r + s) count scratch (omega arith) g.clean);
    home-room = g.home-room;
    home-in = g.home-in;
    lane-so = g.lane-so;
    stepped-so = λ m. absurd (false≢true (sym unmarked ∙ m));
    list-so = λ ps penalty e long listed prices. skipped-list ps penalty e long listed prices unmarked early;
  }

  -- Either way.
  pub turn : (marked : Bool) (count' : ℕ) (scratch' : List ℕ) (costs' halves' rows' : List (List (List ℕ))) (home' : List ℕ) → marked ≡ mark s
      → Lanes costs' halves' rows' → length home' ≡ 8 → length scratch' ≡ length scratch → drop 4096 scratch' ≡ drop 4096 scratch
      → Clean (16 * r + (s + 1)) count' scratch' → Turned k r s L marked count scratch costs halves rows home count' scratch' costs' halves' rows' home'
      → InRow k r L mark n scratch₀ costs₀ (s + 1) count' marked scratch' costs' halves' rows' home'
  turn marked count' scratch' costs' halves' rows' home' e lanes home-room room rest clean (inl h) =
      subst (λ b. InRow k r L mark n scratch₀ costs₀ (s + 1) count' b scratch' costs' halves' rows' home') (sym e)
      (turn-stepped count' scratch' costs' halves' rows' home' room rest lanes home-room clean
      (subst (λ b. PhaseStep k r s L b count scratch costs home count' scratch' costs' rows' home') e h))
  turn marked count' scratch' costs' halves' rows' home' e lanes home-room room rest clean (inr (u, l, e0, e1, e2, e3, e4, e5)) =
      rw (e, e0, e1, e2, e3, e4, e5) (turn-skipped (sym e ∙ u) l)

  -- One phase or a pair.
  pub turn-any : (marked pair : Bool) (count' : ℕ) (scratch' : List ℕ) (costs' halves' rows' : List (List (List ℕ))) (home' : List ℕ) → marked ≡ mark s
      → (pair ≡ true → (s < 15) × (mark s ≡ true) × (mark (s + 1) ≡ true))
      → Lanes costs' halves' rows' → length home' ≡ 8 → length scratch' ≡ length scratch → drop 4096 scratch' ≡ drop 4096 scratch
      → Clean (16 * r + (s + select 1 2 pair)) count' scratch' → Advanced k r s L marked pair count scratch costs halves rows home count' scratch' costs' halves' rows' home'
      → InRow k r L mark n scratch₀ costs₀ (s + select 1 2 pair) count' marked scratch' costs' halves' rows' home'
  turn-any marked true count' scratch' costs' halves' rows' home' e p lanes home-room room rest clean h =
      let q = p refl in
      subst⁻¹ (λ b. InRow k r L mark n scratch₀ costs₀ (s + 2) count' b scratch' costs' halves' rows' home') (e ∙ q.1)
      (turn_twice count' scratch' costs' halves' rows' home' q.0 q.1 q.2 lanes home-room room rest clean (h.0 refl))
  turn-any marked false count' scratch' costs' halves' rows' home' e p lanes home-room room rest clean h =
      turn marked count' scratch' costs' halves' rows' home' e lanes home-room room rest clean (h.1 refl)

-- After the last phase.
pub row_done : (k r L : ℕ) (mark : ℕ → Bool) (n : ℕ) (scratch₀ : List ℕ) (costs₀ : List (List (List ℕ)))
    (s count : ℕ) (stepped : Bool) (scratch : List ℕ) (costs halves rows : List (List (List ℕ))) (home : List ℕ)
    → s ≡ 16 → InRow k r L mark n scratch₀ costs₀ s count stepped scratch costs halves rows home → RowDone k r L mark n scratch₀ costs₀ count scratch home
row_done k r L mark n scratch₀ costs₀ s count stepped scratch costs halves rows home e g = record {
  some = g.some;
  few = g.few;
  room = g.room;
  rest = g.rest;
  home-room = g.home-room;
  home-in = g.home-in;
  list-so = λ ps penalty e' long listed prices.
      subst (λ s. RowList penalty r s ps (advance penalty L mark s ps) count scratch home) e (g.list-so ps penalty e' long listed prices);
}

-- Before the first phase: every path is its own home.
pub row-begins : (k r L : ℕ) (mark : ℕ → Bool) (n : ℕ) (scratch : List ℕ) (costs halves rows : List (List (List ℕ))) (home : List ℕ)
    → 1 ≤ n → n ≤ 8 → Lanes costs halves rows → length home ≡ 8 → ((i : ℕ) → i < 8 → get_or home i 0 ≡ i) → Clean (16 * r) n scratch
    → InRow k r L mark n scratch costs 0 n false scratch costs halves rows home
unfolding advance
row-begins k r L mark n scratch costs halves rows home some few lanes home-room own clean = record {
  within = omega arith;
  some = some;
  few = few;
  room = refl;
  rest = refl;
  lanes = lanes;
  clean = subst (λ k. Clean k n scratch) (let z : 16 * r ≡ 16 * r + 0 = omega arith in z) clean;
  home-room = home-room;
  home-in = λ i l. rw (own i (omega arith)) l;
  lane-so = λ i t c l lt. ap (λ j. lane_costs costs j t c) (sym (own i (omega arith)));
  stepped-so = λ m. absurd (false≢true m);
  list-so = λ ps penalty e long listed prices. begins ps penalty e long listed;
}
  where
    begins : (ps : List (List Bool)) (penalty : List Bool → ℕ) → length ps ≡ n → Long (16 * r) ps → Listed ps scratch → RowList penalty r 0 ps (advance penalty L mark 0 ps) n scratch home
    begins ps penalty e long listed = record {
      count-is = e;
      listed = listed;
      long = subst (λ n. Long n ps) (let z : 16 * r ≡ 16 * r + 0 = omega arith in z) long;
      begun = λ i l.
          let x : length (get_or ps i []) ≡ 16 * r = all-at (λ p. length p ≡ 16 * r) ps i [] (omega arith) long in
          take_all (16 * r) (get_or ps i []) (omega arith) ∙ ap (λ j. get_or ps j []) (sym (own i (omega arith)));
      paid = λ z. absurd (omega arith);
    }
