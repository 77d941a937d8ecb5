-- Decoding windows by a solution: the relations, with the window's places, can be solved for the v that they use. Assumes nothing.
use mathlib.Core.Path.{◌≡◌, refl, sym, ap, ap₂, ◌∙◌}
use mathlib.Core.Bool.{Bool, true, false, ◌&&◌, and-eq-true_iff}
use mathlib.Core.List.{List, [], ◌∷◌, ◌++◌, map, map-append}
use Prim.Native.Nat.{ℕ, zero, suc, ◌+◌, ◌≤◌, ◌<◌}
use native.Mathlib.Omega.{arith}
use borrow.Author.Tests.{ltb-true}
use lib.Dec.{ltb}
use lib.ListN.{length, get_or, take, drop, length-append, length-take, length-map, take-append-drop, get_or-append}
use lib.Seq.{take_at, drop_at}
use Rattle.base.specs.Bit.{◌⊕◌, bit}
use Rattle.base.proofs.Bool.{⊕-false}
use Rattle.polar.specs.Code.{Code, Costs, sum, total, minimum, least}
use Rattle.base.proofs.List.{same_bits}
use Rattle.polar.specs.Relation.{Relation, sum_of, symbols}
use Rattle.polar.specs.Window.{reach, height, read_at, IsWindow, path_of}
use Rattle.polar.proofs.Minima.{minimum-le, minimum-at, sum-cong}
use Rattle.polar.proofs.Least.{least-le, least_at}
use Rattle.polar.proofs.Relation.{within, all_within, length_symbols, Solves, solves_test, solves-by, solved-bit, solved-symbols}
use Rattle.polar.proofs.Pigeon.{pigeon}

-- The v at some places, as relations.
abbrev pub singles : List ℕ → List Relation
singles window = map (λ i. i ∷ []) window

-- What is computed of a window: the relations and the window's places fix the v that the relations use, and any choice of both is had by some v.
pub record Windowed (rs : List Relation) (window : List ℕ) (sol : List Relation) : Type 0 where
  pub solves : Solves (height rs) (rs ++ singles window) sol
  pub solved : Solves (height rs) sol (rs ++ singles window)

-- The computed test of that,
unfoldable pub window_test : List Relation → List ℕ → List Relation → Bool
window_test rs window sol =
    solves_test (height rs) (rs ++ singles window) sol && solves_test (height rs) sol (rs ++ singles window)

-- and what it shows.
pub windowed-by : (rs : List Relation) (window : List ℕ) (sol : List Relation) → window_test rs window sol ≡ true → Windowed rs window sol
unfolding window_test
windowed-by rs window sol t =
    let a = (and-eq-true_iff (solves_test (height rs) (rs ++ singles window) sol) _).0 t in
    record { solves = solves-by _ _ _ a.0; solved = solves-by _ _ _ a.1 }

-- The symbols of two lists of relations.
symbols-both : (rs qs : List Relation) (v : List Bool) → symbols (rs ++ qs) v ≡ symbols rs v ++ symbols qs v
unfolding symbols
symbols-both rs qs v = map-append (λ r. sum_of r v) rs qs

symbols-singles : (window : List ℕ) (v : List Bool) → symbols (singles window) v ≡ read_at window v
unfolding symbols sum_of read_at
symbols-singles [] v = refl
symbols-singles (i ∷ window) v = ap₂ (λ b (l : List Bool). b ∷ l) (⊕-false (bit v i)) (symbols-singles window v)

symbols-window : (rs : List Relation) (window : List ℕ) (v : List Bool) → symbols (rs ++ singles window) v ≡ symbols rs v ++ read_at window v
symbols-window rs window v = symbols-both rs (singles window) v ∙ ap (λ l. symbols rs v ++ l) (symbols-singles window v)

length-read : (window : List ℕ) (v : List Bool) → length (read_at window v) ≡ length window
unfolding read_at
length-read window v = length-map window (λ i. bit v i)

-- Two joined lists are the same only where their parts are, if the first parts are of one length.
split : (n : ℕ) (a b c d : List Bool) → length a ≡ n → length c ≡ n → a ++ b ≡ c ++ d → (a ≡ c) × (b ≡ d)
split n a b c d la lc e =
    (sym (take_at a b n la) ∙ ap (take n) e ∙ take_at c d n lc, sym (drop_at a b n la) ∙ ap (drop n) e ∙ drop_at c d n lc)

-- Places that are tested lie below n.
below : (n : ℕ) (rs : List Relation) (window : List ℕ) → all_within n (rs ++ singles window) ≡ true → (i : ℕ) → i < length window → get_or window i 0 < n
unfolding within all_within
below n (r ∷ rs) window t i l = below n rs window ((and-eq-true_iff (within n r) _).0 t).1 i l
below n [] [] t i l = absurd (omega arith)
below n [] (j ∷ window) t zero l =
    ltb-true j n ((and-eq-true_iff (ltb j n) true).0 ((and-eq-true_iff (within n (j ∷ [])) _).0 t).0).0
below n [] (j ∷ window) t (suc i) l = below n [] window ((and-eq-true_iff (within n (j ∷ [])) _).0 t).1 i (omega arith)

module _ (rs : List Relation) (window : List ℕ) (sol : List Relation) (k : Windowed rs window sol) where
  -- There are as many symbols and places of the window as v.
  window-count : length rs + length window ≡ height rs
  window-count = ap (λ n. length rs + n) (sym (length-map window (λ i. i ∷ []))) ∙ sym (length-append rs (singles window)) ∙ k.solves.count

  -- Places with a solution are a decoding window.
  pub is-window : IsWindow rs window
  is-window = record {
    inside = below (height rs) rs window k.solves.bounded;
    fixes = λ v w a b i l.
        sym (solved-bit (height rs) (rs ++ singles window) sol k.solves v i l)
        ∙ ap (λ u. bit (symbols sol u) i) (symbols-window rs window v ∙ ap₂ ◌++◌ b a ∙ sym (symbols-window rs window w))
        ∙ solved-bit (height rs) (rs ++ singles window) sol k.solves w i l;
    smallest = λ set fix.
        let one : height rs ≤ length rs + length set =
        pigeon (height rs) (length rs + length set) (λ v. symbols rs v ++ read_at set v)
        (λ v e. length-append (symbols rs v) (read_at set v) ∙ ap₂ ◌+◌ (length_symbols rs v) (length-read set v))
        (λ v w ev ew e.
        let h = split (length rs) (symbols rs v) (read_at set v) (symbols rs w) (read_at set w) (length_symbols rs v) (length_symbols rs w) e in
        same_bits (height rs) v w ev ew (fix v w h.1 h.0)) in
        omega (arith, window-count);
  }

  -- A path has every v that the relations use.
  pub path-length : (us x : List Bool) → length (path_of sol us x) ≡ height rs
  path-length us x = length_symbols sol (us ++ x) ∙ k.solves.solutions

  path-both : (us x : List Bool) → length us ≡ length rs → length x ≡ length window
      → (symbols rs (path_of sol us x) ≡ us) × (read_at window (path_of sol us x) ≡ x)
  path-both us x lu lx =
      split (length rs) (symbols rs (path_of sol us x)) (read_at window (path_of sol us x)) us x (length_symbols rs _) lu
      (sym (symbols-window rs window (path_of sol us x))
      ∙ solved-symbols (height rs) sol (rs ++ singles window) k.solved (us ++ x) (length-append us x ∙ ap₂ ◌+◌ lu lx ∙ window-count))

  -- It has its symbols,
  pub path-symbols : (us x : List Bool) → length us ≡ length rs → length x ≡ length window → symbols rs (path_of sol us x) ≡ us
  path-symbols us x lu lx = (path-both us x lu lx).0

  -- and every list with these symbols is the path of its bits at the window's places.
  pub path-read : (us q : List Bool) → length q ≡ height rs → symbols rs q ≡ us → path_of sol us (read_at window q) ≡ q
  path-read us q lq e =
      ap (symbols sol) (ap (λ u. u ++ read_at window q) (sym e) ∙ sym (symbols-window rs window q))
      ∙ solved-symbols (height rs) (rs ++ singles window) sol k.solves q lq

sum-append : (r : Relation) (q t : List Bool) → reach r ≤ length q → sum_of r (q ++ t) ≡ sum_of r q
unfolding sum_of reach
sum-append [] q t h = refl
sum-append (i ∷ r) q t h = ap₂ ◌⊕◌ (get_or-append q t false i (omega arith)) (sum-append r q t (omega arith))

-- The symbols do not depend on the v beyond those that the relations use.
pub symbols-append : (rs : List Relation) (q t : List Bool) → height rs ≤ length q → symbols rs (q ++ t) ≡ symbols rs q
unfolding symbols height
symbols-append [] q t h = refl
symbols-append (r ∷ rs) q t h = ap₂ (λ b (l : List Bool). b ∷ l) (sum-append r q t (omega arith)) (symbols-append rs q t (omega arith))

-- Fewer relations reach no further.
pub height-take : (i : ℕ) (rs : List Relation) → height (take i rs) ≤ height rs
unfolding height
height-take zero rs = omega arith
height-take (suc i) [] = omega arith
height-take (suc i) (r ∷ rs) = omega (arith, height-take i rs)

-- Where more relations reach no further, each of their paths is a path of the first ones, by its bits at the places of that window.
pub path-again : (rs ts : List Relation) (window window' : List ℕ) (sol sol' : List Relation)
    → Windowed rs window sol → Windowed (rs ++ ts) window' sol' → height (rs ++ ts) ≡ height rs
    → (us t x : List Bool) → length us ≡ length rs → length t ≡ length ts → length x ≡ length window'
    → path_of sol us (read_at window (path_of sol' (us ++ t) x)) ≡ path_of sol' (us ++ t) x
path-again rs ts window window' sol sol' k k' same us t x lu lt lx =
    let q = path_of sol' (us ++ t) x in
    let l : length (us ++ t) ≡ length (rs ++ ts) = length-append us t ∙ ap₂ ◌+◌ lu lt ∙ sym (length-append rs ts) in
    let e : symbols rs q ++ symbols ts q ≡ us ++ t = sym (symbols-both rs ts q) ∙ path-symbols (rs ++ ts) window' sol' k' (us ++ t) x l lx in
    path-read rs window sol k us q (path-length (rs ++ ts) window' sol' k' (us ++ t) x ∙ same)
    (split (length rs) (symbols rs q) (symbols ts q) us t (length_symbols rs q) lu e).0

-- C makes of the symbols of v what D makes of v.
module _ (C D : Code) (n : ℕ) (rs : List Relation) (size_c : C.size ≡ n) (size_d : D.size ≡ n) (places : C.places ≡ D.places)
    (count : length rs ≡ n)
    (words : (v : List Bool) → length v ≡ n → (j : ℕ) → j < D.places → C.word (symbols rs v) j ≡ D.word v j)
    (onto : (u : List Bool) → length u ≡ n → (v : List Bool) × (length v ≡ n) × (symbols rs v ≡ u))
    (fits : height rs ≤ n) (m : Costs) (i : ℕ) (few : i ≤ n) where
  same_total : (v : List Bool) → length v ≡ n → total C m (symbols rs v) ≡ total D m v
  unfolding total
  same_total v e = ap (λ k. sum k (λ j. m j (C.word (symbols rs v) j))) places ∙ sum-cong D.places (λ j l. ap (m j) (words v e j l))

  low : height (take i rs) ≤ n
  low = omega (arith, height-take i rs)

  length-first : length (take i rs) ≡ i
  length-first = length-take i rs ∙ omega arith

  symbols-split : (v : List Bool) → symbols (take i rs) v ++ symbols (drop i rs) v ≡ symbols rs v
  symbols-split v = sym (symbols-both (take i rs) (drop i rs) v) ∙ ap (λ qs. symbols qs v) (take-append-drop i rs)

  -- No v that begins with q, which has the symbols us, pays less than the least after us,
  least-below : (us q : List Bool) → length q ≡ height (take i rs) → symbols (take i rs) q ≡ us → least C m us ≤ least D m q
  least-below us q lq e =
      let a = least_at D m q (omega (arith, low)) in
      let v = q ++ a.0 in
      let es : us ++ symbols (drop i rs) v ≡ symbols rs v =
      ap (λ u. u ++ symbols (drop i rs) v) (sym e ∙ sym (symbols-append (take i rs) q a.0 (omega arith))) ∙ symbols-split v in
      let lv : length (us ++ symbols (drop i rs) v) ≡ C.size = ap length es ∙ length_symbols rs v ∙ omega arith in
      let le : least C m us ≤ total C m (us ++ symbols (drop i rs) v) = least-le C m us (symbols (drop i rs) v) lv in
      omega (arith, ap (total C m) es, same_total v (a.1 ∙ size_d), a.2)

  -- and for some q one of them pays no more.
  least-path : (us : List Bool) → length us ≡ i
      → (q : List Bool) × (length q ≡ height (take i rs)) × (symbols (take i rs) q ≡ us) × (least D m q ≤ least C m us)
  least-path us lu =
      let a = least_at C m us (omega arith) in
      let o = onto (us ++ a.0) (a.1 ∙ size_c) in
      let h = height (take i rs) in
      let q = take h o.0 in
      let t = drop h o.0 in
      let vt : q ++ t ≡ o.0 = take-append-drop h o.0 in
      let lq : length q ≡ h = length-take h o.0 ∙ omega (arith, low, o.1) in
      let e : symbols (take i rs) o.0 ≡ us =
      (split i (symbols (take i rs) o.0) (symbols (drop i rs) o.0) us a.0
      (length_symbols (take i rs) o.0 ∙ length-first) lu (symbols-split o.0 ∙ o.2)).0 in
      let le : least D m q ≤ total D m (q ++ t) = least-le D m q t (ap length vt ∙ o.1 ∙ sym size_d) in (
        q,
        lq,
        sym (symbols-append (take i rs) q t (omega arith)) ∙ ap (symbols (take i rs)) vt ∙ e,
        omega (arith, ap (total D m) vt, same_total o.0 o.1, ap (total C m) o.2, a.2),
      )

  -- The least after the symbols us is the least over the bits at the window's places of the least after their path.
  pub window-least : (window : List ℕ) (sol : List Relation) → Windowed (take i rs) window sol → (us : List Bool) → length us ≡ i
      → least C m us ≡ minimum (length window) (λ x. least D m (path_of sol us x))
  window-least window sol k us lu =
      let f : List Bool → ℕ = λ x. least D m (path_of sol us x) in
      let a = minimum-at (length window) f in
      let p = least-path us lu in
      let x = read_at window p.0 in
      let up : least C m us ≤ f a.0 =
      least-below us (path_of sol us a.0) (path-length (take i rs) window sol k us a.0)
      (path-symbols (take i rs) window sol k us a.0 (lu ∙ sym length-first) a.1) in
      let down : f x ≤ least C m us = rw (path-read (take i rs) window sol k us p.0 p.1 p.2) p.3 in
      omega (arith, a.2, minimum-le x f, ap (λ n. minimum n f) (length-read window p.0))
