-- The symbols of a row in records and in planes, and rows that another lane takes over. Assumes nothing.
use mathlib.Core.Path.{◌≡◌, refl, sym, ap, subst, subst⁻¹, ◌∙◌}
use mathlib.Core.Bool.{Bool, true, false}
use mathlib.Core.List.{List, [], ◌∷◌, ◌++◌}
use Prim.Native.Nat.{ℕ, suc, ◌+◌, ◌-◌, ◌^◌, ◌≤◌, ◌<◌}
use native.Mathlib.Nat.{lt_of_lt_of_le}
use native.Mathlib.Decide.{dec_le}
use native.Mathlib.Omega.{arith}
use lib.IntN.{ℤ, pos, neg_ℤ}
use lib.ListN.{length, take, drop, get_or, replicate, length-append, length-take, length-drop, length-replicate, get_or-eq_default}
use lib.Seq.{take_at, drop-append-le, get_or-take, get_or_at}
use Rattle.base.specs.Bit.{bit}
use Rattle.base.proofs.List.{length-tabulate, tabulate-at, same_bits}
use Rattle.bits.specs.Packed.{bits}
use Rattle.bits.proofs.Packed.{length-bits}
use Rattle.polar.specs.Code.{Costs, least}
use Rattle.polar.specs.Kernel.{arikan, matrix}
use Rattle.polar.specs.Window.{path_of}
use Rattle.polar.proofs.Least.{least-cong, least-bound}
use Rattle.folds.specs.Rows.{row_of, cell}
use Rattle.kernel.specs.Kernels.{kernel_code}
use Rattle.windows.specs.Windows.{window, solution}
use Rattle.windows.specs.Tables.{shape_at}
use Rattle.windows.specs.Paths.{width, Kept, Held}
use Rattle.windows.proofs.Tables.{shaped}
use Rattle.windows.proofs.Words.{pow-le}
use Rattle.lane.specs.Lanes.{lane_bit, lane_costs, LanesWithin}
use Rattle.lane_phases.specs.Rows.{column, score_rows, KeptLane}
use Rattle.lane_phases.proofs.Phases.{score-cell}

-- ---- the symbols of a row

-- Planes that have the bits of a lane's word have in that lane the first symbols of which the word is made.
pub column-is : (planes : List ℕ) (w l s : ℕ) (u : List Bool) → s ≤ 16 → bits 16 w ≡ take 16 u
    → ((t : ℕ) → t < 16 → lane_bit (get_or planes t 0) l ≡ bit (bits 16 w) t) → column planes s l ≡ take s u
column-is planes w l s u ls e h =
    let n : length (take 16 u) ≡ 16 = sym (ap (λ (v : List Bool). length v) e) ∙ length-bits 16 w in
    let m : length (take s u) ≡ s = omega (arith, length-take s u, length-take 16 u) in
    same_bits s (column planes s l) (take s u) (length-tabulate s (λ t. lane_bit (get_or planes t 0) l)) m
    (λ i li. tabulate-at s (λ t. lane_bit (get_or planes t 0) l) i false li
    ∙ h i (omega arith)
    ∙ ap (λ (v : List Bool). bit v i) e
    ∙ get_or-take 16 u i false (omega arith)
    ∙ sym (get_or-take s u i false li))

-- A record with the symbols p and no others.
abbrev Zeroed : List Bool → List Bool
Zeroed p = p ++ replicate (256 - length p) false

-- One symbol more in a record is one more in its row.
pub row_next : (u v p : List Bool) (b : Bool) (a s : ℕ) → length p ≡ a + s → u ≡ Zeroed p → v ≡ Zeroed (p ++ (b ∷ []))
    → take (s + 1) (drop a v) ≡ take s (drop a u) ++ (b ∷ [])
row_next u v p b a s l eu ev =
    let z = replicate (256 - length p) false in
    let y = replicate (256 - length (p ++ (b ∷ []))) false in
    let m : length (drop a p) ≡ s = omega (arith, length-drop a p) in
    let n : length (drop a p ++ (b ∷ [])) ≡ s + 1 = omega (arith, length-append (drop a p) (b ∷ [])) in
    ap (λ (x : List Bool). take (s + 1) (drop a x)) ev
    ∙ ap (take (s + 1)) (drop-append-le a (p ++ (b ∷ [])) y (omega (arith, length-append p (b ∷ []))))
    ∙ ap (λ (x : List Bool). take (s + 1) (x ++ y)) (drop-append-le a p (b ∷ []) (omega arith))
    ∙ take_at (drop a p ++ (b ∷ [])) y (s + 1) n
    ∙ ap (λ (x : List Bool). x ++ (b ∷ []))
    (sym (ap (λ (x : List Bool). take s (drop a x)) eu ∙ ap (take s) (drop-append-le a p z (omega arith)) ∙ take_at (drop a p) z s m))

-- A record that has no symbol from phase n on, said by its own symbols.
pub clean_of : (u q : List Bool) (n : ℕ) → length q ≡ n → u ≡ Zeroed q → u ≡ Zeroed (take n u)
clean_of u q n l e = e ∙ sym (ap Zeroed (ap (take n) e ∙ take_at q (replicate (256 - length q) false) n l))

-- Such a record is long enough.
pub clean-long : (u : List Bool) (n : ℕ) → n ≤ 256 → u ≡ Zeroed (take n u) → (256 ≤ length u) × (length (take n u) ≡ n)
clean-long u n l e =
    let z = replicate (256 - length (take n u)) false in
    let m : length u ≡ length (take n u) + (256 - length (take n u)) =
    ap (λ (v : List Bool). length v) e ∙ length-append (take n u) z ∙ ap (λ k. length (take n u) + k) (length-replicate (256 - length (take n u)) false) in
    let t = length-take n u in
    (omega arith, omega arith)

pub row-long : (u : List Bool) (a s : ℕ) → a + s ≤ 256 → u ≡ Zeroed (take (a + s) u) → length (take s (drop a u)) ≡ s
row-long u a s l e = omega (arith, length-take s (drop a u), length-drop a u, (clean-long u (a + s) l e).0)

-- ---- rows of a lane

-- The row of the last symbol, by that symbol in the planes.
pub kept-lane : (k : ℕ) (costs : List (List (List ℕ))) (planes : List ℕ) (rows : List (List (List ℕ))) (l s : ℕ) (us : List Bool) → column planes s l ≡ us → 0 < s
    → Kept k (lane_costs costs l) us (row_of (score_rows rows l) (bit us (s - 1))) → KeptLane k costs planes s rows l
kept-lane k costs planes rows l s us e ls h =
    let c : lane_bit (get_or planes (s - 1) 0) l ≡ bit us (s - 1) =
    sym (tabulate-at s (λ t. lane_bit (get_or planes t 0) l) (s - 1) false (omega arith)) ∙ ap (λ (v : List Bool). bit v (s - 1)) e in
    subst⁻¹ (λ (v : List Bool). Kept k (lane_costs costs l) v (row_of (score_rows rows l) (lane_bit (get_or planes (s - 1) 0) l))) e
    (subst⁻¹ (λ b. Kept k (lane_costs costs l) us (row_of (score_rows rows l) b)) c h)

-- Costs that agree at sixteen places, and rows that agree in the entries of the window.
kept-cong : (k : ℕ) (m m' : Costs) (us : List Bool) (row row' : List ℤ) → ((t : ℕ) (b : Bool) → t < 16 → m' t b ≡ m t b)
    → ((w : ℕ) → w < 2 ^ width k us → get_or row' w (pos 0) ≡ get_or row w (pos 0)) → Kept k m us row → Kept k m' us row'
kept-cong k m m' us row row' em er h w l =
    er w l ∙ h w l
    ∙ ap (λ n. neg_ℤ (pos n)) (least-cong (matrix 16 16 (arikan 4)) (λ t lt b. sym (em t b lt)) (path_of (solution k (length us)) us (bits (width k us) w)))

module _ (k s : ℕ) (lk : k < 3) (ls : s < 16) where
  -- The window after a phase, by its shape.
  wide : (us : List Bool) (b : Bool) → length us ≡ s → width k (us ++ (b ∷ [])) ≡ shape_at k s 0 - s
  wide us b e =
      let n : length (us ++ (b ∷ [])) ≡ suc s = omega (arith, length-append us (b ∷ [])) in
      ap (λ n. length (window k n)) n ∙ (shaped k s lk ls).wide

  -- What a phase held in lane i is kept in lane j, which took it over with one symbol more.
  pub followed : (costs costs' rows rows' : List (List (List ℕ))) (us us' : List Bool) (b : Bool) (i j : ℕ) → shape_at k s 0 - s ≤ 4 → length us ≡ s → us' ≡ us ++ (b ∷ [])
      → ((t : ℕ) (c : Bool) → t < 16 → lane_costs costs' j t c ≡ lane_costs costs i t c)
      → ((t : ℕ) (c : Bool) → t < 2 ^ (shape_at k s 0 - s) → lane_costs rows' j t c ≡ lane_costs rows i t c)
      → Held k (lane_costs costs i) us (score_rows rows i)
      → Kept k (lane_costs costs' j) us' (row_of (score_rows rows' j) (bit us' (s + 1 - 1)))
  followed costs costs' rows rows' us us' b i j few e eu ec er h =
      let z : s + 1 - 1 ≡ s = omega arith in
      let last : bit (us ++ (b ∷ [])) (s + 1 - 1) ≡ b = ap (bit (us ++ (b ∷ []))) z ∙ get_or_at us b [] false s e in
      subst⁻¹ (λ (v : List Bool). Kept k (lane_costs costs' j) v (row_of (score_rows rows' j) (bit v (s + 1 - 1)))) eu
      (subst⁻¹ (λ c. Kept k (lane_costs costs' j) (us ++ (b ∷ [])) (row_of (score_rows rows' j) c)) last
      (kept-cong k (lane_costs costs i) (lane_costs costs' j) (us ++ (b ∷ [])) (row_of (score_rows rows i) b) (row_of (score_rows rows' j) b) ec
      (λ w lw. same w (subst (λ n. w < 2 ^ n) (wide us b e) lw))
      (h b)))
    where
      same : (w : ℕ) → w < 2 ^ (shape_at k s 0 - s) → get_or (row_of (score_rows rows' j) b) w (pos 0) ≡ get_or (row_of (score_rows rows i) b) w (pos 0)
      same w lw =
          let l16 : w < 16 = lt_of_lt_of_le lw (pow-le (shape_at k s 0 - s) few) in
          score-cell rows' j w b l16 ∙ ap (λ n. neg_ℤ (pos n)) (er w b lw) ∙ sym (score-cell rows i w b l16)

-- ---- totals

-- No total of a lane whose places pay at most 2047 is more than a candidate that there is not has.
pub total-small : (k : ℕ) (costs : List (List (List ℕ))) (l : ℕ) (p : List Bool) → LanesWithin 2047 costs → length costs ≡ 16 → l < 16
    → least (kernel_code k) (lane_costs costs l) p ≤ 32766
total-small k costs l p h room ll = omega (arith, least-bound (kernel_code k) (lane_costs costs l) 2047 each p)
  where
    each : (t : ℕ) (b : Bool) → lane_costs costs l t b ≤ 2047
    each t b = go (dec_le 16 t)
      where
        none : (b : Bool) → cell {X = ℕ} 0 [] l b ≡ 0
        none false = refl
        none true = refl

        go : Dec (16 ≤ t) → lane_costs costs l t b ≤ 2047
        go (yes q) =
            let past : get_or costs t [] ≡ [] = get_or-eq_default costs [] (omega arith) in
            omega (arith, ap (λ (x : List (List ℕ)). cell 0 x l b) past ∙ none b)
        go (no q) = h t (omega arith) l b ll
