-- The symbols of lanes and their twins, and the records after one marked phase and after two. Assumes nothing.
use mathlib.Core.Path.{◌≡◌, sym, ap, subst, subst⁻¹, ◌∙◌}
use mathlib.Core.Bool.{Bool, true, false}
use mathlib.Core.List.{List, [], ◌∷◌, ◌++◌}
use Prim.Native.Nat.{ℕ, ◌+◌, ◌*◌, ◌/◌, ◌%◌, ◌≤◌, ◌<◌, min}
use native.Mathlib.Decide.{dec_lt}
use native.Mathlib.Omega.{arith}
use lib.ListN.{length, take, drop, get_or, length-append, length-take, get_or-append}
use lib.Seq.{take_at, get_or-take, get_or_at}
use Rattle.base.specs.Bit.{bit, digit, odd}
use Rattle.base.proofs.List.{length-tabulate, tabulate-at, same_bits}
use Rattle.bits.specs.Packed.{bits, unpack}
use Rattle.bits.proofs.Packed.{length-bits, digit-odd}
use Rattle.folds.specs.Rows.{row_of, cell}
use Rattle.lane.specs.Lanes.{lane_bit}
use Rattle.lane_phases.specs.Rows.{column}
use Rattle.lane_moves.specs.Moves.{MovedRow, TwinPlane, OwnPlane}
use Rattle.list.specs.Sort.{in_order}
use Rattle.list.specs.Paths.{phase, candidate}
use Rattle.path.specs.Path.{HasSymbols, path_at}
use Rattle.list_step.specs.Step.{Listed, Paid}
use Rattle.list_step.specs.Marked.{Clean, Penalties, chosen}
use Rattle.list_step.specs.Two.{lane_of, Settled, SettledTwo}
use Rattle.list_step.proofs.Candidates.{inside, chosen-below, penalty-is, phase-count, phase-at}
use Rattle.list_step.proofs.Rows.{row_next, clean_of, clean-long}

pub lane_in : (i : ℕ) (b : Bool) → i < 8 → lane_of i b < 16
lane_in i false l = omega arith
lane_in i true l = omega arith

-- The bit of a lane in a plane where its twin has the same, and where it has the other.
twin-bit : (old new i : ℕ) (b : Bool) → i < 8 → TwinPlane old new → lane_bit new (lane_of i b) ≡ lane_bit old i
twin-bit old new i false l h = (h i l).0
twin-bit old new i true l h = (h i l).1

own-bit : (plane i : ℕ) (b : Bool) → i < 8 → OwnPlane plane → lane_bit plane (lane_of i b) ≡ b
own-bit plane i false l h = (h i l).0
own-bit plane i true l h = (h i l).1

-- The symbols of a path and then b, in the lane of both.
pub twin-column : (single planes : List ℕ) (w i s : ℕ) (u : List Bool) (b : Bool) → i < 8 → s < 16 → bits 16 w ≡ take 16 u
    → ((t : ℕ) → t < 16 → lane_bit (get_or single t 0) i ≡ bit (bits 16 w) t)
    → ((t : ℕ) → t < 16 → (t ≡ s → ⊥) → TwinPlane (get_or single t 0) (get_or planes t 0)) → OwnPlane (get_or planes s 0)
    → column planes (s + 1) (lane_of i b) ≡ take s u ++ (b ∷ [])
twin-column single planes w i s u b li ls e h twin own =
    same_bits (s + 1) (column planes (s + 1) (lane_of i b)) (take s u ++ (b ∷ [])) (length-tabulate (s + 1) (λ t. lane_bit (get_or planes t 0) (lane_of i b))) long
    (λ t lt. tabulate-at (s + 1) (λ t. lane_bit (get_or planes t 0) (lane_of i b)) t false lt ∙ go t lt (dec_lt t s))
  where
    short : length (take s u) ≡ s
    short =
        let n : length (take 16 u) ≡ 16 = sym (ap (λ (v : List Bool). length v) e) ∙ length-bits 16 w in
        omega (arith, length-take s u, length-take 16 u)

    long : length (take s u ++ (b ∷ [])) ≡ s + 1
    long = omega (arith, length-append (take s u) (b ∷ []), short)

    go : (t : ℕ) → t < s + 1 → Dec (t < s) → lane_bit (get_or planes t 0) (lane_of i b) ≡ bit (take s u ++ (b ∷ [])) t
    go t lt (yes l) =
        twin-bit (get_or single t 0) (get_or planes t 0) i b li (twin t (omega arith) (λ q. omega arith))
        ∙ h t (omega arith)
        ∙ ap (λ (v : List Bool). bit v t) e
        ∙ get_or-take 16 u t false (omega arith)
        ∙ sym (get_or-take s u t false l)
        ∙ sym (get_or-append (take s u) (b ∷ []) false t (omega (arith, short)))
    go t lt (no l) =
        let z : t ≡ s = omega arith in
        rw z (own-bit (get_or planes s 0) i b li own ∙ sym (get_or_at (take s u) b [] false s short))

-- ---- the totals of the two phases

-- The number of a candidate's lane.
lane-number : (c : ℕ) → c % 2 * 8 + c / 2 ≡ lane_of (c / 2) (odd c)
lane-number c = go (odd c) (digit-odd c)
  where
    go : (b : Bool) → digit b ≡ c % 2 → c % 2 * 8 + c / 2 ≡ lane_of (c / 2) b
    go false e = omega arith
    go true e = omega arith

-- The totals of the first phase are the lesser ones of lanes and of their twins,
pub one-is : (pair : List (List ℕ)) (zero one : List ℕ)
    → ((i : ℕ) → i < 8 → get_or zero i 0 ≡ min (cell 0 pair (0 + i) false) (cell 0 pair (0 + i) true))
    → ((i : ℕ) → i < 8 → get_or one i 0 ≡ min (cell 0 pair (8 + i) false) (cell 0 pair (8 + i) true))
    → (i : ℕ) (b : Bool) → i < 8 → cell 0 (zero ∷ one ∷ []) i b ≡ min (cell 0 pair (lane_of i b) false) (cell 0 pair (lane_of i b) true)
one-is pair zero one p q i false l = let z : 0 + i ≡ i = omega arith in p i l ∙ ap (λ k. min (cell 0 pair k false) (cell 0 pair k true)) z
one-is pair zero one p q i true l = q i l

pub one-small : (n : ℕ) (pair one : List (List ℕ)) → n ≤ 8 → ((i : ℕ) (b c : Bool) → i < n → cell 0 pair (lane_of i b) c ≤ 32766)
    → ((i : ℕ) (b : Bool) → i < 8 → cell 0 one i b ≡ min (cell 0 pair (lane_of i b) false) (cell 0 pair (lane_of i b) true))
    → (i : ℕ) (b : Bool) → i < n → cell 0 one i b ≤ 32766
one-small n pair one ln small e i b l = omega (arith, e i b (omega arith), small i b false l)

module _ (pens places lanes : List ℕ) (e : places ≡ in_order (λ c. get_or pens c 0) 16) (h : (j : ℕ) → j < 8 → get_or lanes j 0 ≡ get_or places j 0 % 2 * 8 + get_or places j 0 / 2) where
  -- the lane of each candidate that was chosen,
  pub lane-is : (j : ℕ) → j < 8 → get_or lanes j 0 ≡ lane_of (chosen pens j / 2) (odd (chosen pens j))
  lane-is j l = h j l ∙ ap (λ (o : List ℕ). get_or o j 0 % 2 * 8 + get_or o j 0 / 2) e ∙ lane-number (chosen pens j)

  pub lanes-below : (j : ℕ) → j < 8 → get_or lanes j 0 < 16
  lanes-below j l = omega (arith, h j l, inside pens places e j (omega arith))

  -- those of the second are what it has there,
  pub two_is : (pair : List (List ℕ)) (zero one : List ℕ) → MovedRow lanes (row_of pair false) zero → MovedRow lanes (row_of pair true) one
      → (j : ℕ) (b : Bool) → j < 8 → cell 0 (zero ∷ one ∷ []) j b ≡ cell 0 pair (lane_of (chosen pens j / 2) (odd (chosen pens j))) b
  two_is pair zero one p q j false l = (p j l).0 ∙ ap (λ k. cell 0 pair k false) (lane-is j l)
  two_is pair zero one p q j true l = (q j l).0 ∙ ap (λ k. cell 0 pair k true) (lane-is j l)

  -- and the lane of a path after both is that of its parent.
  module _ (pens' places' from : List ℕ) (e' : places' ≡ in_order (λ c. get_or pens' c 0) 16) (h' : (j : ℕ) → j < 8 → get_or from j 0 ≡ get_or lanes (get_or places' j 0 / 2) 0) where
    parent-below : (j : ℕ) → j < 8 → get_or places' j 0 / 2 < 8
    parent-below j l = omega (arith, inside pens' places' e' j (omega arith))

    pub from-below : (j : ℕ) → j < 8 → get_or from j 0 < 16
    from-below j l = omega (arith, h' j l, lanes-below (get_or places' j 0 / 2) (parent-below j l))

    pub from_is : (j : ℕ) → j < 8 → get_or from j 0 ≡ lane_of (chosen pens (chosen pens' j / 2) / 2) (odd (chosen pens (chosen pens' j / 2)))
    from_is j l =
        h' j l
        ∙ lane-is (get_or places' j 0 / 2) (parent-below j l)
        ∙ ap (λ (o : List ℕ). lane_of (chosen pens (get_or o j 0 / 2) / 2) (odd (chosen pens (get_or o j 0 / 2)))) e'

-- ---- the records after a marked phase

module _ (at n : ℕ) (la : at < 256) (ln : n ≤ 8) (pair : List (List ℕ)) (scratch : List ℕ) (clean : Clean at n scratch) (L : ℕ) (places scratch' : List ℕ)
    (small : (i : ℕ) (b : Bool) → i < n → cell 0 pair i b ≤ 32766) (m : Settled at L n pair scratch places scratch') where
  own-long : (i : ℕ) → i < n → length (take at (unpack (path_at i scratch).symbols)) ≡ at
  own-long i li = (clean-long (unpack (path_at i scratch).symbols) at (omega arith) (clean i li)).1

  pub parent_in : (j : ℕ) → j < min L (2 * n) → chosen m.pens j / 2 < n
  parent_in j l = omega (arith, chosen-below pair n m.pens m.pens-are ln small j (omega arith))

  grown : (j : ℕ) → j < min L (2 * n) → HasSymbols (take at (unpack (path_at (chosen m.pens j / 2) scratch).symbols) ++ (odd (chosen m.pens j) ∷ [])) (path_at j scratch')
  grown j l =
      let i = chosen m.pens j / 2 in
      (m.record-so j l).0 (take at (unpack (path_at i scratch).symbols)) (own-long i (parent_in j l)) (clean i (parent_in j l))

  -- They have no symbol after it,
  pub settled-clean : Clean (at + 1) (min L (2 * n)) scratch'
  settled-clean j l =
      let i = chosen m.pens j / 2 in
      let p = take at (unpack (path_at i scratch).symbols) in
      let b = odd (chosen m.pens j) in
      clean_of (unpack (path_at j scratch').symbols) (p ++ (b ∷ [])) (at + 1) (omega (arith, length-append p (b ∷ []), own-long i (parent_in j l))) (grown j l)

  -- and the symbols of its row are those of the parent and one more.
  pub settled-row : (a s : ℕ) → at ≡ a + s → (j : ℕ) → j < min L (2 * n)
      → take (s + 1) (drop a (unpack (path_at j scratch').symbols)) ≡ take s (drop a (unpack (path_at (chosen m.pens j / 2) scratch).symbols)) ++ (odd (chosen m.pens j) ∷ [])
  settled-row a s e j l =
      let i = chosen m.pens j / 2 in
      row_next (unpack (path_at i scratch).symbols) (unpack (path_at j scratch').symbols) (take at (unpack (path_at i scratch).symbols)) (odd (chosen m.pens j)) a s
      (own-long i (parent_in j l) ∙ e) (clean i (parent_in j l)) (grown j l)

  module _ (ps : List (List Bool)) (penalty : List Bool → ℕ) (el : length ps ≡ n) (long : (i : ℕ) → i < n → length (get_or ps i []) ≡ at) (listed : Listed ps scratch)
      (are : (i : ℕ) (b : Bool) → i < n → cell 0 pair i b ≡ penalty (get_or ps i [] ++ (b ∷ []))) where
    pub settled-count : length (phase penalty L true ps) ≡ min L (2 * n)
    settled-count = phase-count pair n m.pens m.pens-are ln small penalty L ps el are

    pub settled_at : (j : ℕ) → j < min L (2 * n) → get_or (phase penalty L true ps) j [] ≡ candidate ps (chosen m.pens j)
    settled_at j l = phase-at pair n m.pens m.pens-are ln small penalty L ps el are j l

    pub settled-long : (j : ℕ) → j < min L (2 * n) → length (get_or (phase penalty L true ps) j []) ≡ at + 1
    settled-long j l =
        let i = chosen m.pens j / 2 in
        ap (λ (p : List Bool). length p) (settled_at j l) ∙ length-append (get_or ps i []) (odd (chosen m.pens j) ∷ []) ∙ ap (λ n. n + 1) (long i (parent_in j l))

    pub settled-listed : Listed (phase penalty L true ps) scratch'
    settled-listed j l =
        let lj : j < min L (2 * n) = omega (arith, settled-count) in
        let i = chosen m.pens j / 2 in
        let li : chosen m.pens j / 2 < length ps = omega (arith, parent_in j lj) in
        subst⁻¹ (λ (p : List Bool). HasSymbols p (path_at j scratch')) (settled_at j lj)
        ((m.record-so j lj).0 (get_or ps i []) (long i (parent_in j lj)) (listed i li))

    pub settled-paid : Paid penalty (phase penalty L true ps) scratch'
    settled-paid j l =
        let lj : j < min L (2 * n) = omega (arith, settled-count) in
        (m.record-so j lj).1 ∙ penalty-is pair n m.pens m.pens-are ln small penalty L ps el are j (omega arith) ∙ ap penalty (sym (settled_at j lj))

    pub settled-from : (j : ℕ) → j < min L (2 * n) → take at (get_or (phase penalty L true ps) j []) ≡ get_or ps (chosen m.pens j / 2) []
    settled-from j l =
        let i = chosen m.pens j / 2 in
        ap (take at) (settled_at j l) ∙ take_at (get_or ps i []) (odd (chosen m.pens j) ∷ []) at (long i (parent_in j l))

-- No total of the second phase is more than what a candidate that there is not has.
pub two-small : (at L n : ℕ) (pair one two : List (List ℕ)) (scratch places scratch' : List ℕ) (ln : n ≤ 8) (small : (i : ℕ) (b c : Bool) → i < n → cell 0 pair (lane_of i b) c ≤ 32766)
    → ((i : ℕ) (b : Bool) → i < 8 → cell 0 one i b ≡ min (cell 0 pair (lane_of i b) false) (cell 0 pair (lane_of i b) true))
    → (m : Settled at L n one scratch places scratch')
    → ((j : ℕ) (b : Bool) → j < 8 → cell 0 two j b ≡ cell 0 pair (lane_of (chosen m.pens j / 2) (odd (chosen m.pens j))) b)
    → (j : ℕ) (b : Bool) → j < 8 → j < 2 * n → cell 0 two j b ≤ 32766
two-small at L n pair one two scratch places scratch' ln small e m f j b l8 l =
    let q : chosen m.pens j < 2 * n = chosen-below one n m.pens m.pens-are ln (one-small n pair one ln small e) j l in
    omega (arith, f j b l8, small (chosen m.pens j / 2) (odd (chosen m.pens j)) b (omega arith))

-- Two marked phases, where the number of paths between them stands by itself.
pub settled-two : (at L n : ℕ) (pair : List (List ℕ)) (scratch lanes scratch' : List ℕ) (one two : List (List ℕ)) (places places' between : List ℕ) (k : ℕ) → k ≡ min L (2 * n)
    → ((i : ℕ) (b : Bool) → i < 8 → cell 0 one i b ≡ min (cell 0 pair (lane_of i b) false) (cell 0 pair (lane_of i b) true))
    → (m : Settled at L n one scratch places between)
    → ((j : ℕ) (b : Bool) → j < min L (2 * n) → cell 0 two j b ≡ cell 0 pair (lane_of (chosen m.pens j / 2) (odd (chosen m.pens j))) b)
    → (m' : Settled (at + 1) L k two between places' scratch')
    → ((j : ℕ) → j < min L (2 * k) → get_or lanes j 0 ≡ lane_of (chosen m.pens (chosen m'.pens j / 2) / 2) (odd (chosen m.pens (chosen m'.pens j / 2))))
    → SettledTwo at L n pair scratch lanes scratch'
settled-two at L n pair scratch lanes scratch' one two places places' between k e f m g m' h = record {
  one = one;
  two = two;
  places = places;
  places' = places';
  between = between;
  one-is = f;
  first = m;
  two_is = g;
  second = record { pens = m'.pens; pens-are = subst (λ k. Penalties two k m'.pens) e m'.pens-are; order_is = m'.order_is; record-so = λ j l. m'.record-so j (omega (arith, l, e)) };
  lanes-are = λ j l. h j (omega (arith, l, e));
}
