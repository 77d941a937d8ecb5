-- The outer kernels of each path, one path after the other. Assumes nothing.
use mathlib.Core.Path.{◌≡◌, refl, ap, ◌∙◌, subst⁻¹}
use mathlib.Core.Bool.{Bool, true, false}
use mathlib.Core.List.{List, [], ◌∷◌, ◌++◌}
use Prim.Native.Nat.{ℕ, zero, suc, ◌+◌, ◌*◌, ◌≤◌, ◌<◌}
use native.Mathlib.Decide.{dec_lt}
use native.Mathlib.Omega.{arith}
use lib.ListN.{length, get_or, set, replicate, length-set}
use lib.Seq.{get_or-set_same, get_or-set_other}
use Rattle.base.proofs.List.{each_next}
use Rattle.polar.specs.Code.{least}
use Rattle.polar.proofs.Least.{least-bound}
use Rattle.folds.specs.Rows.{cell}
use Rattle.kernel.specs.Kernels.{kernel_code}
use Rattle.lane.specs.Lanes.{lane_costs, PairWithin, LanesWithin}
use Rattle.lane_phases.specs.Rows.{column as lane_column, HeldLane}
use Rattle.lane_totals.specs.Totals.{LeastLane}
use Rattle.lane_moves.specs.Moves.{Twins}
use Rattle.list_run.specs.Run.{RowCosts}

-- Past the end of a list there is nothing.
past_end : {X : Type 0} (l : List X) (i : ℕ) (d : X) → length l ≤ i → get_or l i d ≡ d
past_end [] i d h = refl
past_end (x ∷ l) zero d h = absurd (omega arith)
past_end (x ∷ l) (suc i) d h = past_end l i d (omega arith)

no_cell : (l : ℕ) (b : Bool) → ◌≡◌ {A = ℕ} (cell 0 [] l b) 0
no_cell l false = refl
no_cell l true = refl

-- No place of a lane pays more than the bound.
pub all-within : (n : ℕ) (costs : List (List (List ℕ))) → length costs ≡ 16 → LanesWithin n costs → (l : ℕ) → l < 16 → (j : ℕ) (b : Bool) → lane_costs costs l j b ≤ n
all-within n costs e h l ll j b = go (dec_lt j 16)
  where
    go : Dec (j < 16) → lane_costs costs l j b ≤ n
    go (yes lj) = h j lj l b ll
    go (no lj) =
        let z : lane_costs costs l j b ≡ 0 = ap (λ (p : List (List ℕ)). cell 0 p l b) (past_end costs j [] (omega arith)) ∙ no_cell l b in
        omega arith

same_or : (k i : ℕ) → Dec (k ≡ i)
same_or k i = go (dec_lt k i) (dec_lt i k)
  where
    go : Dec (k < i) → Dec (i < k) → Dec (k ≡ i)
    go (yes l) _ = no (λ e. omega arith)
    go (no l) (yes m) = no (λ e. omega arith)
    go (no l) (no m) = yes (omega arith)

-- Entries of sixteen stay so where one is replaced by such a one.
pub rooms-set : {X : Type 0} (n : ℕ) (l : List (List X)) (i : ℕ) (x : List X) → i < length l → length x ≡ 16 → ((k : ℕ) → k < n → length (get_or l k []) ≡ 16)
    → (k : ℕ) → k < n → length (get_or (set l i x) k []) ≡ 16
rooms-set n l i x li lx h k lk = go (same_or k i)
  where
    go : Dec (k ≡ i) → length (get_or (set l i x) k []) ≡ 16
    go (yes e) = ap (λ n. length (get_or (set l i x) n [])) e ∙ ap length (get_or-set_same l i x [] li) ∙ lx
    go (no e) = ap length (get_or-set_other l i k x [] e) ∙ h k lk

-- Entries of sixteen each, of one kind.
pub rooms : {X : Type 0} (x : List X) → length x ≡ 16 → (n k : ℕ) → k < n → length (get_or (replicate n x) k []) ≡ 16
rooms x e zero k l = absurd (omega arith)
rooms x e (suc n) zero l = e
rooms x e (suc n) (suc k) l = rooms x e n k (omega arith)

-- The first i paths are done: their pairs are the least totals, and the rows of the others are as they were.
pub record PairsSo (b : ℕ) (costs : List (List (List ℕ))) (r : ℕ) (planes : List (List ℕ)) (held₀ : List (List (List (List ℕ)))) (i : ℕ)
    (held : List (List (List (List ℕ)))) (pairs : List (List (List ℕ))) : Type 0 where
  pub pair-count : length pairs ≡ 8
  pub within : (k : ℕ) → k < 8 → PairWithin 2047 (get_or pairs k [])
  pub held-count : length held ≡ 8
  pub held-room : (k : ℕ) → k < 8 → length (get_or held k []) ≡ 16
  pub least-so : (k : ℕ) → k < i → (l : ℕ) → l < 16 → LeastLane b costs (get_or planes k []) r (get_or pairs k []) l
  pub held-so : (k : ℕ) → k < i → (l : ℕ) → l < 16 → HeldLane b costs (get_or planes k []) r (get_or held k []) l
  pub later : (k : ℕ) → i ≤ k → k < 8 → get_or held k [] ≡ get_or held₀ k []

module _ (b : ℕ) (costs : List (List (List ℕ))) (room : length costs ≡ 16) (costs-within : LanesWithin 127 costs) (r : ℕ) (planes : List (List ℕ)) (held₀ : List (List (List (List ℕ))))
    (i : ℕ) (li : i < 8) (held : List (List (List (List ℕ)))) (pairs : List (List (List ℕ))) (g : PairsSo b costs r planes held₀ i held pairs)
    (pair : List (List ℕ)) (rows : List (List (List ℕ))) (row_room : length rows ≡ 16)
    (is : (l : ℕ) → l < 16 → HeldLane b costs (get_or planes i []) r rows l × LeastLane b costs (get_or planes i []) r pair l) where
  -- What the outer kernels pay in all is within the bound of the inner one's places.
  pair-within : PairWithin 2047 pair
  pair-within l c ll =
      let m : least (kernel_code b) (lane_costs costs l) (lane_column (get_or planes i []) r l ++ (c ∷ [])) ≤ 16 * 127 =
      least-bound (kernel_code b) (lane_costs costs l) 127 (λ j d. all-within 127 costs room costs-within l ll j d) _ in
      omega (arith, (is l ll).1 c)

  pair_place : i < length pairs
  pair_place = omega (arith, g.pair-count)

  -- One path more.
  pub pairs_next : PairsSo b costs r planes held₀ (i + 1) (set held i rows) (set pairs i pair)
  pairs_next = record {
    pair-count = length-set pairs i pair ∙ g.pair-count;
    within = λ k l. within-at k l (same_or k i);
    held-count = length-set held i rows ∙ g.held-count;
    held-room = rooms-set 8 held i rows (omega (arith, g.held-count)) row_room g.held-room;
    least-so = each_next (λ k (x : List (List ℕ)). (l : ℕ) → l < 16 → LeastLane b costs (get_or planes k []) r x l) pairs i [] pair pair_place g.least-so (λ l ll. (is l ll).1);
    held-so = each_next (λ k (x : List (List (List ℕ))). (l : ℕ) → l < 16 → HeldLane b costs (get_or planes k []) r x l) held i [] rows (omega (arith, g.held-count)) g.held-so (λ l ll. (is l ll).0);
    later = λ k l lk. get_or-set_other held i k rows [] (λ e. omega arith) ∙ g.later k (omega arith) lk;
  }
    where
      within-at : (k : ℕ) → k < 8 → Dec (k ≡ i) → PairWithin 2047 (get_or (set pairs i pair) k [])
      within-at k l (yes e) = subst⁻¹ (λ n. PairWithin 2047 (get_or (set pairs i pair) n [])) e (subst⁻¹ (PairWithin 2047) (get_or-set_same pairs i pair [] pair_place) pair-within)
      within-at k l (no e) = subst⁻¹ (PairWithin 2047) (get_or-set_other pairs i k pair [] e) (g.within k l)

-- Before the first path.
pub none_yet : (b : ℕ) (costs : List (List (List ℕ))) (r : ℕ) (planes : List (List ℕ)) (held : List (List (List (List ℕ)))) → length held ≡ 8 → ((i : ℕ) → i < 8 → length (get_or held i []) ≡ 16)
    → PairsSo b costs r planes held 0 held (replicate 8 (replicate 2 (replicate 16 0)))
none_yet b costs r planes held count room = record {
  pair-count = refl;
  within = λ k lk l c ll. pair-at 8 k l c;
  held-count = count;
  held-room = room;
  least-so = λ k l. absurd (omega arith);
  held-so = λ k l. absurd (omega arith);
  later = λ k l lk. refl;
}
  where
    zero-at : (n i : ℕ) → ◌≡◌ {A = ℕ} (get_or (replicate n 0) i 0) 0
    zero-at zero i = refl
    zero-at (suc n) zero = refl
    zero-at (suc n) (suc i) = zero-at n i

    pair-at : (n k l : ℕ) (c : Bool) → cell 0 (get_or (replicate n (replicate 2 (replicate 16 0))) k []) l c ≤ 2047
    pair-at zero k l false = omega arith
    pair-at zero k l true = omega arith
    pair-at (suc n) zero l false = omega (arith, zero-at 16 l)
    pair-at (suc n) zero l true = omega (arith, zero-at 16 l)
    pair-at (suc n) (suc k) l c = pair-at n k l c

-- After the last path: the lanes of the pairs.
pub pairs-done : (b : ℕ) (costs : List (List (List ℕ))) (r : ℕ) (planes : List (List ℕ)) (held₀ : List (List (List (List ℕ)))) (i n : ℕ) (held : List (List (List (List ℕ)))) (pairs : List (List (List ℕ)))
    → PairsSo b costs r planes held₀ i held pairs → i ≡ n → n ≤ 8 → (lanes : List (List (List ℕ)))
    → ((l j : ℕ) (c : Bool) → l < 8 → j < 16 → lane_costs lanes l j c ≡ cell 0 (get_or pairs l []) j c)
    → ((m : ℕ) → ((l : ℕ) → l < 8 → PairWithin m (get_or pairs l [])) → LanesWithin m lanes) → Twins 16 lanes → RowCosts b costs r n planes held lanes
pairs-done b costs r planes held₀ i n held pairs g e ln lanes is within twins = record {
  lanes-within = within 2047 g.within;
  twins = twins;
  held-count = g.held-count;
  held-room = g.held-room;
  least-so = λ k j c l lj. is k j c (omega arith) lj ∙ g.least-so k (omega arith) j lj c;
  held-so = λ k j l lj. g.held-so k (omega arith) j lj;
}
