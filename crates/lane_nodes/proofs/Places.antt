-- Places stored one after the other, each folded from two in all lanes. Assumes nothing.
use mathlib.Core.Path.{◌≡◌, sym, ap, ◌∙◌}
use mathlib.Core.Bool.{Bool, true, false, not, true≢false}
use mathlib.Core.List.{List, [], ◌∷◌}
use Prim.Native.Nat.{ℕ, zero, suc, ◌+◌, ◌≤◌, ◌<◌}
use native.Mathlib.Decide.{dec_lt}
use native.Mathlib.Omega.{arith}
use lib.Bits.{bit_xor}
use lib.ListN.{length, get_or, set, replicate, length-set, get_or-replicate}
use lib.Seq.{get_or-set_same, get_or-set_other}
use Rattle.base.specs.Bit.{◌⊕◌}
use Rattle.base.proofs.Bool.{⊕-comm}
use Rattle.base.proofs.List.{each_next}
use Rattle.bits.proofs.Packed.{xor-at}
use Rattle.polar.specs.Code.{Costs}
use Rattle.polar.specs.Fold.{free_fold, known_fold}
use Rattle.folds.specs.Rows.{cell}
use Rattle.folds.proofs.Fill.{filled_none}
use Rattle.folds.proofs.Pairs.{free-le, known-le}
use Rattle.lane.specs.Lanes.{lane_bit, word_at, lane_costs, PairWithin, LanesWithin}
use Rattle.lane.proofs.Planes.{all_lanes}

-- What is read of a place, in any lane, is within its bound.
pub read-within : (n : ℕ) (pair : List (List ℕ)) (l x y : ℕ) → (x ≡ cell 0 pair l false) × (y ≡ cell 0 pair l true) → PairWithin n pair → l < 16 → (x ≤ n) × (y ≤ n)
read-within n pair l x y e w ll = (omega (arith, e.0, w l false ll), omega (arith, e.1, w l true ll))

-- ---- folds in all lanes

-- Sixteen places folded in each lane, the second ones free,
abbrev pub free_nodes : List (List (List ℕ)) → ℕ → Costs
free_nodes costs l = free_fold 8 (lane_costs costs l)

-- and the first ones known.
abbrev pub known_nodes : (ℕ → ℕ → Bool) → List (List (List ℕ)) → ℕ → Costs
known_nodes x costs l = known_fold 8 (x l) (lane_costs costs l)

-- The other bit of each word.
abbrev pub other_at : List ℕ → ℕ → ℕ → Bool
other_at words l j = not (word_at words l j)

-- A place pays in each lane what f says of place j.
abbrev pub Node : (ℕ → Costs) → ℕ → List (List ℕ) → Type 0
Node f j place = (l : ℕ) (b : Bool) → l < 16 → cell 0 place l b ≡ f l j b

-- Each bound of the costs, doubled, is one of f.
abbrev pub Doubles : List (List (List ℕ)) → (ℕ → Costs) → Type 0
Doubles costs f = (n : ℕ) → LanesWithin n costs → (l j : ℕ) (b : Bool) → l < 16 → j < 8 → f l j b ≤ n + n

pub free-doubles : (costs : List (List (List ℕ))) → Doubles costs (free_nodes costs)
free-doubles costs n w l j b ll lj = free-le 8 (lane_costs costs l) n (λ i c li. w i li l c ll) j b lj

pub known-doubles : (x : ℕ → ℕ → Bool) (costs : List (List (List ℕ))) → Doubles costs (known_nodes x costs)
known-doubles x costs n w l j b ll lj = known-le 8 (x l) (lane_costs costs l) n (λ i c li. w i li l c ll) j b lj

-- A plane `^ 65535` has each lane's other bit,
other-bit : (plane l : ℕ) → l < 16 → lane_bit (bit_xor plane 65535) l ≡ not (lane_bit plane l)
other-bit plane l ll =
    xor-at 16 plane 65535 l ∙ ap (λ b. lane_bit plane l ⊕ b) (all_lanes l ll) ∙ ⊕-comm (lane_bit plane l) true

-- and a place folded by it is one of the others.
other-node : (words : List ℕ) (costs : List (List (List ℕ))) (j : ℕ) (place : List (List ℕ))
    → Node (known_nodes (λ l i. lane_bit (bit_xor (get_or words i 0) 65535) l) costs) j place → Node (known_nodes (other_at words) costs) j place
other-node words costs j place e l b ll =
    e l b ll ∙ ap (λ c. lane_costs costs l j (c ⊕ b) + lane_costs costs l (8 + j) b) (other-bit (get_or words j 0) l ll)

-- ---- the stores

-- What holds of an entry holds after a store of which it holds.
set-each : {X : Type 0} (P : X → Type 0) (out : List X) (n : ℕ) (d v : X) → P v → (i : ℕ) → P (get_or out i d) → P (get_or (set out n v) i d)
set-each P [] n d v p i h = h
set-each P (x ∷ out) zero d v p zero h = p
set-each P (x ∷ out) zero d v p (suc i) h = h
set-each P (x ∷ out) (suc n) d v p zero h = h
set-each P (x ∷ out) (suc n) d v p (suc i) h = set-each P out n d v p i h

-- The first n places pay what f says, and all are within doubled bounds where those that stood there before are.
pub record Folded (costs : List (List (List ℕ))) (f : ℕ → Costs) (old : List (List (List ℕ))) (n : ℕ) (out : List (List (List ℕ))) : Type 0 where
  pub size : length out ≡ 16
  pub nodes : (j : ℕ) → j < n → Node f j (get_or out j [])
  pub within : (m : ℕ) → LanesWithin m costs → LanesWithin (m + m) old → LanesWithin (m + m) out

-- The first n places from place 8 on pay what f says.
abbrev pub Others : (ℕ → Costs) → ℕ → List (List (List ℕ)) → Type 0
Others f n out = (j : ℕ) → j < n → Node f j (get_or out (8 + j) [])

-- A place that pays nothing.
abbrev none : List (List ℕ)
none = replicate 2 (replicate 16 0)

-- Sixteen of these are within any bound.
pub none_within : (n : ℕ) → LanesWithin n (replicate 16 none)
none_within n j lj l b ll = rw (get_or-replicate 16 j none [] lj, (filled_none {X = ℕ} 0 16 (λ _ _. 0)).rest l b (omega arith)) (omega arith)

-- Before the first is folded.
pub folded-none : (costs : List (List (List ℕ))) (f : ℕ → Costs) (out : List (List (List ℕ))) → length out ≡ 16 → Folded costs f out 0 out
folded-none costs f out s = record { size = s; nodes = λ j l. absurd (omega arith); within = λ m w h. h }

module _ (costs : List (List (List ℕ))) (f : ℕ → Costs) (d : Doubles costs f) (old : List (List (List ℕ))) (n : ℕ) (ln : n < 8) (place : List (List ℕ)) (e : Node f n place) where
  -- A folded place is within doubled bounds, and so are all after it is stored.
  place-within : (m : ℕ) → LanesWithin m costs → PairWithin (m + m) place
  place-within m w l b ll = rw (e l b ll) (d m w l n b ll ln)

  within-next : (out : List (List (List ℕ))) (i : ℕ) → ((m : ℕ) → LanesWithin m costs → LanesWithin (m + m) old → LanesWithin (m + m) out)
      → (m : ℕ) → LanesWithin m costs → LanesWithin (m + m) old → LanesWithin (m + m) (set out i place)
  within-next out i h m w o j lj = set-each (PairWithin (m + m)) out i [] place (place-within m w) j (h m w o j lj)

  -- The next place is stored,
  pub folded-next : (out : List (List (List ℕ))) → Folded costs f old n out → Folded costs f old (n + 1) (set out n place)
  folded-next out h =
      record {
        size = length-set out n place ∙ h.size;
        nodes = each_next (Node f) out n [] place (omega (arith, h.size)) h.nodes e;
        within = within-next out n h.within;
      }

  -- or the next of the others, and the first ones stay.
  folded-other : (out : List (List (List ℕ))) (g : ℕ → Costs) → Folded costs g old (n + 1) out → Folded costs g old (n + 1) (set out (8 + n) place)
  folded-other out g h =
      record {
        size = length-set out (8 + n) place ∙ h.size;
        nodes = λ j l. rw (get_or-set_other out (8 + n) j place [] (λ q. omega arith)) (h.nodes j l);
        within = within-next out (8 + n) h.within;
      }

-- A first place that is stored leaves the others.
others-kept : (f : ℕ → Costs) (n : ℕ) (out : List (List (List ℕ))) (place : List (List ℕ)) → n < 8 → Others f n out → Others f n (set out n place)
others-kept f n out place l h j lj = rw (get_or-set_other out n (8 + j) place [] (λ q. omega arith)) (h j lj)

-- There is one more of the others.
others-next : (f : ℕ → Costs) (n : ℕ) (out : List (List (List ℕ))) (place : List (List ℕ)) → n < 8 → length out ≡ 16 → Node f n place
    → Others f n out → Others f (n + 1) (set out (8 + n) place)
others-next f n out place ln s e h j l = go (dec_lt j n)
  where
    go : Dec (j < n) → Node f j (get_or (set out (8 + n) place) (8 + j) [])
    go (yes k) = rw (get_or-set_other out (8 + n) (8 + j) place [] (λ q. omega arith)) (h j k)
    go (no k) = let q : j ≡ n = omega arith in rw (q, get_or-set_same out (8 + n) place [] (omega arith)) e

module _ (words : List ℕ) (costs : List (List (List ℕ))) (both : Bool) (old : List (List (List ℕ))) where
  -- The first n places are folded, and the others where both are asked for.
  abbrev pub KnownTo : ℕ → List (List (List ℕ)) → Type 0
  KnownTo n out = Folded costs (known_nodes (word_at words) costs) old n out × (both ≡ true → Others (known_nodes (other_at words) costs) n out)

  pub known-none : length old ≡ 16 → KnownTo 0 old
  known-none s = (folded-none costs _ old s, λ e j l. absurd (omega arith))

  module _ (n : ℕ) (ln : n < 8) (out : List (List (List ℕ))) (h : KnownTo n out) (place : List (List ℕ)) (e : Node (known_nodes (word_at words) costs) n place) where
    first : Folded costs (known_nodes (word_at words) costs) old (n + 1) (set out n place)
    first = folded-next costs _ (known-doubles (word_at words) costs) old n ln place e out h.0

    -- One place more, where the others are not asked for,
    pub known-one : both ≡ false → (new : List (List (List ℕ))) → new ≡ set out n place → KnownTo (n + 1) new
    known-one f new s = rw s (first, λ t. absurd (true≢false (sym t ∙ f)))

    -- and where they are.
    pub known_both : (more : List (List ℕ)) → Node (known_nodes (λ l i. lane_bit (bit_xor (get_or words i 0) 65535) l) costs) n more
        → (new : List (List (List ℕ))) → new ≡ set (set out n place) (8 + n) more → KnownTo (n + 1) new
    known_both more e' new s =
        rw s (
          folded-other costs _ (known-doubles (other_at words) costs) old n ln more other (set out n place) _ first,
          λ t. others-next _ n (set out n place) more ln first.size other (others-kept _ n out place ln (h.1 t)),
        )
      where
        other : Node (known_nodes (other_at words) costs) n more
        other = other-node words costs n more e'
