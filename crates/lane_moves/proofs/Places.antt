-- Places of sixteen lanes that are replaced one after the other. Assumes nothing.
use mathlib.Core.Path.{◌≡◌, refl, ap, subst, subst⁻¹, ◌∙◌}
use mathlib.Core.Bool.{Bool, true, false}
use mathlib.Core.List.{List, [], ◌∷◌}
use Prim.Native.Nat.{ℕ, ◌+◌, ◌-◌, ◌≤◌, ◌<◌}
use native.Mathlib.Decide.{dec_lt}
use native.Mathlib.Omega.{arith}
use lib.ListN.{length, get_or, set, length-set}
use lib.Seq.{get_or-set_same, get_or-set_other}
use Rattle.base.proofs.List.{each_next}
use Rattle.base.specs.Bit.{digit}
use Rattle.folds.specs.Rows.{row_of}
use Rattle.lane.specs.Lanes.{PairWithin, LanesWithin}
use Rattle.lane_moves.specs.Moves.{Twice, LaneRow}

-- Of what a place was and is: R holds of the two rows of each bit.
abbrev pub Both : (Bool → List ℕ → List ℕ → Type 0) → List (List ℕ) → List (List ℕ) → Type 0
Both R old place = (b : Bool) → R b (row_of old b) (row_of place b)

pub both-rows : (R : Bool → List ℕ → List ℕ → Type 0) (old : List (List ℕ)) (zero one : List ℕ) → R false (row_of old false) zero → R true (row_of old true) one
    → Both R old (zero ∷ one ∷ [])
both-rows R old zero one p q false = p
both-rows R old zero one p q true = q

-- The first n places are what R says of those that stood there, and the others are as they were.
pub record Replaced (R : ℕ → Bool → List ℕ → List ℕ → Type 0) (old : List (List (List ℕ))) (n : ℕ) (out : List (List (List ℕ))) : Type 0 where
  pub room : length out ≡ 16
  pub done : (i : ℕ) → i < n → Both (R i) (get_or old i []) (get_or out i [])
  pub rest : (i : ℕ) → n ≤ i → get_or out i [] ≡ get_or old i []

module _ (R : ℕ → Bool → List ℕ → List ℕ → Type 0) (old : List (List (List ℕ))) where
  pub replaced-none : length old ≡ 16 → Replaced R old 0 old
  replaced-none e = record { room = e; done = λ i l. absurd (omega arith); rest = λ i l. refl }

  -- One place more,
  pub replaced-next : (n : ℕ) (out : List (List (List ℕ))) (place : List (List ℕ)) → Replaced R old n out → n < 16 → Both (R n) (get_or out n []) place
      → Replaced R old (n + 1) (set out n place)
  replaced-next n out place f l e =
      let h : n < length out = omega (arith, f.room) in
      record {
        room = length-set out n _ ∙ f.room;
        done = each_next (λ i (x : List (List ℕ)). Both (R i) (get_or old i []) x) out n [] place h f.done (subst (λ (p : List (List ℕ)). Both (R n) p place) (f.rest n (omega arith)) e);
        rest = λ i li. get_or-set_other out n i place [] (λ d. omega arith) ∙ f.rest i (omega arith);
      }

  -- and a bound of all that stood there, where R keeps it.
  pub replaced-within : (n : ℕ) (out : List (List (List ℕ))) (m : ℕ) → Replaced R old n out
      → ((i : ℕ) (b : Bool) (p q : List ℕ) → i < n → R i b p q → ((l : ℕ) → l < 16 → get_or p l 0 ≤ m) → (l : ℕ) → l < 16 → get_or q l 0 ≤ m)
      → LanesWithin m old → LanesWithin m out
  replaced-within n out m f keeps w j lj = go (dec_lt j n)
    where
      go : Dec (j < n) → PairWithin m (get_or out j [])
      go (yes l) k b lk = keeps j b _ _ l (f.done j l b) (λ i li. w j lj i b li) k lk
      go (no l) k b lk = subst⁻¹ (λ (p : List (List ℕ)). PairWithin m p) (f.rest j (omega arith)) (w j lj) k b lk

-- Eight entries and the same again, from eight numbers: one more,
pub twice-next : (f : ℕ → ℕ) (out : List ℕ) (l x : ℕ) → length out ≡ 16 → l < 8 → x ≡ f l → Twice f l out → Twice f (l + 1) (set (set out l x) (8 + l) x)
twice-next f out l x e ll ex h i li = go (dec_lt i l)
  where
    other : (k : ℕ) → (k ≡ l → ⊥) → (k ≡ 8 + l → ⊥) → get_or (set (set out l x) (8 + l) x) k 0 ≡ get_or out k 0
    other k n m = get_or-set_other (set out l x) (8 + l) k x 0 m ∙ get_or-set_other out l k x 0 n

    here : (get_or (set (set out l x) (8 + l) x) l 0 ≡ f l) × (get_or (set (set out l x) (8 + l) x) (8 + l) 0 ≡ f l)
    here = (
      get_or-set_other (set out l x) (8 + l) l x 0 (λ q. omega arith) ∙ get_or-set_same out l x 0 (omega arith) ∙ ex,
      get_or-set_same (set out l x) (8 + l) x 0 (omega (arith, length-set out l x)) ∙ ex,
    )

    go : Dec (i < l) → (get_or (set (set out l x) (8 + l) x) i 0 ≡ f i) × (get_or (set (set out l x) (8 + l) x) (8 + i) 0 ≡ f i)
    go (yes q) = (other i (λ z. omega arith) (λ z. omega arith) ∙ (h i q).0, other (8 + i) (λ z. omega arith) (λ z. omega arith) ∙ (h i q).1)
    go (no q) = let z : i ≡ l = omega arith in rw z here

-- and a bound of these numbers is one of the row.
pub twice-within : (m : ℕ) (f : ℕ → ℕ) (row : List ℕ) → Twice f 8 row → ((l : ℕ) → l < 8 → f l ≤ m) → (l : ℕ) → l < 16 → get_or row l 0 ≤ m
twice-within m f row e w l ll = go (dec_lt l 8)
  where
    go : Dec (l < 8) → get_or row l 0 ≤ m
    go (yes h) = omega (arith, (e l h).0, w l h)
    go (no h) =
        let z : 8 + (l - 8) ≡ l = omega arith in
        let q : l - 8 < 8 = omega arith in
        omega (arith, ap (λ k. get_or row k 0) z, (e (l - 8) q).1, w (l - 8) q)

-- Both rows of a place have what the pairs of eight lanes have there,
abbrev pub LanePlace : List (List (List ℕ)) → ℕ → List (List ℕ) → Type 0
LanePlace pairs j place = (b : Bool) → LaneRow pairs (digit b) j (row_of place b)

pub lane_place : (pairs : List (List (List ℕ))) (j : ℕ) (zero one : List ℕ) → LaneRow pairs 0 j zero → LaneRow pairs 1 j one → LanePlace pairs j (zero ∷ one ∷ [])
lane_place pairs j zero one p q false = p
lane_place pairs j zero one p q true = q

-- and no more than these.
pub lane-within : (m : ℕ) (pairs : List (List (List ℕ))) (j : ℕ) → j < 16 → (place : List (List ℕ)) → LanePlace pairs j place
    → ((l : ℕ) → l < 8 → PairWithin m (get_or pairs l [])) → PairWithin m place
lane-within m pairs j lj place h w l b ll = twice-within m (λ i. get_or (get_or (get_or pairs i []) (digit b) []) j 0) (row_of place b) (h b) (λ i li. w i li j b lj) l ll
