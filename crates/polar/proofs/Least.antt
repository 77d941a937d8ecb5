-- Laws of the least total and of scores: they are what the paper's words say. Assumes nothing.
use mathlib.Core.Path.{◌≡◌, refl, sym, ap, ap₂, ◌∙◌}
use mathlib.Core.Bool.{Bool, true, false}
use mathlib.Core.List.{List, [], ◌∷◌, ◌++◌, append_assoc}
use Prim.Native.Nat.{ℕ, zero, suc, ◌-◌, ◌*◌, ◌≤◌, ◌<◌, min}
use native.Mathlib.Nat.{sub-zero, le_antisymm}
use native.Mathlib.Numerals.{add-one}
use native.Mathlib.Decide.{dec_le}
use native.Mathlib.Omega.{arith}
use lib.ListN.{length, get_or, length-append}
use borrow.Author.Tests.{le-ltb}
use lib.Dec.{le→leb, leb→le}
use lib.IntN.{ℤ, pos, negsuc, neg_ℤ, sub_ℕ, ◌+ℤ◌, ◌-ℤ◌, neg_ℤ-neg_ℤ}
use lib.Signed.{◌≤ℤ◌, le_z_yes}
use Rattle.polar.specs.Code.{Code, Costs, pay, channel, sum, total, minimum, least, best_score, IsBest, score, Onto}
use Rattle.polar.proofs.Minima.{minimum-le, minimum-at, minimum-cong, sum-cong, sum-le, sum-zero, sum-const}

-- Every word that begins with p pays at least the least,
pub least-le : (C : Code) (m : Costs) (p t : List Bool) → length (p ++ t) ≡ C.size → least C m p ≤ total C m (p ++ t)
unfolding least
least-le C m p t e =
    let l : C.size - length p ≡ length t = omega (arith, length-append p t) in
    rw l (minimum-le t (λ s. total C m (p ++ s)))

-- and one of them pays it.
pub least_at : (C : Code) (m : Costs) (p : List Bool) → length p ≤ C.size
    → (t : List Bool) × (length (p ++ t) ≡ C.size) × (total C m (p ++ t) ≡ least C m p)
unfolding least
least_at C m p l =
    let a = minimum-at (C.size - length p) (λ s. total C m (p ++ s)) in
    (a.0, omega (arith, length-append p a.0, a.1), a.2)

-- The least after p is the lesser of those after p 0 and p 1.
pub least_step : (C : Code) (m : Costs) (p : List Bool) → length p < C.size
    → least C m p ≡ min (least C m (p ++ (false ∷ []))) (least C m (p ++ (true ∷ [])))
unfolding least minimum
least_step C m p l =
    let e : C.size - length p ≡ suc (C.size - suc (length p)) = omega arith in
    rw e (simp (length-append, add-one, append_assoc))

-- One of the two bits is the cheaper.
cheaper : (c : Bool → ℕ) → (b : Bool) × (c b ≡ min (c false) (c true))
cheaper c = go (dec_le (c false) (c true))
  where
    go : Dec (c false ≤ c true) → (b : Bool) × (c b ≡ min (c false) (c true))
    go (yes l) = (false, omega arith)
    go (no l) = (true, omega arith)

min-lower : (c : Bool → ℕ) (b : Bool) → min (c false) (c true) ≤ c b
min-lower c false = omega arith
min-lower c true = omega arith

-- An onto code can choose each place's bit by itself.
pub free : (C : Code) → Onto C → (m : Costs) → minimum C.size (total C m) ≡ sum C.places (λ i. min (m i false) (m i true))
unfolding total
free C onto m =
    let o = onto (λ i. (cheaper (m i)).0) in
    let a = minimum-at C.size (total C m) in
    let e : total C m o.0 ≡ sum C.places (λ i. min (m i false) (m i true)) =
    sum-cong C.places (λ i l. ap (m i) (o.2 i l) ∙ (cheaper (m i)).1) in
    le_antisymm
    (rw (← e, ← o.1) (minimum-le o.0 (total C m)))
    (rw (← a.2) (sum-le C.places (λ i. min-lower (m i) (C.word a.0 i))))

-- Before any symbol an onto code pays at each place the lesser cost.
pub least-free : (C : Code) → Onto C → (m : Costs) → least C m [] ≡ sum C.places (λ i. min (m i false) (m i true))
unfolding least
least-free C onto m = rw sub-zero (free C onto m)

-- Before any symbol an onto code pays nothing, if each place has a bit that pays nothing.
pub least-nil : (C : Code) → Onto C → (m : Costs) → ((i : ℕ) → min (m i false) (m i true) ≡ 0) → least C m [] ≡ 0
least-nil C onto m z = least-free C onto m ∙ sum-cong C.places (λ i l. z i) ∙ sum-zero C.places

pub pay-free : (y : ℤ) → min (pay y false) (pay y true) ≡ 0
pay-free (pos y) = omega arith
pay-free (negsuc y) = omega arith

-- So before any symbol the penalty of channel values is 0.
pub channel-nil : (C : Code) → Onto C → (ys : List ℤ) → least C (channel ys) [] ≡ 0
channel-nil C onto ys = least-nil C onto (channel ys) (λ i. pay-free (get_or ys i (pos 0)))

-- Costs that agree at the code's places give one least.
pub least-cong : (C : Code) {m m' : Costs} → ((i : ℕ) → i < C.places → (b : Bool) → m i b ≡ m' i b) → (p : List Bool) → least C m p ≡ least C m' p
unfolding least total
least-cong C h p = minimum-cong _ (λ t _. sum-cong C.places (λ i l. h i l (C.word (p ++ t) i)))

-- The least is at most the sum of what the places pay at most,
pub least-sum : (C : Code) (m : Costs) (most : ℕ → ℕ) → ((i : ℕ) (b : Bool) → m i b ≤ most i) → (p : List Bool) → least C m p ≤ sum C.places most
unfolding least total
least-sum C m most h p =
    let a = minimum-at (C.size - length p) (λ t. total C m (p ++ t)) in
    rw (← a.2) (sum-le C.places (λ i. h i (C.word (p ++ a.0) i)))

-- so at most c for each place, where no cost exceeds c.
pub least-bound : (C : Code) (m : Costs) (c : ℕ) → ((i : ℕ) (b : Bool) → m i b ≤ c) → (p : List Bool) → least C m p ≤ C.places * c
least-bound C m c h p = rw (← (sum-const C.places c)) (least-sum C m (λ _. c) h p)

-- ---- the best score in the paper's words

sub-neg : (a b : ℕ) → neg_ℤ (pos a) -ℤ neg_ℤ (pos b) ≡ sub_ℕ b a
sub-neg a b = ap (λ z. neg_ℤ (pos a) +ℤ z) (neg_ℤ-neg_ℤ (pos b)) ∙ go a
  where
    go : (a : ℕ) → neg_ℤ (pos a) +ℤ pos b ≡ sub_ℕ b a
    go zero = rw (le-ltb b 0 (omega arith)) (ap pos (omega arith))
    go (suc a) = refl

-- A score is the least total with 1 next, less that with 0 next.
pub score-least : (C : Code) (m : Costs) (p : List Bool) → score C m p ≡ sub_ℕ (least C m (p ++ (true ∷ []))) (least C m (p ++ (false ∷ [])))
unfolding score
score-least C m p = sub-neg (least C m (p ++ (false ∷ []))) (least C m (p ++ (true ∷ [])))

neg-le : (a b : ℕ) → a ≤ b → neg_ℤ (pos b) ≤ℤ neg_ℤ (pos a)
neg-le zero zero l = le_z_yes tt
neg-le zero (suc b) l = le_z_yes tt
neg-le (suc a) zero l = absurd (omega arith)
neg-le (suc a) (suc b) l = le_z_yes (le→leb a b (omega arith))

le-neg : (a b : ℕ) → neg_ℤ (pos b) ≤ℤ neg_ℤ (pos a) → a ≤ b
le-neg zero b h = omega arith
le-neg (suc a) zero h = absurd h.le
le-neg (suc a) (suc b) h = omega (arith, leb→le a b h.le)

-- The best score is one that a word has and none exceeds,
pub best-is : (C : Code) (m : Costs) (p : List Bool) → length p ≤ C.size → IsBest C m p (best_score C m p)
best-is C m p l =
    let a = least_at C m p l in
    record { had = (a.0, a.1, ap (λ n. neg_ℤ (pos n)) a.2); top = λ t e. neg-le _ _ (least-le C m p t e) }

-- and the only one.
pub best-only : (C : Code) (m : Costs) (p : List Bool) (x : ℤ) → length p ≤ C.size → IsBest C m p x → x ≡ best_score C m p
best-only C m p x l h =
    let t = h.had in
    let a = least_at C m p l in
    let up : total C m (p ++ t.0) ≤ total C m (p ++ a.0) = le-neg _ _ (rw (← t.2) at (h.top a.0 a.1)) in
    sym t.2 ∙ ap (λ n. neg_ℤ (pos n)) (le_antisymm (rw (← a.2) up) (least-le C m p t.0 t.1))

-- The score is the best score with 0 next, less the best with 1 next.
pub score-best : (C : Code) (m : Costs) (p : List Bool) (x y : ℤ) → length p < C.size
    → IsBest C m (p ++ (false ∷ [])) x → IsBest C m (p ++ (true ∷ [])) y → score C m p ≡ x -ℤ y
unfolding score
score-best C m p x y l hx hy =
    let fits : (b : Bool) → length (p ++ (b ∷ [])) ≤ C.size = λ b. rw length-append (omega arith) in
    sym (ap₂ ◌-ℤ◌ (best-only C m (p ++ (false ∷ [])) x (fits false) hx) (best-only C m (p ++ (true ∷ [])) y (fits true) hy))
