-- Costs as channel values: the layer theorem in scores alone, the running penalty, and how far scores go. Assumes nothing.
use mathlib.Core.Path.{◌≡◌, sym, ap, ap₂, ◌∙◌, fun_ext}
use mathlib.Core.Bool.{Bool, true, false}
use mathlib.Core.List.{List, [], ◌∷◌, ◌++◌, append_assoc}
use Prim.Native.Nat.{ℕ, ◌+◌, ◌*◌, ◌/◌, ◌≤◌, ◌<◌, min}
use native.Mathlib.Decide.{dec_lt}
use native.Mathlib.Omega.{arith}
use borrow.Author.Tests.{lt-ltb, le-ltb}
use lib.ListN.{length, get_or, take, drop, length-append}
use lib.IntN.{ℤ, pos, negsuc, nat_abs, sub_ℕ}
use Rattle.polar.specs.Code.{Code, Costs, pay, channel, sum, total, least, score, Onto}
use Rattle.polar.specs.Stages.{rows, column, staged, block, pairs, soft}
use Rattle.polar.proofs.Minima.{minimum-cong, minimum-shift, sum-cong, sum-add, sum-const}
use Rattle.polar.proofs.Least.{score-least, least_step, least-sum}
use Rattle.polar.proofs.Layer.{Parted, parted, layer}

-- The score after whole rows u and a part p of the next is the inner code's, over the pairs.
pub score-layer : (A B : Code) → Onto A → (m : Costs) (r : ℕ) (u p : List Bool) → length u ≡ r * A.size → r < B.size → length p < A.size
    → score (staged A B) m (u ++ p) ≡ score A (pairs A B m (rows A.size r u)) p
score-layer A B onto m r u p e lr lp = score-least (staged A B) m (u ++ p) ∙ ap₂ sub_ℕ (go true) (go false) ∙ sym (score-least A _ p)
  where
    go : (b : Bool) → least (staged A B) m (u ++ p ++ (b ∷ [])) ≡ least A (pairs A B m (rows A.size r u)) (p ++ (b ∷ []))
    go b = rw (append_assoc u p (b ∷ [])) (layer A onto B m r u (p ++ (b ∷ [])) e lr (simp (length-append) (omega arith)))

-- The value of a pair of costs: what bit 1 pays more than bit 0.
abbrev pub value : (Bool → ℕ) → ℤ
value c = sub_ℕ (c true) (c false)

-- What both bits pay.
abbrev pub common : (Bool → ℕ) → ℕ
common c = min (c false) (c true)

-- The costs of the values of costs.
abbrev pub values : Costs → Costs
values m i = pay (value (m i))

-- A pair pays what both bits pay, and what its value pays.
pub parts : (c : Bool → ℕ) (b : Bool) → c b ≡ common c + pay (value c) b
parts c b = go (dec_lt (c true) (c false)) b
  where
    go : Dec (c true < c false) → (b : Bool) → c b ≡ common c + pay (value c) b
    go (yes l) false = rw (lt-ltb (c true) (c false) l) (omega arith)
    go (yes l) true = rw (lt-ltb (c true) (c false) l) (omega arith)
    go (no l) false = let h : c false ≤ c true = omega arith in rw (le-ltb (c true) (c false) h) (omega arith)
    go (no l) true = let h : c false ≤ c true = omega arith in rw (le-ltb (c true) (c false) h) (omega arith)

-- The least over costs: what all words pay, and the least over the values.
pub least-values : (C : Code) (m : Costs) (p : List Bool) → least C m p ≡ sum C.places (λ i. common (m i)) + least C (values m) p
unfolding least total
least-values C m p =
    minimum-cong _ (λ t _. sum-cong C.places (λ i _. parts (m i) (C.word (p ++ t) i))
    ∙ sum-add C.places (λ i. common (m i)) (λ i. values m i (C.word (p ++ t) i)))
    ∙ minimum-shift (sum C.places (λ i. common (m i))) _ (λ t. total C (values m) (p ++ t))

sub-shift : (c a b : ℕ) → sub_ℕ (c + a) (c + b) ≡ sub_ℕ a b
sub-shift c a b = go (dec_lt a b)
  where
    go : Dec (a < b) → sub_ℕ (c + a) (c + b) ≡ sub_ℕ a b
    go (yes l) = let h : c + a < c + b = omega arith in rw (lt-ltb a b l, lt-ltb (c + a) (c + b) h) (ap negsuc (omega arith))
    go (no l) = let h : c + b ≤ c + a = omega arith in let l' : b ≤ a = omega arith in rw (le-ltb a b l', le-ltb (c + a) (c + b) h) (ap pos (omega arith))

-- The scores over costs are those over the values.
pub score-values : (C : Code) (m : Costs) (p : List Bool) → score C m p ≡ score C (values m) p
score-values C m p =
    score-least C m p
    ∙ ap₂ sub_ℕ (least-values C m (p ++ (true ∷ []))) (least-values C m (p ++ (false ∷ [])))
    ∙ sub-shift (sum C.places (λ i. common (m i))) _ _
    ∙ sym (score-least C (values m) p)

-- The value of what the outer code asks for a place is the outer score there.
value-pairs : (A B : Code) (m : Costs) (U : List (List Bool)) (j : ℕ)
    → value (pairs A B m U j) ≡ score B (block B.places m j) (column A U j)
unfolding pairs
value-pairs A B m U j = sym (score-least B (block B.places m j) (column A U j))

-- One more symbol adds what the score at its phase pays for it: penalties follow from scores alone.
pub penalty-next : (C : Code) (m : Costs) (p : List Bool) (b : Bool) → length p < C.size
    → least C m (p ++ (b ∷ [])) ≡ least C m p + pay (score C m p) b
penalty-next C m p b l =
    parts (λ c. least C m (p ++ (c ∷ []))) b
    ∙ ap₂ (λ x s. x + pay s b) (sym (least_step C m p l)) (sym (score-least C m p))

-- The layer theorem in scores alone: the scores of two stages are the inner code's, with the outer scores as its channel values.
pub layer-scores : (A B : Code) → Onto A → (m : Costs) (r : ℕ) (u p : List Bool) → length u ≡ r * A.size → r < B.size → length p < A.size
    → score (staged A B) m (u ++ p) ≡ score A (soft A B m (rows A.size r u)) p
layer-scores A B onto m r u p e lr lp =
    score-layer A B onto m r u p e lr lp
    ∙ score-values A (pairs A B m (rows A.size r u)) p
    ∙ ap (λ c. score A c p) (fun_ext (λ j. ap pay (value-pairs A B m (rows A.size r u) j)))

-- The same of the symbols q so far.
pub layer-scores-next : (A B : Code) → Onto A → (m : Costs) (q : List Bool) → length q < B.size * A.size
    → score (staged A B) m q ≡ score A (soft A B m (rows A.size (length q / A.size) q)) (drop (length q / A.size * A.size) q)
layer-scores-next A B onto m q l = go (length q / A.size) (parted A.size B.size q l)
  where
    go : (r : ℕ) → Parted A.size B.size r q → score (staged A B) m q ≡ score A (soft A B m (rows A.size r q)) (drop (r * A.size) q)
    go r c =
        ap (score (staged A B) m) (sym c.whole)
        ∙ layer-scores A B onto m r (take (r * A.size) q) (drop (r * A.size) q) c.row_count c.in_frame c.in_row
        ∙ ap (λ U. score A (soft A B m U) (drop (r * A.size) q)) c.same_rows

-- ---- how far scores go

-- A value pays at most its size,
pub pay-size : (y : ℤ) (b : Bool) → pay y b ≤ nat_abs y
pay-size (pos y) false = omega arith
pay-size (pos y) true = omega arith
pay-size (negsuc y) false = omega arith
pay-size (negsuc y) true = omega arith

-- and its size is at most a bound of what it pays.
pub size-pays : (y : ℤ) (n : ℕ) → ((b : Bool) → pay y b ≤ n) → nat_abs y ≤ n
size-pays (pos y) n h = h true
size-pays (negsuc y) n h = h false

-- A score is at most the sum of what the places pay at most, in size,
pub score-sum : (C : Code) (m : Costs) (most : ℕ → ℕ) → ((i : ℕ) (b : Bool) → m i b ≤ most i) → (p : List Bool) → nat_abs (score C m p) ≤ sum C.places most
score-sum C m most h p =
    size-pays (score C m p) _ (λ b.
    let q : Bool → ℕ = λ d. least C m (p ++ (d ∷ [])) in
    rw score-least (omega (arith, parts q b, least-sum C m most h (p ++ (b ∷ [])))))

-- so at most c for each place, where no cost exceeds c.
pub score-bound : (C : Code) (m : Costs) (c : ℕ) → ((i : ℕ) (b : Bool) → m i b ≤ c) → (p : List Bool) → nat_abs (score C m p) ≤ C.places * c
score-bound C m c h p = rw (← (sum-const C.places c)) (score-sum C m (λ _. c) h p)

-- The score of any code over any channel values is in size at most the sum of their sizes.
pub score-size : (C : Code) (ys : List ℤ) (p : List Bool) → nat_abs (score C (channel ys) p) ≤ sum C.places (λ i. nat_abs (get_or ys i (pos 0)))
score-size C ys p = score-sum C (channel ys) (λ i. nat_abs (get_or ys i (pos 0))) (λ i b. pay-size (get_or ys i (pos 0)) b) p
