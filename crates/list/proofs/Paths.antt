-- What holds of the paths that are kept: how many they are, how long, what they pay, and that a list of one is the single decoder.
-- Assumes nothing.
use mathlib.Core.Path.{◌≡◌, refl, sym, ap, ap₂, ◌∙◌, fun_ext}
use mathlib.Core.Bool.{Bool, true, false, not}
use mathlib.Core.List.{List, [], ◌∷◌, ◌++◌, map, append-nil, append_assoc}
use Prim.Native.Nat.{ℕ, zero, suc, ◌+◌, ◌*◌, ◌/◌, ◌^◌, ◌≤◌, ◌<◌, min}
use native.Mathlib.Nat.{add-zero, add-suc, pow-suc}
use native.Mathlib.Numerals.{add-one}
use native.Mathlib.Omega.{arith}
use borrow.Author.Tests.{leb-true, leb-false, lt-ltb, le-ltb}
use lib.Dec.{leb}
use lib.ListN.{length, take, get_or, replicate, length-take, length-append, length-map, replicate-append-replicate}
use lib.Seq.{take-suc, length-take-le}
use lib.IntN.{sub_ℕ}
use lib.Signed.{non_neg}
use Rattle.base.specs.Bit.{digit, odd, tabulate}
use Rattle.polar.specs.Code.{Code, Costs, pay, least, best_score, score}
use Rattle.polar.specs.Follow.{choose, decode}
use Rattle.polar.specs.Exact.{ExactScore, ExactPenalty}
use Rattle.polar.proofs.Least.{least-le, least_at, best-is, score-least}
use Rattle.polar.proofs.Values.{penalty-next}
use Rattle.polar.proofs.Follow.{length-decode, decode-at}
use Rattle.polar.proofs.Alike.{Alike, alike-least}
use Rattle.list.specs.Sort.{insert, sort, in_order}
use Rattle.list.specs.Ahead.{All}
use Rattle.list.specs.Paths.{phase, paths, candidate, marks}
use Rattle.list.proofs.Sort.{all-at, all_take, pick}
use Rattle.list.proofs.Order.{length-order, order-all}
use Rattle.list.proofs.Phase.{phase-order}

-- ---- one phase more

map-map : {X Y Z : Type 0} (g : Y → Z) (f : X → Y) (xs : List X) → map g (map f xs) ≡ map (λ x. g (f x)) xs
map-map g f [] = refl
map-map {X} {Y} {Z} g f (x ∷ xs) = ap (λ (l : List Z). g (f x) ∷ l) (map-map g f xs)

map_same : {X Y : Type 0} (f g : X → Y) → ((x : X) → f x ≡ g x) → (xs : List X) → map f xs ≡ map g xs
map_same f g h [] = refl
map_same {X} {Y} f g h (x ∷ xs) = ap₂ (λ y (l : List Y). y ∷ l) (h x) (map_same f g h xs)

-- The path p with d symbols 0 more.
abbrev with_zeros : ℕ → List Bool → List Bool
with_zeros d p = p ++ replicate d false

module _ (C : Code) (m : Costs) (mark : ℕ → Bool) (L : ℕ) where
  unmarked-next : (n : ℕ) → mark n ≡ false → paths C m mark L (suc n) ≡ map (with_zeros 1) (paths C m mark L n)
  unfolding paths phase
  unmarked-next n e = ap (λ b. phase (least C m) L b (paths C m mark L n)) e

  marked_next : (n : ℕ) → mark n ≡ true
      → let ps = paths C m mark L n in paths C m mark L (suc n) ≡ map (candidate ps) (take L (in_order (λ c. least C m (candidate ps c)) (2 * length ps)))
  unfolding paths
  marked_next n e = ap (λ b. phase (least C m) L b (paths C m mark L n)) e ∙ phase-order (least C m) L (paths C m mark L n)

  -- Through unmarked phases each path keeps its position and gets symbols 0.
  pub unmarked-run : (n d : ℕ) → ((i : ℕ) → i < d → mark (n + i) ≡ false) → paths C m mark L (n + d) ≡ map (λ p. p ++ replicate d false) (paths C m mark L n)
  unmarked-run n zero h = ap (paths C m mark L) (add-zero n) ∙ none (paths C m mark L n)
    where
      none : (ps : List (List Bool)) → ps ≡ map (with_zeros 0) ps
      none [] = refl
      none (p ∷ ps) = ap₂ (λ q (l : List (List Bool)). q ∷ l) (sym (append-nil p)) (none ps)
  unmarked-run n (suc d) h =
      ap (paths C m mark L) (add-suc n d)
      ∙ unmarked-next (n + d) (h d (omega arith))
      ∙ ap (map (with_zeros 1)) (unmarked-run n d (λ i l. h i (omega arith)))
      ∙ map-map (with_zeros 1) (with_zeros d) (paths C m mark L n)
      ∙ map_same (λ p. with_zeros 1 (with_zeros d p)) (with_zeros (suc d)) one_more (paths C m mark L n)
    where
      one_more : (p : List Bool) → with_zeros 1 (with_zeros d p) ≡ with_zeros (suc d) p
      one_more p =
          append_assoc p (replicate d false) (replicate 1 false)
          ∙ ap (λ (l : List Bool). p ++ l) (replicate-append-replicate d 1 false ∙ ap (λ k. replicate k false) (add-one d))

-- ---- how many paths there are

module _ (C : Code) (m : Costs) (mark : ℕ → Bool) (L : ℕ) where
  -- At a marked phase all go on both ways, or L are left;
  pub next-count : (n : ℕ) → mark n ≡ true → length (paths C m mark L (suc n)) ≡ min L (2 * length (paths C m mark L n))
  next-count n e =
      let ps = paths C m mark L n in
      let o = in_order (λ c. least C m (candidate ps c)) (2 * length ps) in
      ap (λ (l : List (List Bool)). length l) (marked_next C m mark L n e)
      ∙ length-map (take L o) (candidate ps)
      ∙ length-take L o
      ∙ ap (min L) (length-order (λ c. least C m (candidate ps c)) (2 * length ps))

  -- at any other they stay as many.
  pub same_count : (n : ℕ) → mark n ≡ false → length (paths C m mark L (suc n)) ≡ length (paths C m mark L n)
  same_count n e = ap (λ (l : List (List Bool)). length l) (unmarked-next C m mark L n e) ∙ length-map (paths C m mark L n) (with_zeros 1)

  -- So after n phases there are as many as the marked ones allow, or L.
  pub paths-count : 1 ≤ L → (n : ℕ) → length (paths C m mark L n) ≡ min L (2 ^ marks mark n)
  unfolding paths marks
  paths-count l zero = omega arith
  paths-count l (suc n) = go (mark n) refl (paths-count l n)
    where
      go : (b : Bool) → mark n ≡ b → length (paths C m mark L n) ≡ min L (2 ^ marks mark n)
          → length (paths C m mark L (suc n)) ≡ min L (2 ^ (marks mark n + digit b))
      go true e h =
          let p : 2 ^ (marks mark n + 1) ≡ 2 ^ marks mark n * 2 = ap (λ k. 2 ^ k) (add-one (marks mark n)) ∙ pow-suc 2 (marks mark n) in
          let q = next-count n e in
          rw p (omega arith)
      go false e h = same_count n e ∙ h ∙ ap (λ k. min L (2 ^ k)) (sym (add-zero (marks mark n)))

-- ---- how long they are

abbrev Long : ℕ → List Bool → Type 0
Long n p = length p ≡ n

long-next : (n : ℕ) (p : List Bool) (b : Bool) → Long n p → Long (suc n) (p ++ (b ∷ []))
long-next n p b e = length-append p (b ∷ []) ∙ omega arith

long-candidate : (n : ℕ) (ps : List (List Bool)) → All (Long n) ps → (c : ℕ) → c < 2 * length ps → Long (suc n) (candidate ps c)
long-candidate n ps a c l = long-next n (get_or ps (c / 2) []) (odd c) (all-at (Long n) ps (c / 2) [] (omega arith) a)

all_map : {X Y : Type 0} (P : X → Type 0) (Q : Y → Type 0) (f : X → Y) → ((x : X) → P x → Q (f x)) → (xs : List X) → All P xs → All Q (map f xs)
all_map P Q f h [] a = tt
all_map P Q f h (x ∷ xs) (p, a) = (h x p, all_map P Q f h xs a)

-- A phase gives every path one symbol more.
pub phase-long : (penalty : List Bool → ℕ) (L n : ℕ) (marked : Bool) (ps : List (List Bool)) → All (λ p. length p ≡ n) ps → All (λ p. length p ≡ suc n) (phase penalty L marked ps)
unfolding phase
phase-long penalty L n true ps a =
    let key : ℕ → ℕ = λ c. penalty (candidate ps c) in
    let k = 2 * length ps in
    rw (phase-order penalty L ps)
    (all_map (λ c. c < k) (Long (suc n)) (candidate ps) (long-candidate n ps a) (take L (in_order key k)) (all_take (λ c. c < k) L (in_order key k) (order-all key k)))
phase-long penalty L n false ps a = all_map (Long n) (Long (suc n)) (λ p. p ++ (false ∷ [])) (λ p q. long-next n p false q) ps a

module _ (C : Code) (m : Costs) (mark : ℕ → Bool) (L : ℕ) where
  pub all-long : (n : ℕ) → All (λ p. length p ≡ n) (paths C m mark L n)
  unfolding paths
  all-long zero = (refl, tt)
  all-long (suc n) = phase-long (least C m) L n (mark n) (paths C m mark L n) (all-long n)

  -- After n phases each path has n symbols.
  pub paths-long : (n i : ℕ) → i < length (paths C m mark L n) → length (get_or (paths C m mark L n) i []) ≡ n
  paths-long n i l = all-at (Long n) (paths C m mark L n) i [] l (all-long n)

  -- ---- what they pay

  -- A kept path's penalty grows by what the score at its phase pays for the symbol.
  pub penalty-grows : (n i : ℕ) → n < C.size → i < length (paths C m mark L n) → (b : Bool)
      → let p = get_or (paths C m mark L n) i [] in least C m (p ++ (b ∷ [])) ≡ least C m p + pay (score C m p) b
  penalty-grows n i l li b = penalty-next C m (get_or (paths C m mark L n) i []) b (omega (arith, paths-long n i li))

-- Scores and penalties along any path are exact.
along-exact : (C : Code) (m : Costs) (p : List Bool) → length p ≤ C.size → (j : ℕ) → j < length p
    → ExactScore C m p j (score C m (take j p)) × ExactPenalty C m p j (least C m (take (suc j) p))
unfolding score
along-exact C m p l j lj =
    let front : length (take j p) ≡ j = length-take-le j p (omega arith) in
    let counted : length (take (suc j) p) ≡ suc j = length-take-le (suc j) p (omega arith) in
    let fits : (b : Bool) → length (take j p ++ (b ∷ [])) ≤ C.size = λ b. omega (arith, length-append (take j p) (b ∷ []), front) in
    let a = least_at C m (take (suc j) p) (omega arith) in (
      record {
        x0 = best_score C m (take j p ++ (false ∷ []));
        x1 = best_score C m (take j p ++ (true ∷ []));
        best0 = best-is C m (take j p ++ (false ∷ [])) (fits false);
        best1 = best-is C m (take j p ++ (true ∷ [])) (fits true);
        less = refl;
      },
      record { paid = (a.0, a.1, a.2); no_less = λ t q. least-le C m (take (suc j) p) t q },
    )

-- Every kept path's scores and penalties are exact, at every phase so far.
pub kept-exact : (C : Code) (m : Costs) (mark : ℕ → Bool) (L n i : ℕ) → n ≤ C.size → i < length (paths C m mark L n) → (j : ℕ) → j < n
    → let p = get_or (paths C m mark L n) i [] in ExactScore C m p j (score C m (take j p)) × ExactPenalty C m p j (least C m (take (suc j) p))
kept-exact C m mark L n i l li j lj =
    let e = paths-long C m mark L n i li in
    along-exact C m (get_or (paths C m mark L n) i []) (omega arith) j (omega arith)

-- ---- a list of one

-- Of two ways on, the one of lesser penalty is the one that the score's sign names.
signs : (a b : ℕ) → not (non_neg (sub_ℕ b a)) ≡ not (leb a b)
signs a b = go (leb a b) refl
  where
    go : (c : Bool) → leb a b ≡ c → not (non_neg (sub_ℕ b a)) ≡ not c
    go true e = let h = leb-true a b e in rw (le-ltb b a h)
    go false e = let h = leb-false a b e in rw (lt-ltb b a h)

one : (C : Code) (m : Costs) (b : Bool) (q : List Bool) → phase (least C m) 1 b (q ∷ []) ≡ (q ++ (choose b (score C m q) ∷ [])) ∷ []
unfolding phase in_order sort insert tabulate
one C m true q =
    let x = least C m (q ++ (false ∷ [])) in
    let y = least C m (q ++ (true ∷ [])) in
    phase-order (least C m) 1 (q ∷ [])
    ∙ go (leb x y) ∙ ap (λ c. (q ++ (c ∷ [])) ∷ []) (sym (ap (λ s. not (non_neg s)) (score-least C m q) ∙ signs x y))
  where
    go : (c : Bool) → map (candidate (q ∷ [])) (take 1 (pick c (0 ∷ 1 ∷ []) (1 ∷ 0 ∷ []))) ≡ (q ++ (not c ∷ [])) ∷ []
    go true = refl
    go false = refl
one C m false q = refl

-- With L = 1 the path is the single decoder's.
pub single : (C : Code) (m : Costs) (mark : ℕ → Bool) (n : ℕ) → n ≤ C.size → paths C m mark 1 n ≡ take n (decode C m mark) ∷ []
unfolding paths
single C m mark zero l = refl
single C m mark (suc n) l =
    let u = decode C m mark in
    ap (phase (least C m) 1 (mark n)) (single C m mark n (omega arith))
    ∙ one C m (mark n) (take n u)
    ∙ ap (λ b. (take n u ++ (b ∷ [])) ∷ []) (sym (decode-at C m mark n l))
    ∙ ap (λ (p : List Bool). p ∷ []) (sym (take-suc u n false (omega (arith, length-decode C m mark))))

-- ---- codes that are alike keep the same paths

pub alike-paths : (C D : Code) → Alike C D → (m : Costs) (mark : ℕ → Bool) (L n : ℕ) → paths C m mark L n ≡ paths D m mark L n
unfolding paths
alike-paths C D a m mark L zero = refl
alike-paths C D a m mark L (suc n) =
    ap₂ (λ (penalty : List Bool → ℕ) (ps : List (List Bool)). phase penalty L (mark n) ps) (fun_ext (alike-least C D a m)) (alike-paths C D a m mark L n)
