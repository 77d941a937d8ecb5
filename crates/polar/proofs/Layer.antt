-- The layer theorem: the least total of two stages is that of the inner code, over costs that the outer one gives. Assumes nothing.
use mathlib.Core.Path.{◌≡◌, refl, sym, ap, ap₂, ◌∙◌}
use mathlib.Core.Bool.{Bool}
use mathlib.Core.List.{List, [], ◌∷◌, ◌++◌, append_assoc, append-nil, map-append}
use Prim.Native.Nat.{ℕ, zero, suc, ◌+◌, ◌-◌, ◌*◌, ◌/◌, ◌≤◌, ◌<◌}
use native.Mathlib.Nat.{suc-add, zero-add, zero-mul, suc-mul, add-mul, add_comm, add-zero, mul-zero, div-add-mod', lt-div-mul-add, div-lt_iff_lt-mul}
use native.Mathlib.Numerals.{add-one}
use native.Mathlib.Omega.{arith}
use lib.ListN.{length, take, drop, length-append, length-map, length-drop, take-append-drop}
use lib.Seq.{take_at, drop_at, take-append-le, drop-append-le, length-take-le}
use Rattle.polar.specs.Code.{Code, Costs, sum, total, minimum, least, Onto}
use Rattle.polar.specs.Stages.{rows, column, staged, block, pairs}
use Rattle.polar.proofs.Minima.{minimum-cong, minimum-append, sum-cong, sum-blocks, quot, rest}
use Rattle.polar.proofs.Least.{free}

-- Rows of symbols one after the other.
pub rows_append : (n r k : ℕ) (u t : List Bool) → length u ≡ r * n → rows n (r + k) (u ++ t) ≡ rows n r u ++ rows n k t
unfolding rows
rows_append n zero k [] t e = rw zero-add
rows_append n zero k (b ∷ u) t e = absurd (omega (arith, zero-mul n))
rows_append n (suc r) k u t e =
    let l : n ≤ length u = omega (arith, suc-mul r n) in
    let d : length (drop n u) ≡ r * n = rw length-drop (omega (arith, suc-mul r n)) in
    rw (suc-add, take-append-le, drop-append-le, rows_append n r k (drop n u) t d)

-- The total of two stages is that of its outer words.
pub staged-total : (A B : Code) (m : Costs) (u : List Bool)
    → total (staged A B) m u ≡ sum A.places (λ j. total B (block B.places m j) (column A (rows A.size B.size u) j))
unfolding total
staged-total A B m u =
    sum-blocks A.places B.places _
    ∙ sum-cong A.places (λ j l. sum-cong B.places (λ t h.
    ap₂ (λ q s. m (B.places * j + t) (B.word (column A (rows A.size B.size u) q) s)) (quot _ j t h) (rest _ j t h)))

pub length-rows : (n k : ℕ) (u : List Bool) → length (rows n k u) ≡ k
unfolding rows
length-rows n zero u = refl
length-rows n (suc k) u = ap suc (length-rows n k (drop n u))

-- The columns of whole rows u, one row v and further rows t.
pub column-rows : (A : Code) (r k : ℕ) (u v t : List Bool) (j : ℕ) → length u ≡ r * A.size → length v ≡ A.size
    → column A (rows A.size (r + suc k) (u ++ (v ++ t))) j ≡ column A (rows A.size r u) j ++ (A.word v j ∷ column A (rows A.size k t) j)
unfolding rows
column-rows A r k u v t j eu ev = rw (rows_append A.size r (suc k) u (v ++ t) eu, map-append, take_at v t _ ev, drop_at v t _ ev)

pairs-are : (A B : Code) (m : Costs) (U : List (List Bool)) (j : ℕ) (b : Bool)
    → pairs A B m U j b ≡ minimum (B.size - suc (length U)) (λ c. total B (block B.places m j) (column A U j ++ (b ∷ c)))
unfolding pairs least
pairs-are A B m U j b = simp (length-append, length-map, add-one, append_assoc)

module _ (A : Code) (onto : Onto A) where
  -- Rows that are all free: each outer word is free by itself.
  pub rows-free : (k : ℕ) (F : ℕ → List Bool → ℕ)
      → minimum (k * A.size) (λ t. sum A.places (λ j. F j (column A (rows A.size k t) j))) ≡ sum A.places (λ j. minimum k (F j))
  unfolding minimum rows total
  rows-free zero F = rw zero-mul
  rows-free (suc k) F =
      rw (suc-mul, add_comm (k * A.size) A.size, minimum-append)
      (minimum-cong A.size (λ s e. minimum-cong (k * A.size) (λ t _. rw (take_at s t _ e, drop_at s t _ e))
      ∙ rows-free k (λ j c. F j (A.word s j ∷ c)))
      ∙ free A onto (λ j b. minimum k (λ c. F j (b ∷ c))))

  -- With k further rows to come.
  layer-rows : (B : Code) (m : Costs) (r k : ℕ) (u p : List Bool) → length u ≡ r * A.size → B.size ≡ r + suc k → length p ≤ A.size
      → least (staged A B) m (u ++ p) ≡ least A (pairs A B m (rows A.size r u)) p
  unfolding least total
  layer-rows B m r k u p eu en lp =
      let el : B.size * A.size - length (u ++ p) ≡ (A.size - length p) + k * A.size =
      omega (arith, length-append u p, add-mul r (suc k) A.size, suc-mul k A.size, ap (λ z. z * A.size) en) in
      let ek : B.size - suc r ≡ k = omega arith in
      rw (el, minimum-append)
      (minimum-cong (A.size - length p) (λ s es.
      let ep : length (p ++ s) ≡ A.size = omega (arith, length-append p s) in
      minimum-cong (k * A.size) (λ t _. staged-total A B m _ ∙ sum-cong A.places (λ j l. ap (total B (block B.places m j))
      (rw (en, append_assoc u p (s ++ t), ← (append_assoc p s t)) (column-rows A r k u (p ++ s) t j eu ep))))
      ∙ rows-free k (λ j c. total B (block B.places m j) (column A (rows A.size r u) j ++ (A.word (p ++ s) j ∷ c)))
      ∙ sum-cong A.places (λ j l. rw (pairs-are A B m (rows A.size r u) j (A.word (p ++ s) j), length-rows, ek))))

  -- The layer theorem: after r whole rows u and the part p of the next row, the least of both is that of the inner code, over the pairs of the outer one.
  pub layer : (B : Code) (m : Costs) (r : ℕ) (u p : List Bool) → length u ≡ r * A.size → r < B.size → length p ≤ A.size
      → least (staged A B) m (u ++ p) ≡ least A (pairs A B m (rows A.size r u)) p
  layer B m r u p eu lr lp = layer-rows B m r (B.size - suc r) u p eu (omega arith) lp

-- The rows of a part that holds them.
pub rows_take : (n r : ℕ) (u : List Bool) → r * n ≤ length u → rows n r (take (r * n) u) ≡ rows n r u
unfolding rows
rows_take n r u l =
    let h = rows_append n r zero (take (r * n) u) (drop (r * n) u) (length-take-le _ u l) in
    sym (rw (add-zero, take-append-drop, append-nil) at h)

pub pos-right : (x a n : ℕ) → x < a * n → 0 < n
pos-right x a zero l = absurd (omega (arith, mul-zero a))
pos-right x a (suc n) l = omega arith

-- The symbols q so far as whole rows and a part of the next: r rows of n, of N.
pub record Parted (n N r : ℕ) (q : List Bool) : Type 0 where
  pub whole : take (r * n) q ++ drop (r * n) q ≡ q
  pub row_count : length (take (r * n) q) ≡ r * n
  pub in_frame : r < N
  pub in_row : length (drop (r * n) q) < n
  pub same_rows : rows n r (take (r * n) q) ≡ rows n r q

pub parted : (n N : ℕ) (q : List Bool) → length q < N * n → Parted n N (length q / n) q
parted n N q l = go (length q / n) (omega (arith, div-add-mod' (length q) n)) (lt-div-mul-add pos) ((div-lt_iff_lt-mul pos).1 l)
  where
    pos : 0 < n
    pos = pos-right (length q) N n l

    go : (r : ℕ) → r * n ≤ length q → length q < r * n + n → r < N → Parted n N r q
    go r low high lr = record {
      whole = take-append-drop (r * n) q;
      row_count = length-take-le (r * n) q low;
      in_frame = lr;
      in_row = rw length-drop (omega arith);
      same_rows = rows_take n r q low;
    }

-- The layer theorem for the symbols q so far and one more, b.
pub layer-next : (A B : Code) → Onto A → (m : Costs) (q : List Bool) (b : Bool) → length q < B.size * A.size
    → least (staged A B) m (q ++ (b ∷ []))
    ≡ least A (pairs A B m (rows A.size (length q / A.size) q)) (drop (length q / A.size * A.size) q ++ (b ∷ []))
layer-next A B onto m q b l = go (length q / A.size) (parted A.size B.size q l)
  where
    go : (r : ℕ) → Parted A.size B.size r q
        → least (staged A B) m (q ++ (b ∷ [])) ≡ least A (pairs A B m (rows A.size r q)) (drop (r * A.size) q ++ (b ∷ []))
    go r c =
        let u = take (r * A.size) q in
        let p = drop (r * A.size) q in
        ap (λ v. least (staged A B) m (v ++ (b ∷ []))) (sym c.whole)
        ∙ ap (least (staged A B) m) (append_assoc u p (b ∷ []))
        ∙ layer A onto B m r u (p ++ (b ∷ [])) c.row_count c.in_frame (rw length-append (omega (arith, c.in_row)))
        ∙ ap (λ U. least A (pairs A B m U) (p ++ (b ∷ []))) c.same_rows

-- One more row, one more bit in each column.
pub column-next : (A : Code) (r : ℕ) (u v : List Bool) (j : ℕ) → length u ≡ r * A.size → length v ≡ A.size
    → column A (rows A.size (suc r) (u ++ v)) j ≡ column A (rows A.size r u) j ++ (A.word v j ∷ [])
unfolding rows
column-next A r u v j eu ev = rw (add-one, append-nil) at (column-rows A r zero u v [] j eu ev)
