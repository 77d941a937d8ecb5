-- What the tables make of symbols and window bits: the words of a path, or its number before the phase. Assumes nothing.
use mathlib.Core.Path.{◌≡◌, refl, sym, ap, ap₂, ◌∙◌}
use mathlib.Core.Bool.{Bool, false, ◌&&◌, and_assoc, and_comm, and-true, and-false}
use mathlib.Core.List.{List, [], ◌∷◌, ◌++◌, map}
use Prim.Native.Nat.{ℕ, zero, suc, ◌+◌, ◌-◌, ◌/◌, ◌^◌, ◌≤◌, ◌<◌}
use native.Mathlib.Nat.{zero-mul, zero-add}
use native.Mathlib.Omega.{arith}
use borrow.Author.Tests.{eq-eqb, ne_eqb, le-leb, lt-leb}
use lib.Dec.{eqb, eqb-zero-suc, eqb-suc-zero, eqb-suc-suc}
use lib.ListN.{length, take, get_or, replicate, length-append, length-replicate, length-map, get_or-append}
use lib.Seq.{append_snoc, get_or-append-add, ext_get_or, take-suc, length-take-le}
use Rattle.base.specs.Bit.{◌⊕◌, odd, bit, parity}
use Rattle.base.proofs.Bool.{⊕-false, ⊕-and, parity-cong, parity-append, parity-false, parity-⊕, parity-only}
use Rattle.bits.specs.Packed.{bits, number}
use Rattle.bits.proofs.Packed.{length-bits, bits_at, bits-split, number_lt, number-bits-fit}
use Rattle.polar.specs.Code.{Costs, least}
use Rattle.polar.specs.Relation.{symbols}
use Rattle.polar.specs.Window.{height, read_at, path_of}
use Rattle.polar.specs.Fold.{folded, blocks}
use Rattle.polar.proofs.Matrix.{product-word}
use Rattle.polar.proofs.Relation.{uses, symbol-uses}
use Rattle.polar.proofs.Window.{Windowed, path-length, path-again}
use Rattle.polar.proofs.Fold.{arikan_code}
use Rattle.polar.proofs.Folded.{Words, least-folded, folded-words}
use Rattle.kernel.specs.Kernels.{relations}
use Rattle.kernel.specs.Rows.{row_bit, row_sum}
use Rattle.kernel.proofs.Solved as kernels
use Rattle.kernel.proofs.Rows.{row-sum-at, row-sum-lt}
use Rattle.windows.specs.Windows.{window, solution}
use Rattle.windows.specs.Tables.{path_rows}
use Rattle.windows.specs.Paths.{Choice}
use Rattle.windows.proofs.Windows.{windowed}
use Rattle.windows.proofs.Tables.{height_at, Fresh, Again}

zeros-at : (n i : ℕ) → bit (replicate n false) i ≡ false
zeros-at zero i = refl
zeros-at (suc n) zero = refl
zeros-at (suc n) (suc i) = zeros-at n i

-- The sum of the rows that a choice of symbols and window bits makes.
abbrev pub path_word : List ℕ → List Bool → Bool → List Bool → ℕ → Bool
path_word rows us b ws j = parity (length us + (1 + length ws)) (λ i. bit (us ++ (b ∷ ws)) i && row_bit rows i j)

pub choice-word : (rows : List ℕ) (us : List Bool) (b : Bool) (ws : List Bool) (x j : ℕ) → length us + (1 + length ws) ≤ 16 → Choice us b ws x → j < 16
    → bit (bits 16 (row_sum rows x)) j ≡ path_word rows us b ws j
choice-word rows us b ws x j l c lj =
    let v = us ++ (b ∷ ws) in
    let h : ℕ = length us + (1 + length ws) in
    let lv : length v ≡ h = length-append us (b ∷ ws) ∙ omega arith in
    let z = replicate (16 - h) false in
    let e : 16 ≡ h + (16 - h) = omega arith in
    row-sum-at rows x j lj
    ∙ ap₂ (λ n u. parity n (λ i. bit u i && row_bit rows i j)) e c
    ∙ parity-append h (16 - h) (λ i. bit (v ++ z) i && row_bit rows i j)
    ∙ ap₂ ◌⊕◌
    (parity-cong h (λ i li. ap (λ a. a && row_bit rows i j) (get_or-append v z false i (omega arith))))
    (parity-cong (16 - h) (λ i _. ap (λ a. a && row_bit rows (h + i) j)
    (ap (λ n. bit (v ++ z) (n + i)) (sym lv) ∙ get_or-append-add v z i false ∙ zeros-at (16 - h) i)) ∙ parity-false (16 - h))
    ∙ ⊕-false (path_word rows us b ws j)

-- The phase's own symbol, apart.
own-bit : (us : List Bool) (b : Bool) (ws : List Bool) (i : ℕ) → bit (us ++ (b ∷ ws)) i ≡ bit (us ++ (false ∷ ws)) i ⊕ (b && eqb i (length us))
own-bit [] b ws zero = sym (and-true b)
own-bit [] b ws (suc i) = sym (ap (λ c. bit ws i ⊕ (b && c)) (eqb-suc-zero i) ∙ ap (λ c. bit ws i ⊕ c) (and-false b) ∙ ⊕-false (bit ws i))
own-bit (a ∷ us) b ws zero = sym (ap (λ c. a ⊕ (b && c)) (eqb-zero-suc (length us)) ∙ ap (λ c. a ⊕ c) (and-false b) ∙ ⊕-false a)
own-bit (a ∷ us) b ws (suc i) = own-bit us b ws i ∙ ap (λ c. bit (us ++ (false ∷ ws)) i ⊕ (b && c)) (sym (eqb-suc-suc i (length us)))

own-word : (rows : List ℕ) (us : List Bool) (b : Bool) (ws : List Bool) (j : ℕ)
    → path_word rows us b ws j ≡ path_word rows us false ws j ⊕ (b && row_bit rows (length us) j)
own-word rows us b ws j =
    let h : ℕ = length us + (1 + length ws) in
    let r : ℕ → Bool = λ i. row_bit rows i j in
    parity-cong h (λ i _. ap (λ a. a && r i) (own-bit us b ws i) ∙ ⊕-and (bit (us ++ (false ∷ ws)) i) (b && eqb i (length us)) (r i))
    ∙ parity-⊕ h (λ i. bit (us ++ (false ∷ ws)) i && r i) (λ i. b && eqb i (length us) && r i)
    ∙ ap (λ c. path_word rows us false ws j ⊕ c)
    (parity-cong h (λ i _. and_assoc b (eqb i (length us)) (r i) ∙ ap (λ c. b && c) (and_comm (eqb i (length us)) (r i)) ∙ sym (and_assoc b (r i) (eqb i (length us))))
    ∙ parity-only h (λ i. b && r i) (length us) (omega arith))

number-zeros : (n : ℕ) (l : List Bool) → number (replicate n false ++ l) ≡ number l
unfolding number
number-zeros zero l = refl
number-zeros (suc n) l = ap (λ a. a + number (replicate n false ++ l)) (zero-mul (2 ^ length (replicate n false ++ l))) ∙ zero-add _ ∙ number-zeros n l

-- A number of n bits whose highest ones are 0.
high_zero : (n d y : ℕ) → d ≤ n → y < 2 ^ n → ((j : ℕ) → j < n - d → bit (bits n y) j ≡ false) → y < 2 ^ d
high_zero n d y l ly h =
    let e : n - d + d ≡ n = omega arith in
    let split : bits n y ≡ bits (n - d) (y / 2 ^ d) ++ bits d y = ap (λ k. bits k y) (sym e) ∙ bits-split (n - d) d y in
    let a = bits (n - d) (y / 2 ^ d) in
    let la : length a ≡ n - d = length-bits (n - d) (y / 2 ^ d) in
    let z : a ≡ replicate (n - d) false =
    ext_get_or false a (replicate (n - d) false) (la ∙ sym (length-replicate (n - d) false)) (λ j lj.
    sym (get_or-append a (bits d y) false j lj) ∙ ap (λ u. bit u j) (sym split) ∙ h j (omega arith) ∙ sym (zeros-at (n - d) j)) in
    let same : y ≡ number (bits d y) =
    sym (number-bits-fit n y ly) ∙ ap number (split ∙ ap (λ u. u ++ bits d y) z) ∙ number-zeros (n - d) (bits d y) in
    let lt : number (bits d y) < 2 ^ d = rw (length-bits d y) at (number_lt (bits d y)) in
    omega arith

-- A low bit, counted from either end.
pub low_bit : (n d y r : ℕ) → d ≤ n → r < d → bit (bits d y) r ≡ bit (bits n y) (n - d + r)
low_bit n d y r l lr =
    let e : d - suc r ≡ n - suc (n - d + r) = omega arith in
    bits_at d y r lr ∙ ap (λ k. odd (y / 2 ^ k)) e ∙ sym (bits_at n y (n - d + r) (omega arith))

map_at : (f : ℕ → Bool) (l : List ℕ) (r : ℕ) → r < length l → bit (map f l) r ≡ f (get_or l r 0)
map_at f [] r h = absurd (omega arith)
map_at f (x ∷ l) zero h = refl
map_at f (x ∷ l) (suc r) h = map_at f l r (omega arith)

-- ---- a phase whose relations reach further

module _ (k s n : ℕ) (us ws : List Bool) (lu : length us ≡ s) (lw : length ws ≡ n - s) (ln : n < 16) (ls : s ≤ n)
    (high : height_at k (suc s) ≡ suc n) (wide : length (window k (suc s)) ≡ n - s) (l : s < 16) where
  rows : List ℕ
  rows = path_rows k s

  long : length us + (1 + length ws) ≡ suc n
  long = omega arith

  path : Bool → List Bool
  path b = path_of (solution k (suc s)) (us ++ (b ∷ [])) ws

  known : Windowed (take (suc s) (relations k)) (window k (suc s)) (solution k (suc s))
  known = windowed k (suc s) (omega arith)

  pub path-long : (b : Bool) → length (path_of (solution k (suc s)) (us ++ (b ∷ [])) ws) ≡ suc n
  path-long b = path-length (take (suc s) (relations k)) (window k (suc s)) (solution k (suc s)) known (us ++ (b ∷ [])) ws ∙ high

  -- A v of the path, as a sum of symbols and window bits.
  path-bit : (b : Bool) (i : ℕ) → bit (path b) i ≡ parity (suc n) (λ a. bit (us ++ (b ∷ ws)) a && uses (solution k (suc s)) a i)
  unfolding path
  path-bit b i =
      ap (λ v. bit (symbols (solution k (suc s)) v) i) (append_snoc us b ws)
      ∙ symbol-uses (height_at k (suc s)) (solution k (suc s)) known.solved.bounded (us ++ (b ∷ ws)) i
      ∙ ap (λ h. parity h (λ a. bit (us ++ (b ∷ ws)) a && uses (solution k (suc s)) a i)) high

  path-words : Fresh k s n → (b : Bool) → Words 4 n (path b) (path_word rows us b ws)
  unfolding rows
  path-words f b j lj =
      ap (λ h. parity h (λ i. bit (us ++ (b ∷ ws)) i && row_bit (path_rows k s) i j)) long
      ∙ parity-cong (suc n) (λ i li. ap (λ c. bit (us ++ (b ∷ ws)) i && c) (f.words i j li (omega arith)))
      ∙ sym (product-word (suc n) (suc n) (uses (solution k (suc s))) (blocks 4 n) (bit (us ++ (b ∷ ws))) j)
      ∙ parity-cong (suc n) (λ a _. ap (λ c. c && blocks 4 n a j) (sym (path-bit b a)))

  own_at : Fresh k s n → (b : Bool) (j : ℕ) → j ≤ n → path_word rows us b ws j ≡ path_word rows us false ws j ⊕ (b && eqb j n)
  unfolding rows
  own_at f b j lj =
      own-word (path_rows k s) us b ws j
      ∙ ap (λ c. path_word (path_rows k s) us false ws j ⊕ (b && c)) (ap (λ i. row_bit (path_rows k s) i j) lu ∙ f.own j (omega arith))

  -- The least over the words whose v begin with a path, for both symbols, by the words of the path with symbol 0.
  pub fresh-least : Fresh k s n → (m : Costs) (x : ℕ) → Choice us false ws x → (b : Bool)
      → least (arikan_code 4) m (path_of (solution k (suc s)) (us ++ (b ∷ [])) ws)
      ≡ folded 4 n (bit (bits 16 (row_sum (path_rows k s) x))) m 0 (bit (bits 16 (row_sum (path_rows k s) x)) n ⊕ b)
  unfolding rows path
  fresh-least f m x c b =
      let y = path_word (path_rows k s) us in
      let z : ℕ → Bool = bit (bits 16 (row_sum (path_rows k s) x)) in
      let same : (j : ℕ) → j < 16 → z j ≡ y false ws j = λ j lj. choice-word (path_rows k s) us false ws x j (omega (arith, long)) c lj in
      least-folded 4 n m (path b) (y b ws) (path-long b) ln (path-words f b)
      ∙ folded-words 4 n (λ j lj. own_at f b j (omega arith)
      ∙ ap (λ c. y false ws j ⊕ (b && c)) (ne_eqb j n (λ e. omega arith)) ∙ ap (λ c. y false ws j ⊕ c) (and-false b) ∙ ⊕-false (y false ws j)
      ∙ sym (same j (omega arith))) m (y b ws n)
      ∙ ap (folded 4 n z m 0)
      (own_at f b n (omega arith) ∙ ap (λ c. y false ws n ⊕ (b && c)) (eq-eqb n n refl) ∙ ap₂ ◌⊕◌ (sym (same n ln)) (and-true b))

  -- ---- a phase whose relations reach no further

  -- The bits of the number of the path before the phase: first 0, then what the path has at the window before.
  old-low : Again k s n → (b : Bool) (x : ℕ) → Choice us b ws x → (j : ℕ) → j < 16 - length (window k s)
      → bit (bits 16 (row_sum (path_rows k s) x)) j ≡ false
  old-low a b x c j lj =
      choice-word (path_rows k s) us b ws x j (omega (arith, long)) c (omega arith)
      ∙ ap (λ h. parity h (λ i. bit (us ++ (b ∷ ws)) i && row_bit (path_rows k s) i j)) long
      ∙ parity-cong (suc n) (λ i li. ap (λ c. bit (us ++ (b ∷ ws)) i && c)
      (a.number i j li (omega arith) ∙ ap (λ c. c && uses (solution k (suc s)) i (get_or (window k s) (j - (16 - length (window k s))) 0)) (lt-leb _ j lj))
      ∙ and-false (bit (us ++ (b ∷ ws)) i))
      ∙ parity-false (suc n)

  old-high : Again k s n → (b : Bool) (x : ℕ) → Choice us b ws x → (r : ℕ) → r < length (window k s)
      → bit (bits 16 (row_sum (path_rows k s) x)) (16 - length (window k s) + r) ≡ bit (path b) (get_or (window k s) r 0)
  old-high a b x c r lr =
      let d : ℕ = length (window k s) in
      let j : ℕ = 16 - length (window k s) + r in
      let e : 16 - length (window k s) + r - (16 - length (window k s)) ≡ r = omega arith in
      let lj : 16 - length (window k s) ≤ 16 - length (window k s) + r = omega arith in
      choice-word (path_rows k s) us b ws x (16 - length (window k s) + r) (omega (arith, long)) c (omega (arith, a.few))
      ∙ ap (λ h. parity h (λ i. bit (us ++ (b ∷ ws)) i && row_bit (path_rows k s) i (16 - length (window k s) + r))) long
      ∙ parity-cong (suc n) (λ i li. ap (λ c. bit (us ++ (b ∷ ws)) i && c)
      (a.number i (16 - length (window k s) + r) li (omega (arith, a.few))
      ∙ ap₂ (λ c q. c && uses (solution k (suc s)) i (get_or (window k s) q 0)) (le-leb _ _ lj) e))
      ∙ sym (path-bit b (get_or (window k s) r 0))

  -- It is below the number of those paths,
  pub old-number : Again k s n → (b : Bool) (x : ℕ) → Choice us b ws x → row_sum (path_rows k s) x < 2 ^ length (window k s)
  old-number a b x c = high_zero 16 (length (window k s)) (row_sum (path_rows k s) x) (omega (arith, a.few)) (row-sum-lt (path_rows k s) x) (old-low a b x c)

  -- and its bits are those at the window before.
  old-bits : Again k s n → (b : Bool) (x : ℕ) → Choice us b ws x
      → bits (length (window k s)) (row_sum (path_rows k s) x) ≡ read_at (window k s) (path b)
  unfolding read_at
  old-bits a b x c =
      let d : ℕ = length (window k s) in
      ext_get_or false (bits (length (window k s)) (row_sum (path_rows k s) x)) (read_at (window k s) (path b))
      (length-bits (length (window k s)) (row_sum (path_rows k s) x) ∙ sym (length-map (window k s) (bit (path b))))
      (λ r lr.
      let l : r < length (window k s) = omega (arith, length-bits (length (window k s)) (row_sum (path_rows k s) x)) in
      low_bit 16 (length (window k s)) (row_sum (path_rows k s) x) r (omega (arith, a.few)) l
      ∙ old-high a b x c r l
      ∙ sym (map_at (bit (path b)) (window k s) r l))

  -- So the path before, with those bits, is the path.
  pub again-path : Again k s n → (b : Bool) (x : ℕ) → Choice us b ws x
      → path_of (solution k s) us (bits (length (window k s)) (row_sum (path_rows k s) x)) ≡ path_of (solution k (suc s)) (us ++ (b ∷ [])) ws
  unfolding path
  again-path a b x c =
      let rs = relations k in
      let count : length rs ≡ 16 = (kernels.solution k).solves.count in
      let next : take (suc s) rs ≡ take s rs ++ (get_or rs s [] ∷ []) = take-suc rs s [] (omega arith) in
      let lt : length (take s rs) ≡ s = length-take-le s rs (omega arith) in
      ap (path_of (solution k s) us) (old-bits a b x c)
      ∙ path-again (take s rs) (get_or rs s [] ∷ []) (window k s) (window k (suc s)) (solution k s) (solution k (suc s))
      (windowed k s (omega arith)) (rw next at (windowed k (suc s) (omega arith)))
      (ap height (sym next) ∙ high ∙ sym a.same-height) us (b ∷ []) ws (lu ∙ sym lt) refl (lw ∙ sym wide)
