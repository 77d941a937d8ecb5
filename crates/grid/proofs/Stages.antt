-- The stages of m layers, one after the other. Assumes nothing.
use mathlib.Core.Path.{◌≡◌, refl, sym, ap, ap₂, ◌∙◌}
use mathlib.Core.Bool.{Bool, false, ◌&&◌}
use mathlib.Core.List.{List, [], ◌++◌}
use Prim.Native.Nat.{ℕ, suc, ◌+◌, ◌-◌, ◌*◌, ◌/◌, ◌%◌, ◌^◌, ◌≤◌, ◌<◌}
use native.Mathlib.Nat.{mul_comm, mul_assoc, mul-suc, mul-le-mul_left, mod-lt, div-add-mod, div-lt_iff_lt-mul, div-div-eq-div-mul, mul-mod_right, one-le-pow, pow-le-pow_right, pow-succ'}
use native.Mathlib.Numerals.{add-one}
use native.Mathlib.Omega.{arith}
use lib.Pow.{pow-add}
use lib.ListN.{get_or, length, take, drop, get_or-append}
use lib.Seq.{paste, take_at, drop_at, drop-drop, take-length}
use Rattle.base.specs.Bit.{bit, tabulate}
use Rattle.base.proofs.Bool.{parity-cong}
use Rattle.base.proofs.List.{length-tabulate, tabulate-at, tabulate-cong, tabulate-append, filled}
use Rattle.polar.specs.Encoding.{stage, stages}
use Rattle.polar.proofs.Layers.{extent-power}
use Rattle.polar.proofs.Encoding.{stages-word}
use Rattle.kernel.specs.Rows.{row_bit}
use Rattle.grid.specs.Grid.{table_kernel, tables_code, rows_bit, rows_bits, staged_bits}
use Rattle.grid.proofs.Grid.{rows-bit-at}

-- ---- what a stage reads stands among the bits

pub spaced-below : (first s r n : ℕ) → r < 16 → first + s * 15 < n → first + s * r < n
spaced-below first s r n lr l = let le : r ≤ 15 = omega arith in omega (arith, mul-le-mul_left s le)

module _ (e n p r : ℕ) (pos : 0 < e) (d : n % (16 * e) ≡ 0) (lp : p < n) (lr : r < 16) where
  pub reads-below : 16 * e * (p / (16 * e)) + (e * r + p / 16 % e) < n
  reads-below =
      let w : ℕ = 16 * e in
      let wp : 0 < w = omega arith in
      let k : ℕ = n / w in
      let whole : w * k + n % w ≡ n = div-add-mod n w in
      let lq : p / w < k = (div-lt_iff_lt-mul wp).1 (omega (arith, mul_comm w k)) in
      omega (arith, mul-le-mul_left w lq, mul-suc w (p / w), mul-le-mul_left e lr, mul-suc e r, mul_comm e 16, mod-lt (p / 16) pos)

-- Group g takes sixteen rows, s apart,
module _ (s g n : ℕ) (pos : 0 < s) (d : n % (16 * s) ≡ 0) (l : 16 * g < n) where
  pub group_reads : 16 * s * (g / s) + g % s + s * 15 < n
  group_reads =
      let whole : 16 * g / 16 ≡ g = omega arith in
      let block : 16 * g / (16 * s) ≡ g / s = sym (div-div-eq-div-mul (16 * g) 16 s) ∙ ap (λ q. q / s) whole in
      let within : 16 * g / 16 % s ≡ g % s = ap (λ q. q % s) whole in
      let h : 16 * s * (g / s) + (s * 15 + g % s) < n = rw (block, within) at (reads-below s n (16 * g) 15 pos d l (omega arith)) in
      omega arith

  -- and makes sixteen.
  pub group-fits : 16 * g + 16 ≤ n
  group-fits =
      let w : ℕ = 16 * s in
      let whole : w * (n / w) + n % w ≡ n = div-add-mod n w in
      omega (arith, mul_assoc 16 s (n / w))

-- What is stored can be read.
pub fill-at : (f : ℕ → ℕ) (n : ℕ) (old : List ℕ) (i : ℕ) → i < n → get_or (filled f n old) i 0 ≡ f i
fill-at f n old i l = get_or-append (tabulate n f) (drop n old) 0 i (rw (length-tabulate n f) l) ∙ tabulate-at n f i 0 l

-- Sixteen more rows are stored.
pub fill-sixteen : (f : ℕ → ℕ) (g : ℕ) (old new found : List ℕ) → new ≡ filled f (16 * g) old → found ≡ tabulate 16 (λ j. f (16 * g + j))
    → paste new (16 * g) found 16 ≡ filled f (16 * (g + 1)) old
fill-sixteen f g old new found en ef =
    let k : ℕ = 16 * g in
    let more : k + 16 ≡ 16 * (g + 1) = omega arith in
    let t = tabulate 16 (λ j. f (k + j)) in
    ap₂ (λ x y. paste x k y 16) en ef
    ∙ ap₂ (λ x y. x ++ y ++ drop (k + 16) (filled f k old)) (take_at (tabulate k f) (drop k old) k (length-tabulate k f)) (ap (λ n. take n t) (sym (length-tabulate 16 (λ j. f (k + j)))) ∙ take-length t)
    ∙ ap₂ (λ x y. x ++ y) (sym (tabulate-append k 16 f)) (sym (drop-drop 16 k (filled f k old)) ∙ ap (drop 16) (drop_at (tabulate k f) (drop k old) k (length-tabulate k f)) ∙ drop-drop 16 k old)
    ∙ ap (λ n. filled f n old) more

-- ---- sizes of frames

-- A smaller power divides a larger one.
power_divides : (i k : ℕ) → i ≤ k → 16 ^ k % 16 ^ i ≡ 0
power_divides i k l =
    let e : k ≡ i + (k - i) = omega arith in
    ap (λ n. n % 16 ^ i) (ap (λ n. 16 ^ n) e ∙ pow-add 16 i (k - i)) ∙ mul-mod_right (16 ^ i) (16 ^ (k - i))

-- Frames of three layers have the most rows.
pub rows_few : (m n : ℕ) → m ≤ 3 → n ≡ 16 ^ (m - 1) → n ≤ 256
rows_few m n few en = rw en (pow-le-pow_right {n = 16} (omega arith) {i = m - 1} {j = 2} (omega arith))

-- What the stage of a layer asks.
pub record StageFits (s n : ℕ) : Type 0 where
  pub some : 0 < s
  pub few : s ≤ 16
  pub blocks : n % (16 * s) ≡ 0
  pub small : n ≤ 256

-- Layer k + 1 of m stands around frames of 16 to the power k rows.
pub stage-fits : (m k s n : ℕ) → k + 1 < m → m ≤ 3 → s ≡ 16 ^ k → n ≡ 16 ^ (m - 1) → StageFits s n
stage-fits m k s n l few es en = record {
  some = rw es (one-le-pow k 16 (omega arith));
  few = rw es (pow-le-pow_right {n = 16} (omega arith) {i = k} {j = 1} (omega arith));
  blocks = rw (es, en, ← (pow-succ' 16 k)) (power_divides (suc k) (m - 1) (omega arith));
  small = rows_few m n few en;
}

-- ---- one stage after the other

module _ (tables : List (List ℕ)) (u : List Bool) where
  -- Rows hold what the stages of l layers make of the bits u, for a frame of m layers.
  abbrev pub Staged : ℕ → ℕ → List ℕ → Type 0
  Staged m l rows = (p : ℕ) → p < 16 ^ m → rows_bit rows p ≡ stages (table_kernel tables) l (bit u) p

  pub staged-none : (m n : ℕ) (rows : List ℕ) → 16 * n ≡ 16 ^ m → u ≡ rows_bits n rows → Staged m 0 rows
  unfolding stages
  staged-none m n rows en eu p l = sym (ap (λ v. bit v p) eu ∙ rows-bit-at n rows p (rw en l))

  -- One more stage.
  pub staged-next : (m l e : ℕ) (rows new : List ℕ) → e ≡ 16 ^ l → l < m → 16 * length rows ≡ 16 ^ m → rows_bits (length rows) new ≡ staged_bits (get_or tables l []) e rows
      → Staged m l rows → Staged m (suc l) new
  unfolding stages staged_bits
  staged-next m l e rows new ee lm en h s p lp =
      let n : ℕ = length rows in
      let lp' : p < 16 * n = rw en lp in
      let K = table_kernel tables in
      let B = row_bit (get_or tables l []) in
      let pos : 0 < 16 ^ l = one-le-pow l 16 (omega arith) in
      let d : 16 ^ m % (16 * 16 ^ l) ≡ 0 = rw (← (pow-succ' 16 l)) (power_divides (suc l) m lm) in
      sym (rows-bit-at n new p lp')
      ∙ ap (λ v. bit v p) h
      ∙ tabulate-at (16 * n) (stage e 16 B (rows_bit rows)) p false lp'
      ∙ ap (λ e. stage e 16 B (rows_bit rows) p) ee
      ∙ parity-cong 16 (λ r lr. ap (λ b. b && B r (p % 16)) (s _ (reads-below (16 ^ l) (16 ^ m) p r pos d lp lr)))
      ∙ ap (λ e. stage e 16 B (stages K l (bit u)) p) (sym (extent-power 16 K (λ _. refl) l))

  -- All of them make the frame's word.
  pub staged-all : (m n : ℕ) (rows : List ℕ) → 16 * n ≡ 16 ^ m → Staged m m rows → rows_bits n rows ≡ tabulate (16 ^ m) ((tables_code tables m).word u)
  unfolding rows_bits
  staged-all m n rows en s =
      ap (λ k. tabulate k (rows_bit rows)) en
      ∙ tabulate-cong (16 ^ m) (λ p l.
      s p l ∙ stages-word (table_kernel tables) (λ _. omega arith) m u p (rw (extent-power 16 (table_kernel tables) (λ _. refl) m) l))

-- ---- the loop over the layers

-- Sixteen times as many bits as rows.
pub whole-power : (m : ℕ) → 1 ≤ m → 16 * 16 ^ (m - 1) ≡ 16 ^ m
whole-power m l = let e : suc (m - 1) ≡ m = omega arith in sym (pow-succ' 16 (m - 1)) ∙ ap (λ k. 16 ^ k) e

-- After l layers of m: the next stands around s rows, and rows hold what the stages make, whatever bits the first made `before` of.
pub record Going (tables : List (List ℕ)) (m : ℕ) (before : List ℕ) (s l : ℕ) (rows : List ℕ) : Type 0 where
  pub some : 1 ≤ l
  pub most : l ≤ m
  pub few : m ≤ 3
  pub around : s ≡ 16 ^ (l - 1)
  pub long : length rows ≡ 16 ^ (m - 1)
  pub staged : (u : List Bool) → Staged tables u m 1 before → Staged tables u m l rows

module _ (tables : List (List ℕ)) (m : ℕ) (before : List ℕ) where
  pub going-first : 1 ≤ m → m ≤ 3 → length before ≡ 16 ^ (m - 1) → Going tables m before 1 1 before
  going-first some few long = record { some = omega arith; most = some; few = few; around = refl; long = long; staged = λ u h. h }

  pub going-fits : (s l : ℕ) (rows : List ℕ) → l < m → Going tables m before s l rows → StageFits s (length rows)
  going-fits s l rows lm g = stage-fits m (l - 1) s (length rows) (omega (arith, g.some)) g.few g.around g.long

  pub going_next : (s t l : ℕ) (rows new : List ℕ) → t ≡ 16 * s → l < m → length new ≡ length rows → rows_bits (length rows) new ≡ staged_bits (get_or tables l []) (16 * s) rows
      → Going tables m before s l rows → Going tables m before t (l + 1) new
  going_next s t l rows new et lm ln h g =
      let around : 16 * s ≡ 16 ^ l = ap (λ k. 16 * k) g.around ∙ whole-power l g.some in
      let last : l + 1 - 1 ≡ l = omega arith in
      record {
        some = omega arith;
        most = omega arith;
        few = g.few;
        around = et ∙ around ∙ ap (λ k. 16 ^ k) (sym last);
        long = ln ∙ g.long;
        staged = λ u z.
            rw (add-one l) (staged-next tables u m l (16 * s) rows new around lm (ap (λ k. 16 * k) g.long ∙ whole-power m (omega (arith, g.some))) h (g.staged u z));
      }

-- All layers, from the first.
pub going-last : (tables : List (List ℕ)) (m : ℕ) (rows before : List ℕ) (s l : ℕ) (made : List ℕ) → m ≤ l → length rows ≡ 16 ^ (m - 1)
    → rows_bits (length rows) before ≡ staged_bits (get_or tables 0 []) 1 rows → Going tables m before s l made
    → rows_bits (16 ^ (m - 1)) made ≡ tabulate (16 ^ m) ((tables_code tables m).word (rows_bits (16 ^ (m - 1)) rows))
going-last tables m rows before s l made lm long h g =
    let u = rows_bits (16 ^ (m - 1)) rows in
    let e : l ≡ m = omega (arith, g.most) in
    let some : 1 ≤ m = omega (arith, g.some, g.most) in
    let size : 16 * 16 ^ (m - 1) ≡ 16 ^ m = whole-power m some in
    let none : Staged tables u m 0 rows = staged-none tables u m (16 ^ (m - 1)) rows size refl in
    let one : Staged tables u m 1 before = staged-next tables u m 0 1 rows before refl some (ap (λ k. 16 * k) long ∙ size) h none in
    staged-all tables u m (16 ^ (m - 1)) made size (rw e at (g.staged u one))
