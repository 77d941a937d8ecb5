-- What the phases pay, added up row by row. Assumes nothing.
use mathlib.Core.Path.{◌≡◌, refl, sym, ap, ap₂, ◌∙◌}
use mathlib.Core.List.{List, ◌++◌}
use Prim.Native.Nat.{ℕ, suc, ◌+◌, ◌-◌, ◌*◌, ◌/◌, ◌%◌, ◌≤◌, ◌<◌}
use native.Mathlib.Numerals.{add-one}
use native.Mathlib.Omega.{arith}
use lib.IntN.{ℤ, pos}
use lib.ListN.{length, get_or, drop, set}
use lib.Seq.{paste, take_at, take_all, drop-drop, drop-append-add}
use Rattle.base.specs.Bit.{bit, tabulate}
use Rattle.base.proofs.List.{length-tabulate, tabulate-at, tabulate-cong, tabulate-append, paste-one}
use Rattle.bits.specs.Packed.{bits}
use Rattle.polar.specs.Code.{pay, sum}
use Rattle.polar.proofs.Minima.{sum-none, sum-cong, sum-append, sum-next, sum-part}
use Rattle.penalty_sums.specs.Paid.{paid_at, RowPaid, summed, Addable, Added}

-- The sums of a row, counted on from start.
abbrev pub row_sums : List ℕ → ℕ → List ℕ
row_sums paid start = tabulate 16 (λ i. start + sum (suc i) (λ j. get_or paid j 0))

-- After i phases one sum more,
module _ (paid : List ℕ) (start i penalty : ℕ) (is : penalty ≡ start + sum i (λ j. get_or paid j 0)) where
  pub next-sum : penalty + get_or paid i 0 ≡ start + sum (i + 1) (λ j. get_or paid j 0)
  next-sum = omega (arith, is, sum-next i (λ j. get_or paid j 0))

  -- which is written.
  pub next-stored : (at : ℕ) (old out : List ℕ) → i < 16 → at + i < length old → out ≡ paste old at (row_sums paid start) i
      → set out (at + i) (penalty + get_or paid i 0) ≡ paste old at (row_sums paid start) (i + 1)
  next-stored at old out l lo e =
      paste-one old out (row_sums paid start) at i (at + i) 0 (penalty + get_or paid i 0) lo (omega (arith, length-tabulate 16 (λ i. start + sum (suc i) (λ j. get_or paid j 0)))) e refl
      (next-sum ∙ ap (λ n. start + sum n (λ j. get_or paid j 0)) (add-one i) ∙ sym (tabulate-at 16 (λ i. start + sum (suc i) (λ j. get_or paid j 0)) i 0 l))

-- Each phase of a row pays what it owes.
pub row-paid : (scores : List ℤ) (symbols : List ℕ) (r : ℕ) (paid : List ℕ)
    → ((j : ℕ) → j < 16 → get_or paid j 0 ≡ pay (get_or scores (r * 16 + j) (pos 0)) (bit (bits 16 (get_or symbols r 0)) j)) → RowPaid scores symbols r paid
row-paid scores symbols r paid h j l =
    let q : r ≡ (r * 16 + j) / 16 = omega arith in
    let s : j ≡ (r * 16 + j) % 16 = omega arith in
    h j l ∙ ap₂ (λ n t. pay (get_or scores (r * 16 + j) (pos 0)) (bit (bits 16 (get_or symbols n 0)) t)) q s

-- A part pasted after the first ones.
paste-next : {X : Type 0} (done new old : List X) (n : ℕ) → length done ≡ n → length new ≡ 16
    → paste (done ++ drop n old) n new 16 ≡ done ++ new ++ drop (n + 16) old
paste-next {X} done new old n e f =
    ap₂ (λ (x y : List X). x ++ y)
    (ap₂ (λ (x y : List X). x ++ y) (take_at done (drop n old) n e) (take_all 16 new (omega arith)))
    (ap (λ k. drop (k + 16) (done ++ drop n old)) (sym e) ∙ drop-append-add done (drop n old) 16 ∙ drop-drop 16 n old)

-- Before the first row nothing is written.
sums_none : (f : ℕ → ℕ) (old : List ℕ) → old ≡ summed f 0 old
unfolding tabulate
sums_none f old = refl

-- Row r pays what f says.
module _ (f : ℕ → ℕ) (r : ℕ) (paid : List ℕ) (in_row : (j : ℕ) → j < 16 → get_or paid j 0 ≡ f (r * 16 + j)) where
  -- What a row's first n phases add.
  row-adds : (n : ℕ) → n ≤ 16 → sum (r * 16 + n) f ≡ sum (r * 16) f + sum n (λ j. get_or paid j 0)
  row-adds n l = sum-append (r * 16) n f ∙ ap (λ x. sum (r * 16) f + x) (sum-cong n (λ j lj. sym (in_row j (omega arith))))

  -- It is small where the sum of all rows is, counted on from no more than what the rows before add.
  pub row_small : (start n limit : ℕ) → r < n → start ≤ sum (r * 16) f → sum (n * 16) f < limit → start + sum 16 (λ j. get_or paid j 0) < limit
  row_small start n limit l h m = omega (arith, row-adds 16 (omega arith), sum-part (r * 16 + 16) (n * 16) f (omega arith))

  module _ (start : ℕ) (is : start ≡ sum (r * 16) f) where
    -- The last sum of a row.
    pub last_sum : (x : ℕ) → x ≡ start + sum 16 (λ j. get_or paid j 0) → x ≡ sum ((r + 1) * 16) f
    last_sum x e =
        let more : r * 16 + 16 ≡ (r + 1) * 16 = omega arith in
        omega (arith, e, is, row-adds 16 (omega arith), ap (λ n. sum n f) more)

    -- A row's sums written behind those of the rows before.
    pub sums_next : (old new next : List ℕ) → new ≡ summed f r old → next ≡ paste new (r * 16) (row_sums paid start) 16 → next ≡ summed f (r + 1) old
    sums_next old new next e g =
        let G : ℕ → ℕ = λ i. sum (suc i) f in
        let row : List ℕ = row_sums paid start in
        let same : row ≡ tabulate 16 (λ i. G (r * 16 + i)) = tabulate-cong 16 (λ i l.
        let k : suc (r * 16 + i) ≡ r * 16 + suc i = omega arith in
        ap (λ x. x + sum (suc i) (λ j. get_or paid j 0)) is ∙ sym (ap (λ n. sum n f) k ∙ row-adds (suc i) (omega arith))) in
        let more : r * 16 + 16 ≡ (r + 1) * 16 = omega arith in
        g ∙ ap (λ (l : List ℕ). paste l (r * 16) row 16) e
        ∙ paste-next (tabulate (r * 16) G) row old (r * 16) (length-tabulate (r * 16) G) (length-tabulate 16 _)
        ∙ ap (λ (l : List ℕ). tabulate (r * 16) G ++ l ++ drop (r * 16 + 16) old) same
        ∙ ap (λ (l : List ℕ). l ++ drop (r * 16 + 16) old) (sym (tabulate-append (r * 16) 16 G))
        ∙ ap (λ n. tabulate n G ++ drop n old) more

-- Where n rows can be added up, so can the first k of them,
module _ (n k first start : ℕ) (scores : List ℤ) (symbols : List ℕ) (room : ℕ) (l : k ≤ n) (h : Addable n first start scores symbols room) where
  pub addable-part : Addable k first start scores symbols room
  addable-part =
      let f = paid_at scores symbols in
      (omega (arith, h.0), omega (arith, h.1), omega (arith, h.2), h.3, omega (arith, h.4, sum-part ((first + k) * 16) ((first + n) * 16) f (omega arith)))

  -- and the others after them,
  pub addable-rest : (next room' : ℕ) → next ≡ sum ((first + k) * 16) (paid_at scores symbols) → room' ≡ room → Addable (n - k) (first + k) next scores symbols room'
  addable-rest next room' e same =
      let all : first + k + (n - k) ≡ first + n = omega arith in
      (omega (arith, h.0), omega (arith, h.1), omega (arith, h.2, same), e, omega (arith, h.4, ap (λ m. sum (m * 16) (paid_at scores symbols)) all))

-- and then all are added up.
pub added-all : (n k first : ℕ) (scores : List ℤ) (symbols before between after : List ℕ) → k ≤ n
    → Added k first scores symbols before between → Added (n - k) (first + k) scores symbols between after → Added n first scores symbols before after
added-all n k first scores symbols before between after l g h old e =
    let all : first + k + (n - k) ≡ first + n = omega arith in
    h old (g old e) ∙ ap (λ m. summed (paid_at scores symbols) m old) all

-- From the first row on the sum before is 0,
module _ (n : ℕ) (scores : List ℤ) (symbols : List ℕ) where
  none_before : 0 + n ≡ n
  none_before = omega arith

  pub addable-whole : (room : ℕ) → n ≤ 256 → n * 16 ≤ length scores → n * 16 ≤ room → sum (n * 16) (paid_at scores symbols) < 4294967296 → Addable n 0 0 scores symbols room
  addable-whole room k l m fits =
      (omega arith, omega arith, omega arith, sym (sum-none (paid_at scores symbols)), omega (arith, fits, ap (λ i. sum (i * 16) (paid_at scores symbols)) none_before))

  -- and nothing is written.
  pub added-whole : (before after : List ℕ) → Added n 0 scores symbols before after → after ≡ summed (paid_at scores symbols) n before
  added-whole before after h = h before (sums_none (paid_at scores symbols) before) ∙ ap (λ i. summed (paid_at scores symbols) i before) none_before
