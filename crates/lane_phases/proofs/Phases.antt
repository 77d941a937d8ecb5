-- Rows of sixteen kernels side by side hold what the step of one kernel owes in each lane, and their least ones give the scores. Assumes nothing.
use mathlib.Core.Path.{◌≡◌, refl, sym, ap, ap₂, ◌∙◌, subst⁻¹}
use mathlib.Core.Bool.{Bool, true, false}
use mathlib.Core.List.{List, [], ◌∷◌, ◌++◌}
use Prim.Native.Nat.{ℕ, zero, suc, ◌+◌, ◌-◌, ◌*◌, ◌/◌, ◌%◌, ◌^◌, ◌≤◌, ◌<◌}
use native.Mathlib.Nat.{lt_of_lt_of_le}
use native.Mathlib.Numerals.{add-one}
use native.Mathlib.Omega.{arith}
use lib.IntN.{pos, neg_ℤ, nat_abs, sub_ℕ}
use lib.ListN.{length, get_or, length-append}
use lib.Pow.{pow_pos}
use Rattle.base.specs.Bit.{◌⊕◌, bit}
use Rattle.base.proofs.List.{length-tabulate, tabulate-at, tabulate-next}
use Rattle.bits.specs.Packed.{bits}
use Rattle.polar.specs.Code.{Costs, least, best_score, score}
use Rattle.polar.specs.Fold.{level, folded}
use Rattle.polar.specs.Window.{path_of}
use Rattle.polar.specs.Kernel.{arikan, matrix}
use Rattle.polar.proofs.Least.{score-least}
use Rattle.polar.proofs.Folded.{folded-costs, folded-words}
use Rattle.folds.specs.Rows.{row_of, cell, least_to}
use Rattle.folds.proofs.Rows.{least_to-ext}
use Rattle.kernel.specs.Kernels.{kernel_code}
use Rattle.kernel.specs.Rows.{row_sum}
use Rattle.windows.specs.Windows.{window, solution}
use Rattle.windows.specs.Tables.{shape_at, path_rows}
use Rattle.windows.specs.Paths.{Kept, choice_number}
use Rattle.windows.proofs.Tables.{shaped, again}
use Rattle.windows.proofs.Words.{pow-le}
use Rattle.windows.proofs.Steps.{fresh-held, again-small, again-held, by-paths}
use Rattle.lane.specs.Lanes.{lane_bit, lane_costs}
use Rattle.lane_phases.specs.Rows.{column, score_rows, HeldLane, HeldLanes, KeptLane, KeptLanes}

-- An entry of a lane's rows.
pub score-cell : (rows : List (List (List ℕ))) (l w : ℕ) (b : Bool) → w < 16 → cell (pos 0) (score_rows rows l) w b ≡ neg_ℤ (pos (lane_costs rows l w b))
score-cell rows l w false lw = tabulate-at 16 (λ w. neg_ℤ (pos (lane_costs rows l w false))) w (pos 0) lw
score-cell rows l w true lw = tabulate-at 16 (λ w. neg_ℤ (pos (lane_costs rows l w true))) w (pos 0) lw

neg_same : (a b : ℕ) → neg_ℤ (pos a) ≡ neg_ℤ (pos b) → a ≡ b
neg_same a b e = size a ∙ ap nat_abs e ∙ sym (size b)
  where
    size : (x : ℕ) → x ≡ nat_abs (neg_ℤ (pos x))
    size zero = refl
    size (suc x) = refl

-- All four rounds of folds, the first one apart.
pub four-rounds : (n : ℕ) (y z : ℕ → Bool) (m nodes : Costs) → ((j : ℕ) → j < 16 → z j ≡ y j) → n < 16
    → ((j : ℕ) (b : Bool) → j < 8 → nodes j b ≡ level 8 n y m j b)
    → (b : Bool) → folded 3 (n % 8) (λ j. z (n / 8 * 8 + j)) nodes 0 (z n ⊕ b) ≡ folded 4 n y m 0 (y n ⊕ b)
unfolding folded
four-rounds n y z m nodes same ln is b =
    ap (λ c. folded 3 (n % 8) (λ j. z (n / 8 * 8 + j)) nodes 0 (c ⊕ b)) (same n ln)
    ∙ folded-words 3 (n % 8) (λ j lj. same (n / 8 * 8 + j) (omega arith)) nodes (y n ⊕ b)
    ∙ folded-costs 3 (n % 8) (λ j. y (n / 8 * 8 + j)) (λ j l d. is j d l) (y n ⊕ b)

module _ (k s : ℕ) (lk : k < 3) (ls : s < 16) (costs : List (List (List ℕ))) (planes : List ℕ) (l : ℕ) where
  long : length (column planes s l) ≡ s
  long = length-tabulate s (λ i. lane_bit (get_or planes i 0) l)

  narrow : shape_at k s 0 - s ≤ 4 → (w : ℕ) → w < 2 ^ (shape_at k s 0 - s) → w < 16
  narrow d w lw = lt_of_lt_of_le lw (pow-le (shape_at k s 0 - s) d)

  -- A phase whose relations reach further.
  pub fresh-lane : shape_at k s 1 ≡ 0 → shape_at k s 0 - s ≤ 4 → (rows : List (List (List ℕ)))
      → ((w : ℕ) (b : Bool) → w < 2 ^ (shape_at k s 0 - s)
      → lane_costs rows l w b
      ≡ (let x = row_sum (path_rows k s) (choice_number (column planes s l) false (bits (shape_at k s 0 - s) w)) in
      folded 4 (shape_at k s 0) (bit (bits 16 x)) (lane_costs costs l) 0 (bit (bits 16 x) (shape_at k s 0) ⊕ b)))
      → HeldLane k costs planes s rows l
  fresh-lane f d rows h =
      fresh-held k s lk ls (lane_costs costs l) (column planes s l) long f (score_rows rows l)
      (λ w b lw. score-cell rows l w b (narrow d w lw) ∙ ap (λ x. neg_ℤ (pos x)) (h w b lw))

  -- A phase whose relations reach no further: the number of a path before it is small,
  pub number_small : (shape_at k s 1 ≡ 0 → ⊥) → (w : ℕ) (b : Bool) → row_sum (path_rows k s) (choice_number (column planes s l) b (bits (shape_at k s 0 - s) w)) < 16
  number_small f w b =
      lt_of_lt_of_le (again-small k s lk ls (lane_costs costs l) (column planes s l) long f w b) (pow-le (length (window k s)) (again k s lk ls f).few)

  -- and the row that was kept has its entry.
  pub again-lane : (shape_at k s 1 ≡ 0 → ⊥) → shape_at k s 0 - s ≤ 4 → (old rows : List (List (List ℕ))) (c : Bool)
      → Kept k (lane_costs costs l) (column planes s l) (row_of (score_rows old l) c)
      → ((w : ℕ) (b : Bool) → w < 2 ^ (shape_at k s 0 - s)
      → lane_costs rows l w b ≡ lane_costs old l (row_sum (path_rows k s) (choice_number (column planes s l) b (bits (shape_at k s 0 - s) w))) c)
      → HeldLane k costs planes s rows l
  again-lane f d old rows c kept h =
      again-held k s lk ls (lane_costs costs l) (column planes s l) long f (row_of (score_rows old l) c) kept (score_rows rows l)
      (λ w b lw.
      let x = row_sum (path_rows k s) (choice_number (column planes s l) b (bits (shape_at k s 0 - s) w)) in
      let small : row_sum (path_rows k s) (choice_number (column planes s l) b (bits (shape_at k s 0 - s) w)) < 16 = number_small f w b in
      score-cell rows l w b (narrow d w lw)
      ∙ ap (λ x. neg_ℤ (pos x)) (h w b lw)
      ∙ sym (score-cell old l x c small))

  -- The least of row b is the least total with symbol b,
  pub lane-least : (rows : List (List (List ℕ))) → shape_at k s 0 - s ≤ 4 → HeldLane k costs planes s rows l → (b : Bool)
      → least_to (λ w. lane_costs rows l w b) (2 ^ (shape_at k s 0 - s) - 1) ≡ least (kernel_code k) (lane_costs costs l) (column planes s l ++ (b ∷ []))
  lane-least rows d h b =
      let n : length (column planes s l ++ (b ∷ [])) ≡ suc s = length-append (column planes s l) (b ∷ []) ∙ omega (arith, long) in
      ap (λ d. least_to (λ w. lane_costs rows l w b) (2 ^ d - 1)) e
      ∙ least_to-ext _ _ (2 ^ length (window k (suc s)) - 1) (λ w lw.
      let lt : w < 2 ^ length (window k (suc s)) = omega (arith, pow_pos (length (window k (suc s)))) in
      let l16 : w < 16 = narrow d w (rw (← e) at lt) in
      entry (length (column planes s l ++ (b ∷ []))) n w (rw (← n) at lt) l16 (h b w (rw (← n) at lt)))
      ∙ sym (by-paths k s lk ls (lane_costs costs l) (column planes s l) long b)
    where
      e : shape_at k s 0 - s ≡ length (window k (suc s))
      e = sym (shaped k s lk ls).wide

      entry : (n : ℕ) → n ≡ suc s → (w : ℕ) → w < 2 ^ length (window k n) → w < 16
          → get_or (row_of (score_rows rows l) b) w (pos 0) ≡ best_score (matrix 16 16 (arikan 4)) (lane_costs costs l) (path_of (solution k n) (column planes s l ++ (b ∷ [])) (bits (length (window k n)) w))
          → lane_costs rows l w b ≡ least (matrix 16 16 (arikan 4)) (lane_costs costs l) (path_of (solution k (suc s)) (column planes s l ++ (b ∷ [])) (bits (length (window k (suc s))) w))
      entry n en w lw l16 p =
          neg_same _ _ (sym (score-cell rows l w b l16) ∙ p
          ∙ ap (λ n. best_score (matrix 16 16 (arikan 4)) (lane_costs costs l) (path_of (solution k n) (column planes s l ++ (b ∷ [])) (bits (length (window k n)) w))) en)

  -- and the difference of both is the score.
  pub lane-score : (rows : List (List (List ℕ))) → shape_at k s 0 - s ≤ 4 → HeldLane k costs planes s rows l
      → sub_ℕ (least_to (λ w. lane_costs rows l w true) (2 ^ (shape_at k s 0 - s) - 1)) (least_to (λ w. lane_costs rows l w false) (2 ^ (shape_at k s 0 - s) - 1))
      ≡ score (kernel_code k) (lane_costs costs l) (column planes s l)
  lane-score rows d h = ap₂ sub_ℕ (lane-least rows d h true) (lane-least rows d h false) ∙ sym (score-least (kernel_code k) (lane_costs costs l) (column planes s l))

-- From one phase to the next: the rows that a phase leaves in a lane are kept for the next one, whatever plane follows.
pub held-kept-lane : (k : ℕ) (costs : List (List (List ℕ))) (planes planes' : List ℕ) (s : ℕ) (rows : List (List (List ℕ)))
    → ((i : ℕ) → i < s → get_or planes' i 0 ≡ get_or planes i 0) → (l : ℕ) → HeldLane k costs planes s rows l → KeptLane k costs planes' (s + 1) rows l
held-kept-lane k costs planes planes' s rows same l h =
    let e : s + 1 - 1 ≡ s = omega arith in
    subst⁻¹ (λ n. Kept k (lane_costs costs l) (column planes' (s + 1) l) (row_of (score_rows rows l) (lane_bit (get_or planes' n 0) l))) e
    (subst⁻¹ (λ (us : List Bool). Kept k (lane_costs costs l) us (row_of (score_rows rows l) (lane_bit (get_or planes' s 0) l)))
    (ap (λ n. column planes' n l) (add-one s) ∙ tabulate-next s (λ i. lane_bit (get_or planes' i 0) l) (λ i. lane_bit (get_or planes i 0) l) (λ i li. ap (λ x. lane_bit x l) (same i li)))
    (h (lane_bit (get_or planes' s 0) l)))

-- The same in each lane.
pub held_kept : (k : ℕ) (costs : List (List (List ℕ))) (planes planes' : List ℕ) (s : ℕ) (rows : List (List (List ℕ)))
    → ((i : ℕ) → i < s → get_or planes' i 0 ≡ get_or planes i 0) → HeldLanes k costs planes s rows → KeptLanes k costs planes' (s + 1) rows
held_kept k costs planes planes' s rows same h l ll = held-kept-lane k costs planes planes' s rows same l (h l ll)
