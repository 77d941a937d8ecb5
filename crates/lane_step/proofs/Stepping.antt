-- A step of sixteen kernels side by side as the code takes it, with the numbers and the table of its phase at hand. Assumes nothing.
use mathlib.Core.Path.{◌≡◌, refl, ◌∙◌, subst⁻¹}
use mathlib.Core.Bool.{Bool, false}
use mathlib.Core.List.{List, []}
use Prim.Native.Nat.{ℕ, zero, suc, ◌-◌, ◌*◌, ◌^◌, ◌≤◌, ◌<◌}
use native.Mathlib.Nat.{pow-succ'}
use native.Mathlib.Omega.{arith}
use lib.ListN.{length, get_or}
use Rattle.base.specs.Bit.{◌⊕◌, bit}
use Rattle.base.proofs.List.{length-tabulate}
use Rattle.bits.specs.Packed.{bits}
use Rattle.polar.specs.Fold.{folded}
use Rattle.kernel.specs.Rows.{row_sum}
use Rattle.windows.specs.Windows.{window}
use Rattle.windows.specs.Tables.{shape_table, shape_at, path_rows}
use Rattle.windows.specs.Paths.{choice_number}
use Rattle.windows.proofs.Tables.{height_at, shaped, again}
use Rattle.windows.proofs.Steps.{again-small}
use Rattle.windows.proofs.Stepping.{started, in-range}
use Rattle.lane.specs.Lanes.{lane_bit, lane_costs}
use Rattle.lane_phases.specs.Rows.{column, HeldLane, HeldLanes, KeptLane}
use Rattle.lane_phases.proofs.Phases.{fresh-lane, again-lane}
use Rattle.lane_step.specs.Step.{number_before}

-- The least totals of all paths by four rounds of folds.
abbrev pub ByRounds : ℕ → List (List (List ℕ)) → List ℕ → ℕ → List ℕ → List (List (List ℕ)) → Type 0
ByRounds s costs planes high table rows =
    (w l : ℕ) (b : Bool) → w < 2 ^ (high - s) → l < 16
    → lane_costs rows l w b
    ≡ folded 4 high (bit (bits 16 (row_sum table (choice_number (column planes s l) false (bits (high - s) w))))) (lane_costs costs l) 0
    (bit (bits 16 (row_sum table (choice_number (column planes s l) false (bits (high - s) w)))) high ⊕ b)

-- The same from the rows before.
abbrev pub FromBefore : ℕ → List ℕ → ℕ → List ℕ → List (List (List ℕ)) → List (List (List ℕ)) → Type 0
FromBefore s planes high table old rows =
    (w l : ℕ) (b : Bool) → w < 2 ^ (high - s) → l < 16
    → lane_costs rows l w b ≡ lane_costs old l (number_before table s high planes w l b) (lane_bit (get_or planes (s - 1) 0) l)

module _ (k s : ℕ) (lk : k < 3) (ls : s < 16) (costs : List (List (List ℕ))) (planes : List ℕ) where
  few : shape_at k s 0 - s ≤ 4
  few = (in-range k s lk ls 0 (get_or (get_or shape_table k []) s []) refl).2

  -- A phase whose relations reach further.
  pub fresh-lanes : (high : ℕ) (table : List ℕ) → high ≡ shape_at k s 0 → table ≡ path_rows k s → shape_at k s 1 ≡ 0 → (rows : List (List (List ℕ)))
      → ByRounds s costs planes high table rows → HeldLanes k costs planes s rows
  fresh-lanes high table eh et f rows =
      subst⁻¹ (λ n. ByRounds s costs planes n table rows → HeldLanes k costs planes s rows) eh
      (subst⁻¹ (λ t. ByRounds s costs planes (shape_at k s 0) t rows → HeldLanes k costs planes s rows) et
      (λ h l ll. fresh-lane k s lk ls costs planes l f few rows (λ w b lw. h w l b lw ll)))

  -- Any other phase: it is not the first one,
  pub again-late : (shape_at k s 1 ≡ 0 → ⊥) → 0 < s
  again-late f = started k s (shape_at k s 0) (again k s lk ls f).same-height

  -- has one bit less in its window than the phase before,
  before-wide : (shape_at k s 1 ≡ 0 → ⊥) → length (window k s) ≡ suc (shape_at k s 0 - s)
  before-wide f = go s (again-late f) ls (again k s lk ls f).same-height (shaped k s lk ls).reached
    where
      go : (s : ℕ) → 0 < s → s < 16 → height_at k s ≡ suc (shape_at k s 0) → s ≤ shape_at k s 0 → length (window k s) ≡ suc (shape_at k s 0 - s)
      go zero l _ _ _ = absurd (omega arith)
      go (suc r) _ ls e l =
          let t = shaped k r lk (omega arith) in
          t.wide ∙ omega (arith, e, t.high)

  pub again-few : (shape_at k s 1 ≡ 0 → ⊥) → shape_at k s 0 - s ≤ 3
  again-few f = omega (arith, before-wide f, (again k s lk ls f).few)

  -- so that the numbers before are of twice as many paths,
  pub again-small-lane : (high : ℕ) (table : List ℕ) → high ≡ shape_at k s 0 → table ≡ path_rows k s → (shape_at k s 1 ≡ 0 → ⊥)
      → (w l : ℕ) (b : Bool) → w < 2 ^ (high - s) → number_before table s high planes w l b < 2 * 2 ^ (high - s)
  again-small-lane high table eh et f =
      subst⁻¹ (λ n. (w l : ℕ) (b : Bool) → w < 2 ^ (n - s) → number_before table s n planes w l b < 2 * 2 ^ (n - s)) eh
      (subst⁻¹ (λ t. (w l : ℕ) (b : Bool) → w < 2 ^ (shape_at k s 0 - s) → number_before t s (shape_at k s 0) planes w l b < 2 * 2 ^ (shape_at k s 0 - s)) et
      (λ w l b lw. rw (before-wide f, pow-succ') at (again-small k s lk ls (lane_costs costs l) (column planes s l) (length-tabulate s (λ i. lane_bit (get_or planes i 0) l)) f w b)))

  -- and takes its rows from those.
  pub again-held-lane : (high : ℕ) (table : List ℕ) → high ≡ shape_at k s 0 → table ≡ path_rows k s → (shape_at k s 1 ≡ 0 → ⊥) → (old rows : List (List (List ℕ))) (l : ℕ)
      → l < 16 → KeptLane k costs planes s old l → FromBefore s planes high table old rows → HeldLane k costs planes s rows l
  again-held-lane high table eh et f old rows l ll kept =
      subst⁻¹ (λ n. FromBefore s planes n table old rows → HeldLane k costs planes s rows l) eh
      (subst⁻¹ (λ t. FromBefore s planes (shape_at k s 0) t old rows → HeldLane k costs planes s rows l) et
      (λ h. again-lane k s lk ls costs planes l f few old rows (lane_bit (get_or planes (s - 1) 0) l) kept (λ w b lw. h w l b lw ll)))
