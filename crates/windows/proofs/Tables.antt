-- The tables of the phases do what they say, by one computed test over all phases of each kernel. Assumes nothing.
use mathlib.Core.Path.{◌≡◌, refl}
use mathlib.Core.Bool.{Bool, true, false, ◌&&◌, and-eq-true_iff}
use Prim.Native.Nat.{ℕ, zero, suc, ◌-◌, ◌<◌, ◌≤◌}
use native.Mathlib.Omega.{arith}
use borrow.Author.Tests.{eqb-true, leb-true, eq-eqb, ne_eqb}
use lib.Dec.{leb, eqb}
use lib.ListN.{length, take, get_or}
use Rattle.base.specs.Bit.{tabulate, parity, every}
use Rattle.base.proofs.Bool.{every-at, same_table, same-table}
use Rattle.bits.specs.Packed.{bits}
use Rattle.polar.specs.Kernel.{arikan, product}
use Rattle.polar.specs.Window.{reach, height}
use Rattle.polar.specs.Fold.{blocks}
use Rattle.polar.proofs.Relation.{names, uses}
use Rattle.kernel.specs.Kernels.{relations}
use Rattle.kernel.specs.Rows.{row_bit}
use Rattle.windows.specs.Windows.{windows, window, solutions, solution}
use Rattle.windows.specs.Tables.{shape_at, path_rows}

-- How far the relations of the first i symbols reach.
abbrev pub height_at : ℕ → ℕ → ℕ
height_at k i = height (take i (relations k))

-- The rows give the words of the known halves and the last v; the phase's own symbol counts in the last v only.
abbrev words_test : ℕ → ℕ → ℕ → Bool
words_test k s n =
    same_table (suc n) (suc n) (row_bit (path_rows k s)) (product (suc n) (uses (solution k (suc s))) (blocks 4 n))
    && same_table 1 (suc n) (λ i. row_bit (path_rows k s) s) (λ i j. eqb j n)

-- Bit j of the number of the path before: what the v has at that place of the window before.
abbrev pub old_bit : ℕ → ℕ → ℕ → ℕ → Bool
old_bit k s i j = leb (16 - length (window k s)) j && uses (solution k (suc s)) i (get_or (window k s) (j - (16 - length (window k s))) 0)

-- The rows give the number of the path before the phase, and the relations reach no further.
abbrev old_test : ℕ → ℕ → ℕ → Bool
old_test k s n =
    eqb (height_at k s) (suc n) && leb (length (window k s)) 4 && same_table (suc n) 16 (row_bit (path_rows k s)) (old_bit k s)

unfoldable phase_test : ℕ → ℕ → Bool
phase_test k s =
    let n : ℕ = shape_at k s 0 in
    eqb (height_at k (suc s)) (suc n) && leb n 15 && eqb (length (window k (suc s))) (n - s) && leb s n
    && (elim (eqb (shape_at k s 1) 0) [ true ↦ words_test k s n | false ↦ old_test k s n ])

tested : (k : ℕ) → k < 3 → every 16 (phase_test k) ≡ true
unfolding phase_test same_table every parity bits height reach relations windows solutions tabulate uses names blocks arikan
tested zero l = refl
tested (suc zero) l = refl
tested (suc (suc zero)) l = refl
tested (suc (suc (suc k))) l = absurd (omega arith)

-- What the tables say of every phase,
pub record Shaped (k s : ℕ) : Type 0 where
  pub high : height_at k (suc s) ≡ suc (shape_at k s 0)
  pub low : shape_at k s 0 ≤ 15
  pub wide : length (window k (suc s)) ≡ shape_at k s 0 - s
  pub reached : s ≤ shape_at k s 0

-- of one whose relations reach further,
pub record Fresh (k s n : ℕ) : Type 0 where
  pub words : (i j : ℕ) → i < suc n → j < suc n → row_bit (path_rows k s) i j ≡ product (suc n) (uses (solution k (suc s))) (blocks 4 n) i j
  pub own : (j : ℕ) → j < suc n → row_bit (path_rows k s) s j ≡ eqb j n

-- and of any other.
pub record Again (k s n : ℕ) : Type 0 where
  pub same-height : height_at k s ≡ suc n
  pub few : length (window k s) ≤ 4
  pub number : (i j : ℕ) → i < suc n → j < 16 → row_bit (path_rows k s) i j ≡ old_bit k s i j

abbrev Kind : ℕ → ℕ → Bool → Type 0
Kind k s true = Fresh k s (shape_at k s 0)
Kind k s false = Again k s (shape_at k s 0)

module _ (k s : ℕ) (lk : k < 3) (ls : s < 16) where
  parts : (eqb (height_at k (suc s)) (suc (shape_at k s 0)) ≡ true) × (leb (shape_at k s 0) 15 ≡ true)
      × (eqb (length (window k (suc s))) (shape_at k s 0 - s) ≡ true) × (leb s (shape_at k s 0) ≡ true)
      × ((elim (eqb (shape_at k s 1) 0) as (λ _. Bool) [ true ↦ words_test k s (shape_at k s 0) | false ↦ old_test k s (shape_at k s 0) ]) ≡ true)
  unfolding phase_test
  parts =
      let t : phase_test k s ≡ true = every-at 16 (phase_test k) (tested k lk) s ls in
      let a = (and-eq-true_iff _ _).0 t in
      let b = (and-eq-true_iff _ _).0 a.0 in
      let c = (and-eq-true_iff _ _).0 b.0 in
      let d = (and-eq-true_iff _ _).0 c.0 in
      (d.0, d.1, c.1, b.1, a.1)

  pub shaped : Shaped k s
  shaped = record {
    high = eqb-true _ _ parts.0;
    low = leb-true _ _ parts.1;
    wide = eqb-true _ _ parts.2;
    reached = leb-true _ _ parts.3;
  }

  kind : (c : Bool) → (elim c as (λ _. Bool) [ true ↦ words_test k s (shape_at k s 0) | false ↦ old_test k s (shape_at k s 0) ]) ≡ true → Kind k s c
  kind true t =
      let h = (and-eq-true_iff _ _).0 t in
      record {
        words = same-table _ _ _ _ h.0;
        own = λ j lj. same-table _ _ _ _ h.1 0 j (omega arith) lj;
      }
  kind false t =
      let h = (and-eq-true_iff _ _).0 t in
      let g = (and-eq-true_iff _ _).0 h.0 in
      record {
        same-height = eqb-true _ _ g.0;
        few = leb-true _ _ g.1;
        number = same-table _ _ _ _ h.1;
      }

  pub fresh : shape_at k s 1 ≡ 0 → Fresh k s (shape_at k s 0)
  fresh e = kind true (rw (eq-eqb (shape_at k s 1) 0 e) at parts.4)

  pub again : (shape_at k s 1 ≡ 0 → ⊥) → Again k s (shape_at k s 0)
  again e = kind false (rw (ne_eqb (shape_at k s 1) 0 e) at parts.4)
