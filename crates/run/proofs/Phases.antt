-- A run of a kernel, phase after phase: what holds after s of them. Assumes nothing.
use mathlib.Core.Path.{◌≡◌, refl, sym, ap, ap₂, ◌∙◌, subst⁻¹}
use mathlib.Core.Bool.{Bool, true, false}
use mathlib.Core.List.{List, [], ◌∷◌, ◌++◌}
use Prim.Native.Nat.{ℕ, suc, ◌+◌, ◌≤◌, ◌<◌}
use native.Mathlib.Numerals.{add-one}
use native.Mathlib.Decide.{dec_lt}
use native.Mathlib.Omega.{arith}
use lib.IntN.{ℤ, pos, neg_ℤ, ◌-ℤ◌}
use lib.ListN.{length, get_or, take, set, length-set}
use lib.Seq.{take-suc, take-set-le, get_or-set_same, get_or-set_other, ext_get_or}
use Rattle.base.specs.Bit.{bit}
use Rattle.base.proofs.List.{each_next}
use Rattle.bits.specs.Packed.{bits}
use Rattle.bits.proofs.Packed.{length-bits}
use Rattle.polar.specs.Code.{Code, Costs, channel, score}
use Rattle.polar.specs.Follow.{scores}
use Rattle.polar.proofs.Least.{least-cong}
use Rattle.polar.proofs.Follow.{scores-at, length-scores}
use Rattle.folds.specs.Rows.{row_of}
use Rattle.kernel.specs.Kernels.{kernel_code}
use Rattle.windows.specs.Paths.{Kept, Held}
use Rattle.run.specs.Run.{with_bit, symbol_by, KernelRun}

-- The next symbol changes no earlier one.
pub with-length : (p : List Bool) (i : ℕ) (b : Bool) → length (with_bit p i b) ≡ length p
with-length p i true = length-set p i true
with-length p i false = refl

pub with-other : (p : List Bool) (i j : ℕ) (b : Bool) → (j ≡ i → ⊥) → bit (with_bit p i b) j ≡ bit p j
with-other p i j true n = get_or-set_other p i j true false n
with-other p i j false n = refl

pub with-same : (p : List Bool) (i : ℕ) (b : Bool) → i < length p → bit p i ≡ false → bit (with_bit p i b) i ≡ b
with-same p i true l e = get_or-set_same p i true false l
with-same p i false l e = e

pub take-with : (p : List Bool) (s i : ℕ) (b : Bool) → i ≤ s → take i (with_bit p s b) ≡ take i p
take-with p s i true l = take-set-le i p s true l
take-with p s i false l = refl

module _ (k : ℕ) (m : Costs) (free given : ℕ → Bool) where
  -- After s phases: the symbols so far are the first s bits of p, and the others are 0.
  pub record AfterPhases (s : ℕ) (p : List Bool) (new_scores : List ℤ) (rows : List (List ℤ)) (own : Bool) : Type 0 where
    pub within : s ≤ 16
    pub wide : length p ≡ 16
    pub score-room : length new_scores ≡ 16
    pub scores-so : (i : ℕ) → i < s → get_or new_scores i (pos 0) ≡ score (kernel_code k) m (take i p)
    pub symbols-so : (i : ℕ) → i < s → bit p i ≡ symbol_by (free i) (given i) (score (kernel_code k) m (take i p))
    pub later : (i : ℕ) → s ≤ i → bit p i ≡ false
    pub kept-so : 0 < s → Kept k m (take s p) (row_of rows own)

  module _ (s : ℕ) (p : List Bool) (new_scores : List ℤ) (rows₀ : List (List ℤ)) (own₀ : Bool) (g : AfterPhases s p new_scores rows₀ own₀) (ls : s < 16) (d : ℤ) (is-d : d ≡ score (kernel_code k) m (take s p))
      (own : Bool) (is-own : own ≡ symbol_by (free s) (given s) d) (rows : List (List ℤ)) (h : Held k m (take s p) rows) (q : List Bool) (is-q : q ≡ with_bit p s own) where
    same-front : (i : ℕ) → i ≤ s → take i q ≡ take i p
    same-front i l = ap (take i) is-q ∙ take-with p s i own l

    bit-here : bit q s ≡ own
    bit-here = ap (λ u. bit u s) is-q ∙ with-same p s own (omega (arith, g.wide)) (g.later s (omega arith))

    front-next : take (suc s) q ≡ take s p ++ (own ∷ [])
    front-next =
        take-suc q s false (omega (arith, ap length is-q, with-length p s own, g.wide))
        ∙ ap₂ (λ u b. u ++ (b ∷ [])) (same-front s (omega arith)) bit-here

    symbols-next : (i : ℕ) → Dec (i < s) → i < s + 1 → bit q i ≡ symbol_by (free i) (given i) (score (kernel_code k) m (take i q))
    symbols-next i (yes l) _ =
        ap (λ u. bit u i) is-q ∙ with-other p s i own (λ e. omega arith) ∙ g.symbols-so i l
        ∙ ap (λ u. symbol_by (free i) (given i) (score (kernel_code k) m u)) (sym (same-front i (omega arith)))
    symbols-next i (no l) h =
        let e : i ≡ s = omega arith in
        rw e
        (bit-here ∙ is-own ∙ ap (symbol_by (free s) (given s)) is-d
        ∙ ap (λ u. symbol_by (free s) (given s) (score (kernel_code k) m u)) (sym (same-front s (omega arith))))

    -- One phase more.
    pub phase-next : AfterPhases (s + 1) q (set new_scores s d) rows own
    phase-next = record {
      within = omega arith;
      wide = ap length is-q ∙ with-length p s own ∙ g.wide;
      score-room = length-set new_scores s d ∙ g.score-room;
      scores-so = each_next (λ i z. z ≡ score (kernel_code k) m (take i q)) new_scores s (pos 0) d (omega (arith, g.score-room))
          (λ i l. g.scores-so i l ∙ ap (score (kernel_code k) m) (sym (same-front i (omega arith))))
          (is-d ∙ ap (score (kernel_code k) m) (sym (same-front s (omega arith))));
      symbols-so = λ i l. symbols-next i (dec_lt i s) l;
      later = λ i l. ap (λ u. bit u i) is-q ∙ with-other p s i own (λ e. omega arith) ∙ g.later i (omega arith);
      kept-so = λ _. subst⁻¹ (λ u. Kept k m u (row_of rows own)) (ap (λ n. take n q) (add-one s) ∙ front-next) (h own);
    }

    -- The same as the code has it.
    pub phase-turn : (z : ℤ) → z ≡ d → AfterPhases (s + 1) q (set new_scores s z) rows own
    phase-turn z ez = rw ez phase-next

  -- Before the first phase.
  pub no-phase : (p : List Bool) → length p ≡ 16 → ((i : ℕ) → bit p i ≡ false) → (new_scores : List ℤ) (rows : List (List ℤ)) (own : Bool)
      → length new_scores ≡ 16 → AfterPhases 0 p new_scores rows own
  no-phase p lp z new_scores rows own ls = record {
    within = omega arith;
    wide = lp;
    score-room = ls;
    scores-so = λ i l. absurd (omega arith);
    symbols-so = λ i l. absurd (omega arith);
    later = λ i _. z i;
    kept-so = λ l. absurd (omega arith);
  }

-- Costs that agree at the places give one score.
pub score-cong : (C : Code) {m m' : Costs} → ((i : ℕ) → i < C.places → (b : Bool) → m i b ≡ m' i b) → (p : List Bool) → score C m p ≡ score C m' p
unfolding score
score-cong C h p = ap₂ (λ x y. neg_ℤ (pos x) -ℤ neg_ℤ (pos y)) (least-cong C h (p ++ (false ∷ []))) (least-cong C h (p ++ (true ∷ [])))

-- After the last phase, over the costs of channel values.
pub run_of : (k : ℕ) (values : List ℤ) (m : Costs) → ((j : ℕ) (b : Bool) → j < 16 → m j b ≡ channel values j b) → (free given symbols : ℕ)
    (new_scores : List ℤ) (rows : List (List ℤ)) (own : Bool) (s : ℕ) → s ≡ 16 → AfterPhases k m (bit (bits 16 free)) (bit (bits 16 given)) s (bits 16 symbols) new_scores rows own
    → KernelRun k values free given symbols new_scores
run_of k values m e free given symbols new_scores rows own s es g =
    let C = kernel_code k in
    let u = bits 16 symbols in
    let lu = length-bits 16 symbols in
    let same : (q : List Bool) → score C m q ≡ score C (channel values) q = λ q. score-cong C (λ i l b. e i b l) q in
    record {
      symbols-by = λ i l. g.symbols-so i (omega arith) ∙ ap (symbol_by (bit (bits 16 free) i) (bit (bits 16 given) i)) (same (take i u));
      scores-are = ext_get_or (pos 0) new_scores (scores C (channel values) u) (g.score-room ∙ sym (length-scores C (channel values) u ∙ lu))
          (λ i l. g.scores-so i (omega (arith, g.score-room)) ∙ same (take i u) ∙ sym (scores-at C (channel values) u i (pos 0) (omega (arith, g.score-room))));
    }
