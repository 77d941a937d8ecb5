-- Sums of rows and of planes, one summand after another. Assumes nothing.
use mathlib.Core.Path.{◌≡◌, sym, ap, ap₂, ◌∙◌}
use mathlib.Core.Bool.{Bool, true, false, ◌&&◌, and_comm}
use mathlib.Core.List.{List, ◌∷◌}
use Prim.Native.Nat.{ℕ, suc, ◌+◌, ◌-◌, ◌/◌, ◌^◌, ◌<◌}
use native.Mathlib.Numerals.{add-one}
use native.Mathlib.Omega.{arith}
use lib.Bits.{bit_xor}
use lib.ListN.{get_or, replicate, get_or-replicate}
use Rattle.base.specs.Bit.{bit, odd, parity, ◌⊕◌}
use Rattle.base.proofs.Bool.{⊕-false, parity-last}
use Rattle.bits.specs.Packed.{bits}
use Rattle.bits.proofs.Packed.{length-bits, bits_at, xor-at, zero-at}
use Rattle.kernel.specs.Rows.{row_bit, chosen_bit}
use Rattle.lane.specs.Lanes.{lane_bit, word_at}
use Rattle.lane_words.specs.Words.{window_bit}

-- ---- what is added where a test holds

pub kept : (c : Bool) (x l : ℕ) → c ≡ true → lane_bit x l ≡ (c && lane_bit x l)
kept c x l e = ap (λ b. b && lane_bit x l) (sym e)

pub dropped : (c : Bool) (x l : ℕ) → c ≡ false → lane_bit 0 l ≡ (c && lane_bit x l)
dropped c x l e = zero-at 16 l ∙ ap (λ b. b && lane_bit x l) (sym e)

-- A sum with one more, which a test chooses.
pub added : (c x y : ℕ) (t u : Bool) (l : ℕ) → ((l : ℕ) → lane_bit x l ≡ (t && lane_bit y l)) → t ≡ u
    → lane_bit (bit_xor c x) l ≡ lane_bit c l ⊕ (u && lane_bit y l)
added c x y t u l h e = xor-at 16 c x l ∙ ap (λ b. lane_bit c l ⊕ b) (h l ∙ ap (λ b. b && lane_bit y l) e)

-- The parity of one summand.
parity-first : (f : ℕ → Bool) → parity 1 f ≡ f 0
unfolding parity
parity-first f = ⊕-false (f 0)

-- ---- the words that planes make

-- The words have the sum of the first s rows that each lane's bits choose.
abbrev pub Made : List ℕ → List ℕ → ℕ → List ℕ → Type 0
Made table planes s words = (j l : ℕ) → j < 16 → word_at words l j ≡ chosen_bit table (λ i. lane_bit (get_or planes i 0) l) s j

pub made_none : (table planes : List ℕ) → Made table planes 0 (replicate 16 0)
unfolding parity
made_none table planes j l lj = ap (λ x. lane_bit x l) (get_or-replicate 16 j 0 0 lj) ∙ zero-at 16 l

pub made-next : (table planes words next : List ℕ) (s : ℕ) → Made table planes s words
    → ((j l : ℕ) → j < 16 → word_at next l j ≡ word_at words l j ⊕ (lane_bit (get_or table s 0) j && lane_bit (get_or planes s 0) l))
    → Made table planes (s + 1) next
made-next table planes words next s h n j l lj =
    let f : ℕ → Bool = λ i. lane_bit (get_or planes i 0) l && row_bit table i j in
    n j l lj
    ∙ ap₂ ◌⊕◌ (h j l lj) (and_comm (lane_bit (get_or table s 0) j) (lane_bit (get_or planes s 0) l))
    ∙ sym (parity-last s f)
    ∙ ap (λ k. parity k f) (sym (add-one s))

-- ---- what a window adds

module _ (table : List ℕ) (phase : ℕ) (own : Bool) (width path : ℕ) where
  -- The sum of the own row and of the first t rows of the window.
  abbrev pub Window : ℕ → ℕ → Type 0
  Window t c = (j : ℕ) → lane_bit c j ≡ parity (suc t) (λ i. bit (own ∷ bits width path) i && row_bit table (phase + i) j)

  pub window-own : (c : ℕ) → ((l : ℕ) → lane_bit c l ≡ (own && lane_bit (get_or table phase 0) l)) → Window 0 c
  window-own c h j =
      let e : phase ≡ phase + 0 = omega arith in
      h j ∙ ap (λ k. own && row_bit table k j) e ∙ sym (parity-first (λ i. bit (own ∷ bits width path) i && row_bit table (phase + i) j))

  pub window-next : (c x t : ℕ) → t < width
      → ((l : ℕ) → lane_bit x l ≡ (odd (path / 2 ^ (width - 1 - t)) && lane_bit (get_or table (phase + 1 + t) 0) l))
      → Window t c → Window (t + 1) (bit_xor c x)
  window-next c x t lt h w j =
      let f : ℕ → Bool = λ i. bit (own ∷ bits width path) i && row_bit table (phase + i) j in
      let e : width - 1 - t ≡ width - suc t = omega arith in
      let p : phase + 1 + t ≡ phase + suc t = omega arith in
      added c x (get_or table (phase + 1 + t) 0) _ (bit (bits width path) t) j h (ap (λ k. odd (path / 2 ^ k)) e ∙ sym (bits_at width path t lt))
      ∙ ap₂ (λ a k. a ⊕ (bit (bits width path) t && row_bit table k j)) (w j) p
      ∙ sym (parity-last (suc t) f)
      ∙ ap (λ k. parity (suc k) f) (sym (add-one t))

  pub window-whole : (c t : ℕ) → t ≡ width → Window t c → (j : ℕ) → lane_bit c j ≡ window_bit table phase own (bits width path) j
  window-whole c t e w j =
      w j ∙ ap (λ k. parity (suc k) (λ i. bit (own ∷ bits width path) i && row_bit table (phase + i) j)) (e ∙ sym (length-bits width path))
