-- Proof side: scores and symbols of phases one after the other. Assumes nothing.
use Rattle.std.specs.Prelude.{◌≡◌, Bool, true, false, List, [], ◌∷◌, ℕ, ◌<◌, ℤ, pos, ◌-ℤ◌, length, get_or}
use Rattle.base.specs.Bit.{◌⊕◌, bit, tabulate}
use Rattle.folds.specs.Range.{value_limit, first_outside}
use Rattle.run.specs.Run.{symbol_by}
use Rattle.values.specs.Value.{turned}
use Rattle.values.specs.Path.{entry, pair_best, four_best}

-- The first three bits of some, and the first four, before others.
abbrev pub three : List Bool → List Bool → List Bool
three v p = bit v 0 ∷ bit v 1 ∷ bit v 2 ∷ p

abbrev pub four : List Bool → List Bool → List Bool
four v p = bit v 0 ∷ bit v 1 ∷ bit v 2 ∷ bit v 3 ∷ p

-- Sixteen channel values of a kernel, none past the limit.
abbrev pub ChannelValues : List ℤ → Type 0
ChannelValues values = (length values ≡ 16) × (first_outside value_limit values ≡ 16)

-- Each of n scores is sc of the symbols before it, and each symbol is the one by its source and its score.
pub record Follows (sc : List Bool → ℤ) (free given : ℕ → Bool) (n : ℕ) (scores : List ℤ) (symbols : List Bool) : Type 0 where
  pub score-at : (i : ℕ) → i < n → get_or scores i (pos 0) ≡ sc (tabulate i (bit symbols))
  pub symbol-at : (i : ℕ) → i < n → bit symbols i ≡ symbol_by (free i) (given i) (get_or scores i (pos 0))

-- The scores of v6, v10 and v7 in turn, from the row that is kept after t = v5 + v6 + v10.
abbrev pub closing_score : List ℤ → Bool → Bool → List Bool → ℤ
closing_score kept v3 t [] = four_best kept false -ℤ four_best kept true
closing_score kept v3 t (v6 ∷ []) = pair_best kept v6 (t ⊕ (v6 ⊕ false)) -ℤ pair_best kept v6 (t ⊕ (v6 ⊕ true))
closing_score kept v3 t (v6 ∷ c ∷ p) =
    turned (((t ⊕ (v6 ⊕ c)) ⊕ v6) ⊕ v3) (entry kept v6 (t ⊕ (v6 ⊕ c)) false -ℤ entry kept v6 (t ⊕ (v6 ⊕ c)) true)
