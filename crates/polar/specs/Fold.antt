-- Proof side: folding the costs of 2h places onto h, where the word at place j is x + y and that at place h + j is y. Assumes nothing.
use Rattle.std.specs.Prelude.{Bool, true, false, not, ◌&&◌, ℕ, zero, suc, ◌+◌, ◌-◌, ◌*◌, ◌/◌, ◌%◌, ◌^◌, min, leb, eqb}
use Rattle.base.specs.Bit.{◌⊕◌}
use Rattle.polar.specs.Code.{Costs}
use Rattle.polar.specs.Kernel.{arikan}

-- What x pays where y is still free.
abbrev pub free_fold : ℕ → Costs → Costs
free_fold h m j x = min (m j x + m (h + j) false) (m j (not x) + m (h + j) true)

-- What y pays where x is known.
abbrev pub known_fold : ℕ → (ℕ → Bool) → Costs → Costs
known_fold h x m j y = m j (x j ⊕ y) + m (h + j) y

-- One level: where at least h of the v are known, the first half is, and its word stands in y.
abbrev pub level : ℕ → ℕ → (ℕ → Bool) → Costs → Costs
level h n y m = elim (leb h n) [ true ↦ known_fold h y m | false ↦ free_fold h m ]

-- The costs of 2 ^ t places folded onto one, after n known v. The words of the known halves stand in y, one after the other.
unfoldable pub folded : ℕ → ℕ → (ℕ → Bool) → Costs → Costs
folded zero n y m = m
folded (suc t) n y m = folded t (n % 2 ^ t) (λ j. y (n / 2 ^ t * 2 ^ t + j)) (level (2 ^ t) n y m)

-- The matrix that makes those words, and last the next v itself, of n known v and the next: blocks of Arikan's matrices.
unfoldable pub blocks : ℕ → ℕ → ℕ → ℕ → Bool
blocks zero n k j = eqb k j
blocks (suc t) n k j =
    elim (leb (2 ^ t) n) [
      | true ↦ elim (leb (2 ^ t) k) [ true ↦ leb (2 ^ t) j && blocks t (n - 2 ^ t) (k - 2 ^ t) (j - 2 ^ t) | false ↦ not (leb (2 ^ t) j) && arikan t k j ]
      | false ↦ blocks t n k j
    ]
