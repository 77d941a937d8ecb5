-- The known fold where a bit is added to the known one. Assumes nothing.
use mathlib.Core.Path.{◌≡◌, refl, sym, ap, ◌∙◌}
use mathlib.Core.Bool.{Bool, true, false}
use lib.IntN.{ℤ, ◌+ℤ◌, ◌-ℤ◌}
use Rattle.base.specs.Bit.{◌⊕◌}
use Rattle.values.specs.Value.{turned, known_value}
use Rattle.paths.proofs.Signs.{turned-sum}

-- The sum is the fold where bit 0 is added,
pub known_same : (w : Bool) (p q : ℤ) → q +ℤ turned w p ≡ known_value (w ⊕ false) p q
known_same w p q = sym (ap (λ z. q +ℤ z) (turned-sum w false p))

-- the difference that where bit 1 is,
pub known-other : (w : Bool) (p q : ℤ) → q -ℤ turned w p ≡ known_value (w ⊕ true) p q
known-other w p q = sym (ap (λ z. q +ℤ z) (turned-sum w true p))

-- also after another bit.
pub known_both : (w o : Bool) (p q : ℤ) → q -ℤ turned (w ⊕ o) p ≡ known_value (w ⊕ (true ⊕ o)) p q
known_both w o p q = known-other (w ⊕ o) p q ∙ ap (λ c. known_value c p q) (go w o)
  where
    go : (w o : Bool) → (w ⊕ o) ⊕ true ≡ w ⊕ (true ⊕ o)
    go false false = refl
    go false true = refl
    go true false = refl
    go true true = refl
