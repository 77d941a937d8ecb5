-- Marking the phases of a list one after the other. Assumes nothing.
use mathlib.Core.Path.{◌≡◌, refl, sym, ap, ap₂, ◌∙◌}
use mathlib.Core.Bool.{Bool, true, ◌||◌, or-true, or-false, or_assoc}
use mathlib.Core.List.{List, [], ◌∷◌, ◌++◌}
use Prim.Native.Nat.{ℕ, zero, suc, ◌+◌, ◌<◌}
use native.Mathlib.Numerals.{add-one}
use lib.Dec.{eqb, eqb-zero-suc, eqb-suc-zero, eqb-suc-suc}
use lib.ListN.{length, get_or, set, take, replicate}
use lib.Seq.{take-suc}
use Rattle.base.specs.Bit.{tabulate}
use Rattle.base.proofs.List.{tabulate-cong}
use Rattle.bits.specs.Packed.{unpack}
use Rattle.bits.proofs.Packed.{unpack-zero}
use Rattle.order.specs.Order.{among}

-- The bits of 256 phases, set at the first i of a list.
abbrev pub marks : List ℕ → ℕ → List Bool
marks l i = tabulate 256 (λ x. among x (take i l))

-- Cleared bytes mark none.
pub marks-none : (l : List ℕ) → unpack (replicate 32 0) ≡ marks l 0
unfolding tabulate among
marks-none l = unpack-zero 32

-- One bit more is set.
set-one : (n : ℕ) (f : ℕ → Bool) (x : ℕ) → set (tabulate n f) x true ≡ tabulate n (λ y. f y || eqb y x)
unfolding tabulate
set-one zero f x = refl
set-one (suc n) f zero =
    ap₂ ◌∷◌ (sym (or-true (f zero))) (tabulate-cong n (λ y l. sym (ap (λ b. f (suc y) || b) (eqb-suc-zero y) ∙ or-false (f (suc y)))))
set-one (suc n) f (suc x) =
    ap₂ ◌∷◌
    (sym (ap (λ b. f zero || b) (eqb-zero-suc x) ∙ or-false (f zero)))
    (set-one n (λ y. f (suc y)) x ∙ tabulate-cong n (λ y l. ap (λ b. f (suc y) || b) (sym (eqb-suc-suc y x))))

-- One phase more is among them.
among-last : (y : ℕ) (l : List ℕ) (x : ℕ) → among y (l ++ (x ∷ [])) ≡ (among y l || eqb y x)
unfolding among
among-last y [] x = or-false (eqb y x)
among-last y (z ∷ l) x = ap (λ b. eqb y z || b) (among-last y l x) ∙ sym (or_assoc (eqb y z) (among y l) (eqb y x))

-- The next phase of the list is marked.
pub marks-next : (l : List ℕ) (i : ℕ) → i < length l → set (marks l i) (get_or l i 0) true ≡ marks l (i + 1)
marks-next l i h =
    set-one 256 (λ y. among y (take i l)) (get_or l i 0)
    ∙ tabulate-cong 256 (λ y b. sym (ap (among y) (ap (λ n. take n l) (add-one i) ∙ take-suc l i 0 h) ∙ among-last y (take i l) (get_or l i 0)))
