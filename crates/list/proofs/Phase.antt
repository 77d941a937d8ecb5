-- One phase of list decoding by the numbers of its candidates. Assumes nothing.
use mathlib.Core.Path.{◌≡◌, refl, sym, ap, ◌∙◌}
use mathlib.Core.Bool.{Bool, true, false}
use mathlib.Core.List.{List, [], ◌∷◌, ◌++◌, map}
use Prim.Native.Nat.{ℕ, suc, ◌*◌, ◌/◌, ◌%◌}
use native.Mathlib.Omega.{arith}
use lib.ListN.{length, take}
use Rattle.base.specs.Bit.{tabulate}
use Rattle.base.proofs.List.{tabulate-cong}
use Rattle.list.specs.Sort.{sort, up_to, in_order}
use Rattle.list.specs.Paths.{split, phase, candidate}
use Rattle.list.proofs.Sort.{map-tabulate, sort-map, take-map}

split-tabulate : (ps : List (List Bool)) → split ps ≡ tabulate (2 * length ps) (candidate ps)
unfolding split tabulate
split-tabulate [] = refl
split-tabulate (p ∷ ps) =
    let e : 2 * suc (length ps) ≡ suc (suc (2 * length ps)) = omega arith in
    rw e
    (ap (λ (l : List (List Bool)). (p ++ (false ∷ [])) ∷ (p ++ (true ∷ [])) ∷ l)
    (split-tabulate ps ∙ tabulate-cong (2 * length ps) {f = candidate ps} {g = λ c. candidate (p ∷ ps) (suc (suc c))} (λ c _. next c)))
  where
    next : (c : ℕ) → candidate ps c ≡ candidate (p ∷ ps) (suc (suc c))
    next c =
        let q : suc (suc c) / 2 ≡ suc (c / 2) = omega arith in
        let r : suc (suc c) % 2 ≡ c % 2 = omega arith in
        rw (q, r)

-- The candidates in the order of their numbers are those of the split: number 2i + b is path i with symbol b.
pub split-candidates : (ps : List (List Bool)) → split ps ≡ map (candidate ps) (up_to (2 * length ps))
split-candidates ps = split-tabulate ps ∙ sym (map-tabulate (candidate ps) (2 * length ps) (λ i. i))

-- At a marked phase the paths that stay are the first L candidates in the order of their penalties.
pub phase-order : (penalty : List Bool → ℕ) (L : ℕ) (ps : List (List Bool))
    → phase penalty L true ps ≡ map (candidate ps) (take L (in_order (λ c. penalty (candidate ps c)) (2 * length ps)))
unfolding phase in_order
phase-order penalty L ps =
    ap (λ (l : List (List Bool)). take L (sort penalty l)) (split-candidates ps)
    ∙ ap (take L) (sort-map penalty (candidate ps) (up_to (2 * length ps)))
    ∙ take-map (candidate ps) L (in_order (λ c. penalty (candidate ps c)) (2 * length ps))
