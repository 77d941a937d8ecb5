-- `lane_totals::opening` meets its contract: the phases past q reach no further. Assumes nothing.
use mathlib.Core.Path.{◌≡◌, subst⁻¹}
use Prim.Native.Nat.{ℕ, ◌-◌, ◌≤◌, ◌<◌}
use native.Mathlib.Decide.{dec_lt}
use native.Mathlib.Omega.{arith}
use Rattle.lane_totals.specs.Totals.{Again}
use borrow.Author.Rules.{rules}
use Rattle.lane_totals.proofs.opening.Goals as goal

-- One phase more that reaches no further.
one_more : (k q n : ℕ) → Again k q → ((p : ℕ) → q < p → p ≤ n → Again k p) → (p : ℕ) → q - 1 < p → p ≤ n → Again k p
one_more k q n f h p l m = go (dec_lt q p)
  where
    go : Dec (q < p) → Again k p
    go (yes g) = h p g m
    go (no g) = let e : p ≡ q = omega arith in subst⁻¹ (λ s. Again k s) e f

pub loop-q-preserved : goal.loop-q-preserved
loop-q-preserved c =
    let k = c.loop-q in
    let a = c.args in
    (search rules, one_more a.kernel k.q a.phase (c.again.ensures.0 c.loop-q-test.true).1 k.invariant.1)
